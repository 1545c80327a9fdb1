use Rattle.std.proofs.Common.{Some, ap, if◌then◌else◌, bytes_eq, ◌∙◌, List, Option, ℕ}
use Rattle.memory_run.proofs.memory_run.MemoryRun.add_document.Goals as goal

pub hold-requires : goal.hold-requires
hold-requires c = ap (λ (held : List ℕ → Option (List ℕ)). held c.args.name.now) c.holds.ensures.documents ∙ c.if-holds.ensures.no

pub returns-then-holds-clause-err : goal.returns-then-holds-clause-err
returns-then-holds-clause-err c = λ n. ap (λ (held : List ℕ → Option (List ℕ)). held n) c.holds.ensures.documents

pub returns-in-Ok-clause-ok : goal.returns-in-Ok-clause-ok
returns-in-Ok-clause-ok c = λ n.
    c.in-Ok.ensures.ok n ∙ ap (λ (held : List ℕ → Option (List ℕ)). if bytes_eq c.args.name.now n then Some c.args.bytes.now else held n) c.holds.ensures.documents

pub returns-in-Err-clause-err : goal.returns-in-Err-clause-err
returns-in-Err-clause-err c = λ n. c.in-Err.ensures.err n ∙ ap (λ (held : List ℕ → Option (List ℕ)). held n) c.holds.ensures.documents
