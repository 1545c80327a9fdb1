use Rattle.std.proofs.Common.{◌≡◌, ◌∙◌, List, length, sym, ap, subst}
use Rattle.marked_automaton.specs.Automaton.{Marked}
use Rattle.spanner_model.specs.ExprView.{query_of}
use Rattle.spanner_model.specs.Captures.{VarName}
use Rattle.session_server.specs.Standing.{IsStartHalt}
use Rattle.session_server.specs.declared.session.Halt.{Halt}
use Rattle.session_server.proofs.Refusals.{heavy_table}
use Rattle.session_server.proofs.session.all_of.Goals as goal

pub returns-in-Ok-clause-growing : goal.returns-in-Ok-clause-growing
returns-in-Ok-clause-growing g c =
    let q = query_of c.args.compiled.query in
    let names : c.into_automaton-automaton.result.names ≡ c.copy-vars.result = ap (λ (A : Marked). A.names) c.into_automaton-automaton.ensures.automaton ∙ sym (c.copy-vars.ensures ∙ c.vars.ensures) in
    rw (← names) (c.in-Ok.ensures.growing q c.into_automaton-automaton.ensures.compiled)

pub returns-in-Ok-clause-all : goal.returns-in-Ok-clause-all
returns-in-Ok-clause-all g c =
    let q = query_of c.args.compiled.query in
    let names : c.into_automaton-automaton.result.names ≡ c.copy-vars.result = ap (λ (A : Marked). A.names) c.into_automaton-automaton.ensures.automaton ∙ sym (c.copy-vars.ensures ∙ c.vars.ensures) in
    rw (← names) (c.in-Ok.ensures.all q c.into_automaton-automaton.ensures.compiled)

pub returns-in-Ok-clause-wide : goal.returns-in-Ok-clause-wide
returns-in-Ok-clause-wide g c =
    let names : c.into_automaton-automaton.result.names ≡ c.copy-vars.result = ap (λ (A : Marked). A.names) c.into_automaton-automaton.ensures.automaton ∙ sym (c.copy-vars.ensures ∙ c.vars.ensures) in
    c.in-Ok.ensures.wide ∙ ap (λ (ns : List VarName). length ns) names

pub returns-in-Err-Heavy-clause-refused : goal.returns-in-Err-Heavy-clause-refused
returns-in-Err-Heavy-clause-refused g c =
    let q = query_of c.args.compiled.query in
    let P : Halt → Type 0 = IsStartHalt q c.args.document.items in
    heavy_table q c.args.document.items c.of_table.result c.requires.small (subst P c.in-Err-Heavy.field-0-is (c.in-Err-Heavy.ensures.halted q c.into_automaton-automaton.ensures.compiled))
    c.of_table.ensures
