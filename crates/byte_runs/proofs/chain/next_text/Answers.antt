use Rattle.std.proofs.Common.{ℕ, List, arith, subst, Some, None}
use Rattle.memchr.specs.Find.{FindsNeedle}
use Rattle.byte_runs.proofs.ChainLaws.{text_found, text_nowhere, text_within}
use Rattle.byte_runs.proofs.chain.next_text.Goals as goal

pub returns-in-Some-clause-within : goal.returns-in-Some-clause-within
returns-in-Some-clause-within c =
    text_within c.args.sets.now c.args.offset c.args.text.now c.args.bytes.now c.args.place c.requires.text (λ i. let f = c.type_inv.bytes i in omega (arith, f)) c.in-Some.found
    c.if-offset-bytes.false c.requires.place (subst (λ (d : List ℕ). FindsNeedle d c.args.text.now 0 (Some c.in-Some.found)) c.split_at.ensures.back c.in-Some.ensures)

pub returns-in-Some-clause-none : goal.returns-in-Some-clause-none
returns-in-Some-clause-none c =
    text_found c.args.sets.now c.args.offset c.args.text.now c.args.bytes.now c.args.place c.requires.text (λ i. let f = c.type_inv.bytes i in omega (arith, f)) c.in-Some.found
    (subst (λ (d : List ℕ). FindsNeedle d c.args.text.now 0 (Some c.in-Some.found)) c.split_at.ensures.back c.in-Some.ensures)

pub returns-in-None-clause-none : goal.returns-in-None-clause-none
returns-in-None-clause-none c j late less =
    text_nowhere c.args.sets.now c.args.offset c.args.text.now c.args.bytes.now c.args.place c.requires.text (λ i. let f = c.type_inv.bytes i in omega (arith, f))
    c.if-offset-bytes.false c.requires.place (subst (λ (d : List ℕ). FindsNeedle d c.args.text.now 0 None) c.split_at.ensures.back c.in-None.ensures) j late
