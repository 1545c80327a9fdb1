use Rattle.std.proofs.Common.{◌≡◌, nat_eq, Some, sym, ap, ◌∙◌, eqb-true}
use Rattle.std.proofs.lemmas.Bool.{OnTrue_from}
use Rattle.span_core.specs.OrderLaws.{span_eq}
use Rattle.row_writer.proofs.run.is_same.Goals as goal

pub returns-then-a-b : goal.returns-then-a-b
returns-then-a-b c =
    let a = c.in-Some-Some.a in
    let b = c.in-Some-Some.b in
    OnTrue_from (nat_eq a.end b.end) (c.args.a ≡ c.args.b) (λ e. c.in-Some-Some.is-0 ∙ ap Some (span_eq a b c.if-a-b.true (eqb-true a.end b.end e)) ∙ sym c.in-Some-Some.is-1)
