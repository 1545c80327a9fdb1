use Rattle.std.proofs.Common.{◌∙◌, sym, ap}
use Rattle.std.specs.FinSet.{intersection}
use Rattle.byte_runs.proofs.SetLaws.{same_bytes}
use Rattle.byte_runs.proofs.skipper.are_equal.Goals as goal

pub returns-then-is_empty : goal.returns-then-is_empty
returns-then-is_empty c is =
    let a = c.args.a.now in
    let b = c.args.b.now in
    same_bytes a b
    (ap (intersection a) (sym c.negation.ensures) ∙ sym c.meet.ensures ∙ c.is_empty.ensures.0 c.if-is_empty.true)
    (ap (intersection b) (sym c.negation-then-is_empty.ensures) ∙ sym c.meet-then-is_empty.ensures ∙ c.is_empty-then-is_empty.ensures.0 is)
