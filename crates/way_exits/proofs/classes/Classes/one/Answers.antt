use Rattle.std.proofs.Common.{refl, arith}
use Rattle.way_exits.proofs.ClassLaws.{zeros_below}
use Rattle.way_exits.proofs.classes.Classes.one.Goals as goal

pub invariant_of-result : goal.invariant_of-result
invariant_of-result c = record { few = omega arith; within = (zeros_below 1 (omega arith) _ refl).below }
