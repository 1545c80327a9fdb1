use Rattle.std.proofs.Common.{refl, arith}
use Rattle.way_exits.proofs.ClassLaws.{one_below, zeros_below}
use Rattle.way_exits.proofs.classes.Classes.each.Goals as goal

pub loop-byte-init : goal.loop-byte-init
loop-byte-init c = zeros_below 256 (omega arith) _ refl

pub loop-byte-preserved : goal.loop-byte-preserved
loop-byte-preserved c = one_below 256 c.loop-byte.numbers c.loop-byte.byte _ (omega arith) (omega arith) c.loop-byte.invariant
