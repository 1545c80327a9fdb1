use Rattle.std.proofs.Common.{refl, arith, length}
use Rattle.std.proofs.lemmas.Bool.Decides.{nat_tests}
use Rattle.way_exits.proofs.ClassLaws.{one_below, zeros_below}
use Rattle.way_exits.proofs.classes.Classes.of_parts.Goals as goal

pub loop-byte-init : goal.loop-byte-init
loop-byte-init c = zeros_below (length c.args.parts.now) (grind (arith, nat_tests, c.is_empty.ensures, c.if-is_empty.false)) _ refl

pub loop-byte-preserved : goal.loop-byte-preserved
loop-byte-preserved c = one_below (length c.args.parts.now) c.loop-byte.numbers c.loop-byte.byte _ (omega arith) c.part_with.ensures c.loop-byte.invariant
