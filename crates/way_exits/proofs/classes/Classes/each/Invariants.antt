use Rattle.way_exits.proofs.ClassLaws.{AreBelow}
use Rattle.way_exits.proofs.classes.Classes.each.Given as goal

abbrev pub invariant-loop-byte : goal.invariant-loop-byte
invariant-loop-byte l = AreBelow 256 l.numbers
