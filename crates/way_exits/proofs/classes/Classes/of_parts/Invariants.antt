use Rattle.std.proofs.Common.{length}
use Rattle.way_exits.proofs.ClassLaws.{AreBelow}
use Rattle.way_exits.proofs.classes.Classes.of_parts.Given as goal

abbrev pub invariant-loop-byte : goal.invariant-loop-byte
invariant-loop-byte l = AreBelow (length l.parts) l.numbers
