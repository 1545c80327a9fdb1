use Rattle.spanner_engine.proofs.Past.{AreAtomsWithin}
use Rattle.spanner_engine.proofs.place.ends_past.Given as goal

abbrev pub invariant-loop-k : goal.invariant-loop-k
invariant-loop-k l = AreAtomsWithin l.n l.k l.row
