use Rattle.std.proofs.Common.{◌≡◌, drop}
use Rattle.algebra.specs.JoinedNames.{all_names}
use Rattle.algebra.proofs.renaming.names_of_both.Given as goal

abbrev pub invariant-loop-k : goal.invariant-loop-k
invariant-loop-k l = all_names l.names (drop l.k l.b) ≡ all_names l.a l.b
