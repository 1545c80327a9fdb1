use Rattle.std.proofs.Common.{◌≡◌, take, map}
use Rattle.algebra.specs.Renaming.{shift_of}
use Rattle.algebra.proofs.renaming.shifts.Given as goal

abbrev pub invariant-loop-k : goal.invariant-loop-k
invariant-loop-k l = l.shifts.items ≡ map (shift_of l.names l.other l.wanted) (take l.k l.all)
