use Rattle.std.proofs.Common.{◌≡◌, take}
use Rattle.algebra_minus.proofs.rows.by_marks.Given as goal

abbrev pub invariant-loop-way : goal.invariant-loop-way
invariant-loop-way l = l.sorted.items ≡ take l.way-index l.ways
