use Rattle.std.proofs.Common.{◌-◌}
use Rattle.rematch_c.proofs.RowLaws.{RowSoFar}
use Rattle.rematch_c.proofs.numbers.row_of.Given as goal

abbrev pub invariant-loop-k : goal.invariant-loop-k
invariant-loop-k l = RowSoFar l.variables l.n l.numbers l.k l.row

abbrev pub decreases-loop-k : goal.decreases-loop-k
decreases-loop-k l = l.variables - l.k
