use Rattle.std.proofs.Common.{◌≡◌, ◌≤◌, ◌+◌, ◌-◌, ◌*◌, ◌++◌, length, take, drop}
use Rattle.spanner_library.specs.Cells.{row_cells}
use Rattle.spanner_library.proofs.cells.put_row.Given as goal

abbrev pub invariant-loop-k : goal.invariant-loop-k
invariant-loop-k l = record {
  within : l.k ≤ length l.spans;
  len : length l.out ≡ length l.fn.out;
  put : take (l.at + 2 * l.k) l.out ≡ take l.at l.fn.out ++ row_cells (take l.k l.spans);
  behind : drop (l.at + 2 * l.k) l.out ≡ drop (l.at + 2 * l.k) l.fn.out;
}

abbrev pub decreases-loop-k : goal.decreases-loop-k
decreases-loop-k l = length l.spans - l.k
