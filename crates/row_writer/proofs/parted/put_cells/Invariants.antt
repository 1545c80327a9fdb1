use Rattle.std.proofs.Common.{◌≡◌, ◌+◌, ◌*◌, ◌≤◌, ◌++◌, take, drop, false}
use Rattle.row_writer.specs.Kept.{cells_text, heads_of}
use Rattle.row_writer.proofs.parted.put_cells.Given as goal

abbrev pub invariant-loop-k : goal.invariant-loop-k
invariant-loop-k l = record {
  heads : heads_of l.fields ≡ heads_of l.fn.fields;
  written : take l.end l.buffer ++ cells_text l.doc false (drop l.k (heads_of l.fn.fields)) (drop l.k l.spans)
      ≡ take l.fn.at l.fn.buffer ++ cells_text l.doc false (drop l.from (heads_of l.fn.fields)) (drop l.from l.spans);
  room : l.end + 64 * l.from ≤ l.fn.at + 64 * l.k;
}
