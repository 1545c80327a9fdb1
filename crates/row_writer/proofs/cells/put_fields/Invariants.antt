use Rattle.std.proofs.Common.{◌≡◌, ◌+◌, ◌≤◌, ◌++◌, take, drop}
use Rattle.row_writer.specs.Kept.{cells_text, heads_of, line_room}
use Rattle.row_writer.proofs.cells.put_fields.Given as goal

abbrev pub invariant-loop-k : goal.invariant-loop-k
invariant-loop-k l = record {
  heads : heads_of l.fields ≡ heads_of l.fn.fields;
  written : take l.end l.buffer ++ cells_text l.doc l.texts (drop l.k (heads_of l.fn.fields)) (drop l.k l.spans)
      ≡ take l.fn.at l.fn.buffer ++ cells_text l.doc l.texts (heads_of l.fn.fields) l.spans;
  room : l.end + line_room l.texts (drop l.k (heads_of l.fn.fields)) (drop l.k l.spans) ≤ l.fn.at + line_room l.texts (heads_of l.fn.fields) l.spans;
}
