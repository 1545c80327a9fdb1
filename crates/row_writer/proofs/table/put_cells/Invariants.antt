use Rattle.std.proofs.Common.{◌≡◌, ◌+◌, ◌≤◌, ◌++◌, take, drop, map, length}
use Rattle.row_writer.specs.Lines.{table_text, shown, more_fields}
use Rattle.row_writer.specs.Room.{fields_room}
use Rattle.row_writer.proofs.table.put_cells.Given as goal

abbrev pub invariant-loop-k : goal.invariant-loop-k
invariant-loop-k l = record {
  written : take l.end l.buffer ++ more_fields 9 (map (shown l.doc l.texts) (drop l.k l.row)) ≡ take l.fn.at l.fn.buffer ++ table_text l.row l.doc l.texts;
  room : l.end + 1 + fields_room l.texts (drop l.k l.row) ≤ length l.buffer;
}
