use Rattle.std.proofs.Common.{◌≡◌, ◌+◌, ◌≤◌, ◌++◌, take, drop, length}
use Rattle.row_writer.specs.Lines.{spans_text, spans_fields, more_fields}
use Rattle.row_writer.specs.Room.{fields_room}
use Rattle.row_writer.proofs.spans.put_spans.Given as goal

abbrev pub invariant-loop-k : goal.invariant-loop-k
invariant-loop-k l = record {
  written : take l.end l.buffer ++ more_fields 32 (spans_fields l.doc l.texts (drop l.k l.vars) (drop l.k l.row)) ≡ take l.fn.at l.fn.buffer ++ spans_text l.vars l.row l.doc l.texts;
  room : l.end + 1 + fields_room l.texts (drop l.k l.row) ≤ length l.buffer;
}
