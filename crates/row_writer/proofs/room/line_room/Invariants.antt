use Rattle.std.proofs.Common.{◌≡◌, ◌+◌, ◌*◌, ◌^◌, ◌≤◌, drop}
use Rattle.row_writer.specs.Room.{fields_room}
use Rattle.row_writer.proofs.room.line_room.Given as goal

abbrev pub invariant-loop-k : goal.invariant-loop-k
invariant-loop-k l = record {
  counted : l.room + fields_room l.texts (drop l.k l.row) ≡ 3 + fields_room l.texts l.row;
  few : l.room ≤ 3 + l.k * (2 ^ 34 + 2 ^ 10);
}
