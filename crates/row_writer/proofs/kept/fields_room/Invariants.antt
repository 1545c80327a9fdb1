use Rattle.std.proofs.Common.{◌≡◌, ◌+◌, ◌*◌, ◌^◌, ◌≤◌, drop, true}
use Rattle.row_writer.specs.Kept.{heads_of, line_room}
use Rattle.row_writer.proofs.kept.fields_room.Given as goal

abbrev pub invariant-loop-k : goal.invariant-loop-k
invariant-loop-k l = record {
  counted : l.room + line_room true (drop l.k (heads_of l.fields)) (drop l.k l.spans) ≡ 64 + line_room true (heads_of l.fields) l.spans;
  few : l.room ≤ 64 + l.k * 2 ^ 35;
}
