use Rattle.std.proofs.Common.{◌≡◌, length, take}
use Rattle.settled_states.specs.Covering.{AreBytesInto}
use Rattle.settled_states.proofs.lasting.bytes_into.Given as goal

abbrev pub invariant-loop-way : goal.invariant-loop-way
invariant-loop-way l = record {
  len : length l.sets.items ≡ length l.good;
  exactly : AreBytesInto (take l.way-index l.ways) l.good l.sets.items;
}
