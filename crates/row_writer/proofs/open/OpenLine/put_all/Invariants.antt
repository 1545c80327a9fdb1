use Rattle.std.proofs.Common.{◌≡◌, ◌+◌, ◌*◌, ◌≤◌, ◌++◌, take}
use Rattle.std.specs.List.{flat_map}
use Rattle.row_writer.specs.Open.{AreTens, open_text}
use Rattle.row_writer.proofs.open.OpenLine.put_all.Given as goal

abbrev pub invariant-loop-number : goal.invariant-loop-number
invariant-loop-number l = record {
  tens : AreTens l.fn.self l.tens.first l.tens.digit l.tens.len l.tens.bytes;
  within : l.end ≤ l.fn.at + 122 * l.number-index;
  written : take l.end l.buffer ≡ take l.fn.at l.fn.buffer ++ flat_map (open_text l.fn.self) (take l.number-index l.numbers);
}
