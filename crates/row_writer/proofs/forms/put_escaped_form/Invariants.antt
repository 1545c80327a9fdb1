use Rattle.std.proofs.Common.{◌≡◌, ◌+◌, ◌*◌, ◌≤◌, ◌++◌, take}
use Rattle.std.specs.List.{flat_map}
use Rattle.row_writer.specs.Escapes.{escaped_form}
use Rattle.row_writer.proofs.forms.put_escaped_form.Given as goal

abbrev pub invariant-loop-byte : goal.invariant-loop-byte
invariant-loop-byte l = record {
  within : l.end ≤ l.fn.at + 5 * l.byte-index;
  written : take l.end l.buffer ≡ take l.fn.at l.fn.buffer ++ flat_map escaped_form (take l.byte-index l.bytes);
}
