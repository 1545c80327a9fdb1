use Rattle.std.proofs.Common.{◌≡◌, ◌+◌, ◌*◌, ◌≤◌, ◌++◌, take}
use Rattle.row_writer.specs.Lines.{text_form}
use Rattle.row_writer.proofs.forms.put_form.Given as goal

abbrev pub invariant-loop-byte : goal.invariant-loop-byte
invariant-loop-byte l = record {
  within : l.end ≤ l.fn.at + 4 * l.byte-index;
  written : take l.end l.buffer ≡ take l.fn.at l.fn.buffer ++ text_form (take l.byte-index l.bytes);
}
