use Rattle.std.proofs.Common.{◌≡◌, ◌+◌, ◌*◌, ◌≤◌, ◌++◌, take, drop, length}
use Rattle.span_core.specs.declared.TheConstants.{MOST_NAME_BYTES}
use Rattle.row_writer.specs.Lines.{head_text, more_fields}
use Rattle.row_writer.proofs.head.put_head.Given as goal

abbrev pub invariant-loop-k : goal.invariant-loop-k
invariant-loop-k l = record {
  written : take l.end l.buffer ++ more_fields 9 (drop l.k l.vars) ≡ take l.fn.at l.fn.buffer ++ head_text l.vars;
  room : l.end + 1 + length l.vars * (MOST_NAME_BYTES + 1) ≤ length l.buffer + l.k * (MOST_NAME_BYTES + 1);
}
