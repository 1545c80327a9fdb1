use Rattle.std.proofs.Common.{◌≤◌, ◌-◌}
use Rattle.rm_outside.specs.LineInput.{left_of}
use Rattle.rm_outside.proofs.InputLaws.{IsTaking}
use Rattle.rm_outside.proofs.line_input.LineInput.take_line.Given as goal

abbrev pub invariant-loop-part : goal.invariant-loop-part
invariant-loop-part g l = record {
  taking : IsTaking l.limit
      (left_of l.fn.self.start l.fn.self.end l.fn.self.buffer.items (g.R.Reads.told l.fn.self.from).bytes)
      (left_of l.self.start l.self.end l.self.buffer.items (g.R.Reads.told l.self.from).bytes)
      l.fn.into.items l.into.items l.seen;
  later : (g.R.Reads.told l.fn.self.from).faults ≤ (g.R.Reads.told l.self.from).faults;
}

abbrev pub decreases-loop-part : goal.decreases-loop-part
decreases-loop-part g l = l.limit - l.seen
