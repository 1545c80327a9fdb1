use Rattle.std.proofs.Common.{◌≤◌, ◌-◌, length}
use Rattle.one_pass.specs.Going.{IsAdvanced}
use Rattle.one_pass.specs.Numbered.{StandsIn, as_layer}
use Rattle.one_pass.proofs.pass.Pass.read.Given as goal

-- the bytes so far have been read
abbrev pub invariant-loop-i : goal.invariant-loop-i
invariant-loop-i g l = record {
  within : l.i ≤ length l.piece;
  advanced : IsAdvanced l.fn.table l.fn.self l.fn.steps l.piece l.i l.table (as_layer l.layer l.self) l.steps;
  stands : StandsIn l.table l.self.graph l.self.known l.layer;
}

abbrev pub decreases-loop-i : goal.decreases-loop-i
decreases-loop-i g l = length l.piece - l.i
