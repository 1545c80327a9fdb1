use Rattle.std.proofs.Common.{◌≡◌, ◌+◌, ◌≤◌, ◌-◌, true, length, take}
use Rattle.spanner_model.specs.Passing.{checks_of, known, passes}
use Rattle.spanner_engine.proofs.tested.all_hold.Given as goal

abbrev pub invariant-loop-k : goal.invariant-loop-k
invariant-loop-k g l = record {
  within : l.k ≤ length l.asked;
  before : passes (checks_of (known l.tests g.J.Judge.judges) (take l.k l.asked)) l.vars l.doc l.spans ≡ true;
  steps : l.steps ≤ l.fn.steps + l.k;
}

abbrev pub decreases-loop-k : goal.decreases-loop-k
decreases-loop-k g l = length l.asked - l.k
