use Rattle.std.proofs.Common.{◌≤◌, ◌-◌, length, take}
use Rattle.spanner_model.specs.Passing.{AreKnown, known}
use Rattle.query_parser.proofs.binding.bind.Given as goal

abbrev pub invariant-loop-k : goal.invariant-loop-k
invariant-loop-k g l = (l.k ≤ length l.tested.asked) × AreKnown (known l.tests g.J.Judge.judges) (take l.k l.tested.asked)

abbrev pub decreases-loop-k : goal.decreases-loop-k
decreases-loop-k g l = length l.tested.asked - l.k
