use Rattle.std.proofs.Common.{◌≤◌, ◌-◌, length}
use Rattle.query_parser.specs.View.{nest_of}
use Rattle.query_parser.specs.TokenRuns.{IsReadTo}
use Rattle.query_parser.proofs.tested.read_turns.Given as goal

abbrev pub invariant-loop-at : goal.invariant-loop-at
invariant-loop-at l = record {
  within : l.at ≤ length l.text;
  reads : IsReadTo l.text l.at (nest_of l.nest);
}

abbrev pub decreases-loop-at : goal.decreases-loop-at
decreases-loop-at l = length l.text - l.at
