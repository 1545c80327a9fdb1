use Rattle.std.proofs.Common.{◌≤◌, ◌-◌, length}
use Rattle.query_parser.specs.Nest.{outermost}
use Rattle.query_parser.specs.View.{nest_of}
use Rattle.query_parser.specs.Step.{EndsReading}
use Rattle.query_parser.proofs.TextLaws.{Answer}
use Rattle.query_parser.proofs.reader.read_by_turns.Given as goal

abbrev pub invariant-loop-at : goal.invariant-loop-at
invariant-loop-at l = record {
  within : l.at ≤ length l.text;
  goes_on : (r : Answer) → EndsReading l.text l.at (nest_of l.nest) r → EndsReading l.text 0 outermost r;
}

abbrev pub decreases-loop-at : goal.decreases-loop-at
decreases-loop-at l = length l.text - l.at
