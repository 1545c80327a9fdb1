use Rattle.std.proofs.Common.{◌≤◌, ◌-◌, length}
use Rattle.query_parser.specs.TokenRuns.{Run}
use Rattle.query_parser.specs.TestSteps.{no_test_read, test_move}
use Rattle.query_parser.specs.TestAnswers.{tests_of}
use Rattle.query_parser.proofs.tested.read_tests.Given as goal

abbrev pub invariant-loop-at : goal.invariant-loop-at
invariant-loop-at l = record {
  within : l.at ≤ length l.text;
  run : Run test_move l.text l.from no_test_read l.at (tests_of l.tests);
}

abbrev pub decreases-loop-at : goal.decreases-loop-at
decreases-loop-at l = length l.text - l.at
