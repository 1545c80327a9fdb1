use Rattle.std.proofs.Common.{arith}
use Rattle.span_core.proofs.ListLaws.{prefix_then}
use Rattle.query_printer.proofs.PrintedTests.{test_put, tests_done}
use Rattle.query_printer.proofs.tested.push_tests.Goals as goal

pub loop-k-preserved : goal.loop-k-preserved
loop-k-preserved c = record {
  printed = test_put c.args.asked.now c.loop-k.k c.at.result.now c.loop-k.out.items c.push_given.new.out.items c.push_test.new.out.items _ c.at.ensures c.in_ok-push_given.ensures.ok
      c.in_ok-push_test.ensures.ok c.loop-k.invariant.printed;
  front = prefix_then _ _ _ (prefix_then _ _ _ c.loop-k.invariant.front c.in_ok-push_given.ensures.front) c.in_ok-push_test.ensures.front;
}

pub returns-clause-ok : goal.returns-clause-ok
returns-clause-ok c = tests_done c.args.asked.now c.loop-k.k c.loop-k.out.items _ (omega (arith, c.len-k-end.ensures, c.loop-k-test.false)) c.loop-k.invariant.printed
