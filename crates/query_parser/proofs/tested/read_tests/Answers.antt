use Rattle.std.proofs.Common.{rules, ◌+◌, ◌≤◌, length, arith, length-drop}
use Rattle.std.proofs.lemmas.Result.{err_from_is_err_and}
use Rattle.std.proofs.lemmas.List.{drop_all}
use Rattle.query_parser.specs.TestSteps.{test_move}
use Rattle.query_parser.specs.TestAnswers.{tests_of}
use Rattle.query_parser.proofs.RunsMeet.{run_on}
use Rattle.query_parser.proofs.TestTurns.{turn_goes, turn_fails}
use Rattle.query_parser.proofs.TestedCode.{tests_whole, tests_cut, run_begins}
use Rattle.query_parser.proofs.tested.read_tests.Goals as goal

pub loop-at-init : goal.loop-at-init
loop-at-init c = record { within = c.requires.within; run = run_begins c.args.text.now c.args.from (tests_of c.new-tests.result) c.new-tests.ensures }

pub returns-in_err-at : goal.returns-in_err-at
returns-in_err-at c =
    let p = err_from_is_err_and c.from_residual.result c.from_residual.ensures.1 in
    rw (p.1, p.2) (turn_fails c.args.text.now c.args.from c.loop-at.at (tests_of c.loop-at.tests) (tests_of c.test_turn.new.tests) _ _ c.split_at.ensures.back
    (omega (arith, c.loop-at-test.true, length-drop c.loop-at.at c.args.text.now)) c.loop-at.invariant.run c.in_err-at.ensures)

pub overflow_add-at : goal.overflow_add-at
overflow_add-at c =
    let w = turn_goes c.args.text.now c.loop-at.at c.in_ok-at.field-0 (tests_of c.loop-at.tests) (tests_of c.test_turn.new.tests) _ c.split_at.ensures.back
    (omega (arith, c.loop-at-test.true, length-drop c.loop-at.at c.args.text.now)) c.in_ok-at.ensures in
    let within : c.loop-at.at + c.in_ok-at.field-0 ≤ length c.args.text.now = omega (arith, w.2, length-drop c.loop-at.at c.args.text.now, c.loop-at.invariant.within) in
    search (rules, within, c.requires.short)

pub loop-at-smaller : goal.loop-at-smaller
loop-at-smaller c =
    let w = turn_goes c.args.text.now c.loop-at.at c.in_ok-at.field-0 (tests_of c.loop-at.tests) (tests_of c.test_turn.new.tests) _ c.split_at.ensures.back
    (omega (arith, c.loop-at-test.true, length-drop c.loop-at.at c.args.text.now)) c.in_ok-at.ensures in
    omega (arith, w.1, w.2, length-drop c.loop-at.at c.args.text.now, c.loop-at.invariant.within)

pub loop-at-preserved : goal.loop-at-preserved
loop-at-preserved c =
    let w = turn_goes c.args.text.now c.loop-at.at c.in_ok-at.field-0 (tests_of c.loop-at.tests) (tests_of c.test_turn.new.tests) _ c.split_at.ensures.back
    (omega (arith, c.loop-at-test.true, length-drop c.loop-at.at c.args.text.now)) c.in_ok-at.ensures in
    record {
      within = omega (arith, w.2, length-drop c.loop-at.at c.args.text.now, c.loop-at.invariant.within);
      run = run_on test_move c.args.text.now c.loop-at.invariant.run w.0;
    }

pub returns-then-is_whole : goal.returns-then-is_whole
returns-then-is_whole c =
    tests_whole c.args.text.now c.args.from c.loop-at.at (tests_of c.loop-at.tests) c.is_whole.result c.loop-at.invariant.run
    (drop_all c.loop-at.at c.args.text.now (omega (arith, c.loop-at-test.false)))
    c.is_whole.ensures c.if-is_whole.true

pub returns : goal.returns
returns c =
    tests_cut c.args.text.now c.args.from c.loop-at.at (tests_of c.loop-at.tests) c.is_whole.result c.loop-at.invariant.run
    (drop_all c.loop-at.at c.args.text.now (omega (arith, c.loop-at-test.false)))
    c.is_whole.ensures c.if-is_whole.false
