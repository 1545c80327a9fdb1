use Rattle.std.proofs.Common.{rules, ◌+◌, ◌≤◌, length, arith, length-drop}
use Rattle.std.proofs.lemmas.Result.{err_from_is_err_and}
use Rattle.std.proofs.lemmas.List.{drop_all}
use Rattle.query_parser.specs.View.{nest_of}
use Rattle.query_parser.proofs.TurnLaws.{turn_within, turn_on, turn_fails, end_answers}
use Rattle.query_parser.proofs.reader.read_by_turns.Goals as goal

pub returns-in_err-at : goal.returns-in_err-at
returns-in_err-at c =
    let p = err_from_is_err_and c.from_residual.result c.from_residual.ensures.1 in
    rw (p.1, p.2) (turn_fails c.args.text.now c.loop-at.at (nest_of c.loop-at.nest) (nest_of c.take_turn.new.nest) _ _ c.in_err-at.ensures c.loop-at.invariant.goes_on)

pub overflow_add-at : goal.overflow_add-at
overflow_add-at c =
    let w = turn_within c.args.text.now c.loop-at.at (nest_of c.loop-at.nest) (nest_of c.take_turn.new.nest) c.in_ok-at.field-0 c.in_ok-at.ensures in
    let bound = length-drop c.loop-at.at c.args.text.now in
    let within : c.loop-at.at + c.in_ok-at.field-0 ≤ length c.args.text.now = omega (arith, w.1, bound, c.loop-at.invariant.within) in
    search (rules, within, c.requires)

pub loop-at-smaller : goal.loop-at-smaller
loop-at-smaller c =
    let w = turn_within c.args.text.now c.loop-at.at (nest_of c.loop-at.nest) (nest_of c.take_turn.new.nest) c.in_ok-at.field-0 c.in_ok-at.ensures in
    omega (arith, w.0, w.1, length-drop c.loop-at.at c.args.text.now, c.loop-at.invariant.within)

pub loop-at-preserved : goal.loop-at-preserved
loop-at-preserved c =
    let w = turn_within c.args.text.now c.loop-at.at (nest_of c.loop-at.nest) (nest_of c.take_turn.new.nest) c.in_ok-at.field-0 c.in_ok-at.ensures in
    record {
      within = omega (arith, w.1, length-drop c.loop-at.at c.args.text.now, c.loop-at.invariant.within);
      goes_on = λ r ends. c.loop-at.invariant.goes_on r (turn_on c.args.text.now c.loop-at.at c.in_ok-at.field-0 (nest_of c.loop-at.nest) (nest_of c.take_turn.new.nest) r c.in_ok-at.ensures ends);
    }

pub returns : goal.returns
returns c =
    end_answers c.args.text.now c.loop-at.at (nest_of c.loop-at.nest) c.finish.result _ (drop_all c.loop-at.at c.args.text.now (omega (arith, c.loop-at-test.false))) c.finish.ensures
    c.loop-at.invariant.goes_on
