use Rattle.std.proofs.Common.{rules, Bool, sym, subst, ◌+◌, ◌≤◌, length, arith, length-drop}
use Rattle.std.proofs.lemmas.Result.{err_from_is_err_and}
use Rattle.std.proofs.lemmas.List.{drop_all}
use Rattle.spanner_model.specs.declared.query.Query.{Query}
use Rattle.spanner_model.specs.ExprView.{query_of}
use Rattle.query_parser.specs.View.{nest_of}
use Rattle.query_parser.specs.TestSteps.{IsReadAs}
use Rattle.query_parser.proofs.TurnLaws.{turn_within}
use Rattle.query_parser.proofs.TestedReading.{turn_runs}
use Rattle.query_parser.proofs.TestedCode.{where_told, where_not, query_begins, query_fails, query_ends_fails, query_ends}
use Rattle.query_parser.proofs.tested.read_turns.Goals as goal

pub loop-at-init : goal.loop-at-init
loop-at-init c = record { within = omega arith; reads = query_begins c.args.text.now (nest_of c.new-nest.result) c.new-nest.ensures }

pub read_where-requires-clause-word : goal.read_where-requires-clause-word
read_where-requires-clause-word c =
    (where_told c.args.text.now c.loop-at.at (nest_of c.loop-at.nest) _ c.begins_tests.result c.split_at.ensures.back c.begins_tests.ensures c.if-begins_tests.true).1

pub returns-in_err-at : goal.returns-in_err-at
returns-in_err-at c =
    let p = err_from_is_err_and c.from_residual.result c.from_residual.ensures.1 in
    let none = where_not c.args.text.now c.loop-at.at (nest_of c.loop-at.nest) _ c.begins_tests.result c.split_at.ensures.back c.begins_tests.ensures c.if-begins_tests.false in
    rw (p.1, p.2) (query_fails c.args.text.now c.loop-at.at (nest_of c.loop-at.nest) (nest_of c.take_turn.new.nest) _ c.loop-at.invariant.reads none c.in_err-at.ensures)

pub overflow_add-at : goal.overflow_add-at
overflow_add-at c =
    let w = turn_within c.args.text.now c.loop-at.at (nest_of c.loop-at.nest) (nest_of c.take_turn.new.nest) c.in_ok-at.field-0 c.in_ok-at.ensures in
    let within : c.loop-at.at + c.in_ok-at.field-0 ≤ length c.args.text.now = omega (arith, w.1, length-drop c.loop-at.at c.args.text.now, c.loop-at.invariant.within) in
    search (rules, within, c.requires)

pub loop-at-smaller : goal.loop-at-smaller
loop-at-smaller c =
    let w = turn_within c.args.text.now c.loop-at.at (nest_of c.loop-at.nest) (nest_of c.take_turn.new.nest) c.in_ok-at.field-0 c.in_ok-at.ensures in
    omega (arith, w.0, w.1, length-drop c.loop-at.at c.args.text.now, c.loop-at.invariant.within)

pub loop-at-preserved : goal.loop-at-preserved
loop-at-preserved c =
    let w = turn_within c.args.text.now c.loop-at.at (nest_of c.loop-at.nest) (nest_of c.take_turn.new.nest) c.in_ok-at.field-0 c.in_ok-at.ensures in
    record {
      within = omega (arith, w.1, length-drop c.loop-at.at c.args.text.now, c.loop-at.invariant.within);
      reads = turn_runs c.args.text.now c.loop-at.at c.in_ok-at.field-0 (nest_of c.loop-at.nest) (nest_of c.take_turn.new.nest) c.in_ok-at.ensures c.loop-at.invariant.reads;
    }

pub returns-in_err-query : goal.returns-in_err-query
returns-in_err-query c =
    let p = err_from_is_err_and c.from_residual-in_err-query.result c.from_residual-in_err-query.ensures.1 in
    rw (p.1, p.2) (query_ends_fails c.args.text.now c.loop-at.at (nest_of c.loop-at.nest) _ c.loop-at.invariant.reads
    (drop_all c.loop-at.at c.args.text.now (omega (arith, c.loop-at-test.false))) c.in_err-query.ensures)

pub returns : goal.returns
returns c =
    let x : Query × Bool = (c.in_ok-query.query, c.in_ok-query.many) in
    subst (IsReadAs c.args.text.now (query_of c.in_ok-query.query) c.in_ok-query.many) (sym c.new.ensures)
    (query_ends c.args.text.now c.loop-at.at (nest_of c.loop-at.nest) x c.loop-at.invariant.reads (drop_all c.loop-at.at c.args.text.now (omega (arith, c.loop-at-test.false))) c.in_ok-query.ensures)
