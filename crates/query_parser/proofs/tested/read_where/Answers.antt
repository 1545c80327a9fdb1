use Rattle.std.proofs.Common.{rules, Bool}
use Rattle.std.proofs.lemmas.Result.{err_from_is_err_and}
use Rattle.spanner_model.specs.declared.query.Query.{Query}
use Rattle.spanner_model.specs.ExprView.{query_of}
use Rattle.query_parser.specs.TestSteps.{with_where}
use Rattle.query_parser.specs.View.{nest_of}
use Rattle.query_parser.proofs.TestedCode.{word_within, where_begins, whole_never_fails, tests_fail}
use Rattle.query_parser.proofs.tested.read_where.Goals as goal

pub returns-in_err-query : goal.returns-in_err-query
returns-in_err-query c =
    let p = err_from_is_err_and c.from_residual.result c.from_residual.ensures.1 in
    rw (p.1, p.2) (whole_never_fails c.args.text.now c.args.at (nest_of c.args.nest) _ c.requires.whole c.in_err-query.ensures)

pub overflow_add-at : goal.overflow_add-at
overflow_add-at c = let within = word_within c.requires.word in search (rules, within, c.requires.short)

pub read_tests-requires-clause-within : goal.read_tests-requires-clause-within
read_tests-requires-clause-within c = word_within c.requires.word

pub returns-in_err-asked : goal.returns-in_err-asked
returns-in_err-asked c =
    let p = err_from_is_err_and c.from_residual-in_err-asked.result c.from_residual-in_err-asked.ensures.1 in
    let x : Query × Bool = (c.in_ok-query.query, c.in_ok-query.many) in
    let begin = where_begins c.args.text.now c.args.at (nest_of c.args.nest) x c.requires.reads c.requires.word c.in_ok-query.ensures in
    rw (p.1, p.2) (tests_fail c.args.text.now c.args.at (nest_of c.args.nest) (query_of c.in_ok-query.query) c.in_ok-query.many _ begin c.in_err-asked.ensures)

pub returns : goal.returns
returns c =
    let x : Query × Bool = (c.in_ok-query.query, c.in_ok-query.many) in
    with_where (where_begins c.args.text.now c.args.at (nest_of c.args.nest) x c.requires.reads c.requires.word c.in_ok-query.ensures) c.in_ok-asked.ensures
