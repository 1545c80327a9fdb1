use Rattle.std.proofs.Common.{rules, ◌≡◌, ◌∙◌, List, false, length, sym, ap, subst}
use Rattle.spanner_model.specs.Captures.{VarName}
use Rattle.spanner_model.specs.Answers.{SpanRow}
use Rattle.spanner_model.specs.Tested.{tested_of}
use Rattle.spanner_model.specs.Passing.{known}
use Rattle.spanner_engine.specs.Left.{AnswersLeft}
use Rattle.session_server.specs.Replies.{asking}
use Rattle.session_server.specs.Standing.{IsSessionOver}
use Rattle.session_server.proofs.Giving.{last_from, next_from, none_from}
use Rattle.session_server.proofs.Grows.{few_there, last_there, now_asked, rows_halt}
use Rattle.session_server.proofs.session.Session.ask.Goals as goal

pub returns-in-Err-clause-halted : goal.returns-in-Err-clause-halted
returns-in-Err-clause-halted g c = λ s w. rows_halt (known c.args.tests.now g.J.Judge.judges) c.args.self.now s c.in-Err.fault c.halt_of.result c.halt_of.ensures c.in-Err.ensures.fault w

pub new-left-requires-clause-names : goal.new-left-requires-clause-names
new-left-requires-clause-names g c =
    let w = c.requires.stands.1 in
    rw (← w.kept.query) at w.kept.names

pub new-left-requires-clause-few : goal.new-left-requires-clause-few
new-left-requires-clause-few g c =
    few_there (known c.args.tests.now g.J.Judge.judges) c.args.self.now c.requires.stands.0 c.rows.new.self c.in-Ok.rows.whole c.over.result.rest _ c.document-document.ensures
    c.rows.ensures.asked c.in-Ok.ensures.rows (c.over.ensures.rest ∙ c.in-Ok.ensures.first) c.requires.stands.1

pub new-left-requires-clause-last : goal.new-left-requires-clause-last
new-left-requires-clause-last g c =
    last_there (known c.args.tests.now g.J.Judge.judges) c.args.self.now c.requires.stands.0 c.rows.new.self c.in-Ok.rows.whole c.over.result.rest _ c.document-document.ensures
    c.rows.ensures.asked c.in-Ok.ensures.rows (c.over.ensures.rest ∙ c.in-Ok.ensures.first) c.requires.stands.1

pub new-left-requires-clause-bound : goal.new-left-requires-clause-bound
new-left-requires-clause-bound g c =
    let w = c.requires.stands.1 in
    rw (← w.kept.query) at w.kept.tests_known

pub new-left-requires-clause-variables : goal.new-left-requires-clause-variables
new-left-requires-clause-variables g c =
    c.over.ensures.variables ∙ c.in-Ok.ensures.variables ∙ ap (λ (ns : List VarName). length ns) c.requires.stands.1.kept.growing.named

pub returns-clause-ready : goal.returns-clause-ready
returns-clause-ready g c = λ s w.
    let k = known c.args.tests.now g.J.Judge.judges in
    let self = c.args.self.now in
    let t = tested_of self.tested in
    let step = c.advance-self in
    let left = step.new.self.answers.now in
    let fresh = c.over.ensures.rest ∙ c.in-Ok.ensures.first in
    let from = ap (λ (a : AnswersLeft). a.rest) c.new-left.ensures.answers in
    let whole = last_there k self s c.rows.new.self c.in-Ok.rows.whole c.over.result.rest _ c.document-document.ensures c.rows.ensures.asked c.in-Ok.ensures.rows fresh w in
    let last = last_from t.query c.document-document.result.now self.vars _ _ left.rest from whole step.ensures.left in
    let wide = step.ensures.variables ∙ ap (λ (a : AnswersLeft). a.variables) c.new-left.ensures.answers
    ∙ (c.over.ensures.variables ∙ c.in-Ok.ensures.variables ∙ ap (λ (ns : List VarName). length ns) w.kept.growing.named) in
    let next = next_from g.J.Judge.judges _ _ _ _ left.rest left.row step.result c.new-left.ensures.source from step.ensures.next in
    let none = none_from g.J.Judge.judges _ _ _ _ left.rest left.row step.result c.new-left.ensures.source from step.ensures.none in
    let Stands : AnswersLeft → Type 0 = λ a.
    (all : List SpanRow) × IsSessionOver k (record self { growing = c.rows.new.self; answers = a; some = step.result; grown = false }) (asking s) all in
    let stands : Stands left =
    now_asked k self s c.rows.new.self c.in-Ok.rows.whole c.over.result.rest _ c.document-document.ensures c.rows.ensures.asked c.in-Ok.ensures.rows fresh w left step.result last wide next none in
    let behind : (a : AnswersLeft) → a ≡ left → Stands a = λ a is. subst Stands (sym is) stands in
    behind _ (search rules)
