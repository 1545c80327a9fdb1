use Rattle.std.proofs.Common.{rules, ◌≡◌, ◌∙◌, ℕ, List, [], false, refl, ap}
use Rattle.spanner_model.specs.Tested.{tested_of}
use Rattle.spanner_model.specs.Passing.{known}
use Rattle.spanner_engine.specs.Fitting.{AreLast}
use Rattle.spanner_engine.specs.Left.{AnswersLeft, over}
use Rattle.growing_document.specs.Grown.{AreBytes}
use Rattle.session_server.specs.declared.session.Session.{Session}
use Rattle.session_server.specs.Replies.{begun as begun_at}
use Rattle.session_server.specs.Standing.{IsSession}
use Rattle.session_server.proofs.Giving.{as_option, begun_session, last_from, next_from, none_from}
use Rattle.session_server.proofs.Grows.{bytes_held}
use Rattle.session_server.proofs.Refusals.{refused_size}
use Rattle.session_server.proofs.session.bound.Goals as goal

pub returns-in-Err-clause-refused : goal.returns-in-Err-clause-refused
returns-in-Err-clause-refused g c =
    refused_size (known c.args.tests.now g.J.Judge.judges) c.args._text.now c.args.document.items (tested_of c.args.tested) c.in-Err.refusal c.requires.spelled c.in-Err.ensures.refused

pub new-left-requires-clause-few : goal.new-left-requires-clause-few
new-left-requires-clause-few g c =
    let same : c.document.result.now ≡ c.args.document.items = c.document.ensures ∙ c.in-Ok.ensures.growing.holds in
    rw same c.requires.few

pub new-left-requires-clause-last : goal.new-left-requires-clause-last
new-left-requires-clause-last g c =
    let same : c.document.result.now ≡ c.args.document.items = c.document.ensures ∙ c.in-Ok.ensures.growing.holds in
    rw same (record { all = c.in-Ok.begun.answers.rest; answers = c.in-Ok.ensures.all; front = []; joined = refl })

pub returns-clause-opened : goal.returns-clause-opened
returns-clause-opened g c =
    let k = known c.args.tests.now g.J.Judge.judges in
    let t = tested_of c.args.tested in
    let d = c.args.document.items in
    let begun = c.in-Ok.begun in
    let all = begun.answers.rest in
    let step = c.advance-some in
    let left = step.new.self.answers.now in
    let session : AnswersLeft → Session = λ a. record { tested = c.args.tested; vars = begun.vars; growing = begun.growing; answers = a; some = step.result; grown = false } in
    let bytes : AreBytes d = search (rules, bytes_held) in
    let same : c.document.result.now ≡ d = c.document.ensures ∙ c.in-Ok.ensures.growing.holds in
    let source = c.new-left.ensures.source ∙ ap (λ (x : List ℕ). over t.asked c.args.tests.now begun.vars x) same in
    let from = ap (λ (a : AnswersLeft). a.rest) c.new-left.ensures.answers in
    let whole : AreLast t.query d begun.vars all = record { all = all; answers = c.in-Ok.ensures.all; front = []; joined = refl } in
    let last = last_from t.query d begun.vars _ _ _ from whole step.ensures.left in
    let wide = step.ensures.variables ∙ ap (λ (a : AnswersLeft). a.variables) c.new-left.ensures.answers ∙ c.in-Ok.ensures.wide in
    let next = as_option step.result left.row _ _ (next_from g.J.Judge.judges _ _ _ _ left.rest left.row step.result source from step.ensures.next)
    (none_from g.J.Judge.judges _ _ _ _ left.rest left.row step.result source from step.ensures.none) in
    let opens : IsSession k (session left) (begun_at t d) =
    begun_session k t (session left) d all refl refl c.in-Ok.ensures.growing c.requires.few bytes c.in-Ok.ensures.names c.requires.spelled.tests_known c.in-Ok.ensures.all last wide next in
    let behind : (a : AnswersLeft) → a ≡ left → IsSession k (session a) (begun_at t d) = λ a is. rw is opens in (
      t,
      c.requires.spelled,
      c.in-Ok.ensures.small,
      c.in-Ok.ensures.names,
      behind _ (search rules),
    )
