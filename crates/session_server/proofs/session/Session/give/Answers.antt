use Rattle.std.proofs.Common.{rules, ◌≡◌, ◌∙◌, true, length, sym, ap, subst}
use Rattle.serde_json.specs.Written.{compact_text}
use Rattle.spanner_model.specs.Answers.{SpanRow}
use Rattle.cell_text.proofs.EndLaws.{all_inside}
use Rattle.spanner_model.specs.Tested.{tested_of}
use Rattle.spanner_engine.specs.Fitting.{AreLast}
use Rattle.spanner_engine.specs.Left.{AnswersLeft}
use Rattle.spanner_model.specs.Passing.{known}
use Rattle.row_writer.specs.Kept.{Line}
use Rattle.row_writer.proofs.KeptLaws.{json_heads_length}
use Rattle.session_server.specs.Replies.{Session, row_data}
use Rattle.session_server.specs.Rows.{with_row}
use Rattle.session_server.specs.Standing.{GivesOne, IsSessionOver}
use Rattle.session_server.proofs.Giving.{as_stored, give_one, is_next, last_from, next_from, none_from, row_fits, same_session, with_left}
use Rattle.session_server.proofs.session.Session.give.Goals as goal

pub add-requires-clause-lengths : goal.add-requires-clause-lengths
add-requires-clause-lengths g c =
    let old = c.args.self.now in
    let some : old.some ≡ true = search rules in
    let fits = row_fits (known c.args.tests.now g.J.Judge.judges) old c.requires.stands.0 c.requires.stands.1 old.answers.row (is_next old some) c.requires.stands.2 in
    let heads : length c.args.rows.now.line.heads ≡ length old.vars = ap (λ (l : Line). length l.heads) c.requires.line ∙ json_heads_length old.vars in
    ap (λ (r : SpanRow). length r) c.spans.ensures ∙ fits.lengths ∙ sym heads

pub add-requires-clause-inside : goal.add-requires-clause-inside
add-requires-clause-inside g c =
    let old = c.args.self.now in
    let s = c.requires.stands.0 in
    let o = c.requires.stands.2 in
    let some : old.some ≡ true = search rules in
    let fits = row_fits (known c.args.tests.now g.J.Judge.judges) old s c.requires.stands.1 old.answers.row (is_next old some) o in
    let same : c.document-document.result.now ≡ s.document = c.document-document.ensures ∙ o.kept.growing.holds in
    rw c.spans.ensures
    (rw same (all_inside (length s.document) old.answers.row fits.inside))

pub new-left-requires-clause-names : goal.new-left-requires-clause-names
new-left-requires-clause-names g c =
    let o = c.requires.stands.2 in
    rw (← o.kept.query) at o.kept.names

pub new-left-requires-clause-variables : goal.new-left-requires-clause-variables
new-left-requires-clause-variables g c = c.requires.stands.2.wide

pub returns-clause-some : goal.returns-clause-some
returns-clause-some g c =
    let k = known c.args.tests.now g.J.Judge.judges in
    let old = c.args.self.now in
    let t = tested_of old.tested in
    let e = c.document-document.result.now in
    let step = c.advance-self in
    let left = step.new.self.answers.now in
    let before = c.args.rows.now.text.items in
    let written = c.in_ok-add.ensures.text old.vars c.requires.line ∙ ap (λ (r : SpanRow). with_row before (compact_text (row_data old.vars r))) c.spans.ensures in
    let some : old.some ≡ true = search rules in
    let from = ap (λ (a : AnswersLeft). a.rest) c.new-left.ensures.answers in
    let wide = step.ensures.variables ∙ ap (λ (a : AnswersLeft). a.variables) c.new-left.ensures.answers in
    let next = next_from g.J.Judge.judges _ _ _ _ left.rest left.row step.result c.new-left.ensures.source from step.ensures.next in
    let none = none_from g.J.Judge.judges _ _ _ _ left.rest left.row step.result c.new-left.ensures.source from step.ensures.none in
    λ s all o.
    let Gives : AnswersLeft → Session → Type 0 = λ a x. GivesOne k old (with_left old a step.result) before c.add.new.self.text.items x all in
    let stored : Gives left (as_stored old s) =
    let p : IsSessionOver k old (as_stored old s) all = rw (same_session k old s o.kept) o in
    let whole : AreLast t.query e old.vars old.answers.rest = rw c.document-document.ensures p.last in
    let last = last_from t.query e old.vars _ _ left.rest from whole step.ensures.left in
    give_one k old s all left step.result e before c.add.new.self.text.items some c.document-document.ensures written last wide next none p in
    let given : Gives left s = subst (Gives left) (same_session k old s o.kept) stored in
    let behind : (a : AnswersLeft) → a ≡ left → Gives a s = λ a is. rw is given in
    behind _ (search rules)
