use Rattle.std.proofs.Common.{◌≡◌, refl, sym, ap, ◌∙◌}
use Rattle.std.specs.Ordering.{eq_by_cmp}
use Rattle.std.proofs.lemmas.Bool.{true≢false}
use Rattle.span_core.specs.Comparison.{row_cmp}
use Rattle.span_core.specs.Lists.{Has}
use Rattle.span_core.proofs.HasLaws.{Has-get_or}
use Rattle.spanner_model.specs.Answers.{SpanRow}
use Rattle.plain_spanner.proofs.LessLaws.{none_more, row_eq_itself}
use Rattle.plain_spanner.proofs.RowLaws.{row_eq_exact}
use Rattle.plain_spanner.proofs.less.has_row.Goals as goal

pub returns-then-eq : goal.returns-then-eq
returns-then-eq c =
    let rows = c.args.rows.now in
    let x = c.other-item.result in
    let same : x ≡ c.args.row.now = row_eq_exact x c.args.row.now (sym c.eq.ensures ∙ c.if-eq.true) in
    let here : Has rows x = rw (← c.other-item.is) at (Has-get_or rows c.loop-other.other-index x c.loop-other-test.true) in
    ((λ t. rw same at here), (λ h. refl))

pub loop-other-preserved : goal.loop-other-preserved
loop-other-preserved c =
    let x = c.other-item.result in
    let r = c.args.row.now in
    none_more c.args.rows.now c.loop-other.other-index x r c.loop-other-test.true c.other-item.is
    (λ e. true≢false (sym (c.eq.ensures ∙ (ap (λ (y : SpanRow). eq_by_cmp row_cmp y r) e ∙ row_eq_itself r)) ∙ c.if-eq.false)) c.loop-other.invariant
