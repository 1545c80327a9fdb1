use Rattle.std.proofs.Common.{◌≡◌, ◌<◌, ◌⊎◌, List, length, get_or, arith, ap, ◌∙◌}
use Rattle.span_core.specs.Lists.{Has}
use Rattle.span_core.proofs.HasLaws.{Has-get_or}
use Rattle.spanner_model.specs.Answers.{SpanRow}
use Rattle.plain_spanner.proofs.LessLaws.{left_all, left_more, left_none}
use Rattle.plain_spanner.proofs.less.less.Goals as goal

pub row_with-requires : goal.row_with-requires
row_with-requires c =
    let rows = c.deref-row-items.result.now in
    let r = c.row-item.result in
    let here : Has rows r = rw c.row-item.is (Has-get_or rows c.loop-row.row-index r c.loop-row-test.true) in
    c.requires.rows r (rw (← c.deref-row-items.ensures.value) here)

pub loop-row-init : goal.loop-row-init
loop-row-init c = left_none c.args.right.now.rows.items c.new-rows.result.items c.new-rows.ensures.items

pub loop-row-preserved : goal.loop-row-preserved
loop-row-preserved c =
    let lefts = c.args.left.now.rows.items in
    let rights = c.args.right.now.rows.items in
    let x = c.row-item.result in
    let i = c.loop-row.row-index in
    let within = rw c.deref-row-items.ensures.value at c.loop-row-test.true in
    let is : x ≡ get_or lefts i x = c.row-item.is ∙ ap (λ (xs : List SpanRow). get_or xs i x) c.deref-row-items.ensures.value in
    let here : Has lefts x = rw is (Has-get_or lefts i x within) in
    let y = c.row_with.result in
    let same : y ≡ x = c.row_with.ensures ∙ c.requires.whole x here in
    let others : c.as_slice-others.result.now ≡ rights = c.as_slice-others.ensures.value in
    let ok = c.in_ok-add_left.ensures in
    let new = c.add_left.new.rows.items in
    left_more lefts rights i x y c.loop-row.rows.items new within is same c.loop-row.invariant ok.kept
    (λ r h. rw (← others) (ok.only r h))
    (λ none. ok.added (λ h. none (rw (← others) h)))

pub returns-clause-rows : goal.returns-clause-rows
returns-clause-rows c =
    let long = ap length c.deref-row-items.ensures.value in
    left_all c.args.left.now.rows.items c.args.right.now.rows.items c.loop-row.rows.items c.loop-row.row-index (omega (arith, long, c.loop-row-test.false)) c.loop-row.invariant
