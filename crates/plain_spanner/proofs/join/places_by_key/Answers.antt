use Rattle.std.proofs.Common.{◌≡◌, ℕ, List, Vec, Global, length, Some, sym, ap, ◌∙◌, arith}
use Rattle.std.specs.Prelude.{slice_get}
use Rattle.std.specs.Option.{IsSomeAnd}
use Rattle.std.specs.BTreeMap.{get, is_at}
use Rattle.std.specs.Map.{lookup}
use Rattle.std.proofs.lemmas.Option.{slice_get-get_or, slice_get_within}
use Rattle.span_core.specs.Comparison.{row_cmp}
use Rattle.span_core.specs.Lists.{Has}
use Rattle.spanner_model.specs.Answers.{SpanRow}
use Rattle.span_core.proofs.HasLaws.{Has-slice_get}
use Rattle.plain_spanner.proofs.JoinLaws.{places_of_more}
use Rattle.plain_spanner.proofs.join.places_by_key.Goals as goal

pub row_with-key-requires : goal.row_with-key-requires
row_with-key-requires c =
    let rows = c.args.table.now.rows.items in
    let r = c.row-item.result in
    let at : slice_get c.deref-row-items.result.now c.loop-place.place ≡ Some r =
    slice_get-get_or c.deref-row-items.result.now c.loop-place.place r c.loop-place-test.true ∙ ap Some (sym c.row-item.is) in
    c.requires r (Has-slice_get rows c.loop-place.place r (ap (λ (xs : List SpanRow). slice_get xs c.loop-place.place) (sym c.deref-row-items.ensures.value) ∙ at))

pub loop-place-init : goal.loop-place-init
loop-place-init c = λ q p. (
  λ h. absurd (rw c.new-places.ensures.empty at h),
  λ h. let l = h.0 in absurd (omega arith),
)

pub loop-place-preserved : goal.loop-place-preserved
loop-place-preserved c =
    let rows = c.args.table.now.rows.items in
    let r = c.row-item.result in
    let at : slice_get c.deref-row-items.result.now c.loop-place.place ≡ Some r =
    slice_get-get_or c.deref-row-items.result.now c.loop-place.place r c.loop-place-test.true ∙ ap Some (sym c.row-item.is) in
    let here = ap (λ (xs : List SpanRow). slice_get xs c.loop-place.place) (sym c.deref-row-items.ensures.value) ∙ at in
    places_of_more c.args.table.now.names c.args.key_names.now rows c.loop-place.place r c.row_with-key.result (λ q p. IsSomeAnd (get row_cmp c.loop-place.places q) (λ v. Has v.items p))
    (λ q p. IsSomeAnd (get row_cmp c.add_place.new.places q) (λ v. Has v.items p)) here c.row_with-key.ensures c.loop-place.invariant c.in_ok-add_place.ensures

pub returns : goal.returns
returns c = λ q p.
    let rows = c.args.table.now.rows.items in
    let long = ap length c.deref-row-items.ensures.value in (
      λ h. ((c.loop-place.invariant q p).0 h).1,
      λ h. (c.loop-place.invariant q p).1 (let l = slice_get_within rows p h.0 h.1 in omega (arith, l, long), h),
    )
