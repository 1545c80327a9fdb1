use Rattle.std.proofs.Common.{◌≡◌, ◌⊎◌, List, get_or, Some, refl, sym, ap, ◌∙◌, arith}
use Rattle.std.specs.Prelude.{slice_get}
use Rattle.std.proofs.lemmas.Option.{slice_get-get_or}
use Rattle.span_core.specs.Lists.{Has}
use Rattle.spanner_model.specs.Answers.{SpanRow}
use Rattle.span_core.proofs.HasLaws.{Has-get_or, Has-slice_get}
use Rattle.plain_spanner.specs.Listed.{Tells}
use Rattle.plain_spanner.specs.Tables.{JoinsWith}
use Rattle.plain_spanner.proofs.TellsLaws.{tells_pushed, from_none, from_more, from_all}
use Rattle.plain_spanner.proofs.JoinLaws.{joined_once}
use Rattle.plain_spanner.proofs.join.add_joined.Goals as goal

pub index-requires : goal.index-requires
index-requires c =
    let p = get_or c.args.places.now c.loop-place.place-index 0 in
    let l = c.requires.within p (Has-get_or c.args.places.now c.loop-place.place-index 0 c.loop-place-test.true) in
    omega (arith, l, c.args.right.now.rows.ok.0)

pub both-requires-clause-right : goal.both-requires-clause-right
both-requires-clause-right c =
    let p = get_or c.args.places.now c.loop-place.place-index 0 in
    let rows = c.args.right.now.rows.items in
    let b = c.index.result.now in
    let l = c.requires.within p (Has-get_or c.args.places.now c.loop-place.place-index 0 c.loop-place-test.true) in
    let at : slice_get rows p ≡ Some b = slice_get-get_or rows p b l ∙ ap Some (sym c.index.ensures) in
    c.requires.right b (Has-slice_get rows p b at)

pub loop-place-init : goal.loop-place-init
loop-place-init c = from_none (JoinsWith c.args.names.now c.args.left_names.now c.args.right.now.names c.args.row.now c.args.right.now.rows.items) (Has c.args.rows.now.items)

pub loop-place-preserved : goal.loop-place-preserved
loop-place-preserved c =
    let p = get_or c.args.places.now c.loop-place.place-index 0 in
    let rights = c.args.right.now.rows.items in
    let b = c.index.result.now in
    let l = c.requires.within p (Has-get_or c.args.places.now c.loop-place.place-index 0 c.loop-place-test.true) in
    let at : slice_get rights p ≡ Some b = slice_get-get_or rights p b l ∙ ap Some (sym c.index.ensures) in
    let R = JoinsWith c.args.names.now c.args.left_names.now c.args.right.now.names c.args.row.now rights in
    let added = tells_pushed (R p) c.loop-place.rows.items c.both.result
    (λ r h. c.both.ensures ∙ joined_once c.args.names.now c.args.left_names.now c.args.right.now.names c.args.row.now rights p b r at h) (b, at, c.both.ensures) in
    from_more R (Has c.args.rows.now.items) (Has c.loop-place.rows.items) (Has c.push.new.self.items) c.args.places.now c.loop-place.place-index p 0 c.loop-place-test.true refl c.loop-place.invariant
    (rw c.in_ok-push.ensures.items added)

pub returns : goal.returns
returns c =
    from_all (JoinsWith c.args.names.now c.args.left_names.now c.args.right.now.names c.args.row.now c.args.right.now.rows.items)
    (Has c.args.rows.now.items) (Has c.loop-place.rows.items) c.args.places.now c.loop-place.place-index
    c.loop-place.auto.place-index-end c.loop-place-test.false c.loop-place.invariant
