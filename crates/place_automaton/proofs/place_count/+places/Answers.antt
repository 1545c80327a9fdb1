use Rattle.std.proofs.Common.{◌≡◌, length, take, sym, ap, ◌∙◌, subst, arith}
use Rattle.std.proofs.Math.Seq.{take-length}
use Rattle.spanner_model.specs.Tree.{Tree, rep, cat_all}
use Rattle.spanner_model.specs.View.{tree_of, trees_of}
use Rattle.spanner_model.specs.WellBuilt.{IsWellBuilt}
use Rattle.span_core.proofs.HasLaws.{Has-slice_get}
use Rattle.spanner_model.proofs.Nodes.{nodes}
use Rattle.spanner_model.proofs.TreeLaws.{take_at_more, part_nodes, arms_nodes, parts_well_built, arms_well_built}
use Rattle.spanner_model.proofs.Trees.{tree_of-Cat, tree_of-Alt, tree_of-Rep}
use Rattle.place_automaton.specs.Capped.{capped}
use Rattle.place_automaton.specs.Counts.{counts_over}
use Rattle.place_automaton.specs.Drafts.{copies_of}
use Rattle.place_automaton.specs.Words.{opening_of, closing_of}
use Rattle.place_automaton.proofs.CappedLaws.{capped_small, product_of, sum_of}
use Rattle.place_automaton.proofs.PlaceNumbers.{arms_room, parts_more, repeated_places}
use Rattle.place_automaton.proofs.place_count.+places.Goals as goal

pub count_places-sum_places-requires : goal.count_places-sum_places-requires
count_places-sum_places-requires t c =
    let ts = trees_of c.in-Cat.parts in
    let e = ap tree_of c.in-Cat.is ∙ tree_of-Cat c.in-Cat.parts in
    (omega (arith, ap nodes e), parts_well_built ts (subst IsWellBuilt e c.requires))

pub count_places-sum_places-requires-in-Alt : goal.count_places-sum_places-requires-in-Alt
count_places-sum_places-requires-in-Alt t c =
    let ts = trees_of c.in-Alt.arms in
    let e = ap tree_of c.in-Alt.is ∙ tree_of-Alt c.in-Alt.arms in
    (omega (arith, ap nodes e, arms_nodes ts), arms_well_built ts (subst IsWellBuilt e c.requires))

pub sum_places-count_places-places-requires : goal.sum_places-count_places-places-requires
sum_places-count_places-places-requires t c =
    let ts = trees_of c.args.parts.now in
    let f = tree_of c.at.result.now in
    let has = Has-slice_get ts c.loop-k.k f c.at.ensures in
    (omega (arith, part_nodes ts f has), c.requires f has)

pub count_places-returns-in-Alt : goal.count_places-returns-in-Alt
count_places-returns-in-Alt t c = λ names.
    let ts = trees_of c.in-Alt.arms in
    let e = ap tree_of c.in-Alt.is ∙ tree_of-Alt c.in-Alt.arms in
    c.sum_places-in-Alt.ensures names ∙ ap capped (sym (arms_room (opening_of names) (closing_of names) ts) ∙ ap (λ (f : Tree). (counts_over names f).places) (sym e))

pub count_places-returns-in-Rep : goal.count_places-returns-in-Rep
count_places-returns-in-Rep t c = λ names.
    let f = tree_of c.deref.result.now in
    let least = c.in-Rep.least in
    let most = c.in-Rep.most in
    let e = ap tree_of c.in-Rep.is ∙ tree_of-Rep c.in-Rep.sub least most ∙ ap (λ y. rep (tree_of y) least most) (sym c.deref.ensures) in
    let w = subst IsWellBuilt e c.requires in
    let a = counts_over names f in
    let all = product_of c.from.result c.count_places.result (copies_of least most) a.places c.saturating_mul.result
    (c.from.ensures ∙ (c.copies_of-copies.ensures ∙
    capped_small (copies_of least most) (omega (arith, c.copies_of-copies.ensures, c.copies_of-copies.type_inv)))) (c.count_places.ensures names) c.saturating_mul.ensures in
    all ∙ ap capped (sym (repeated_places least most a (λ m is. (w.0.1.1 m is).0)) ∙ ap (λ (f : Tree). (counts_over names f).places) (sym e))

pub sum_places-loop-k-preserved : goal.sum_places-loop-k-preserved
sum_places-loop-k-preserved t c = λ names.
    let ts = trees_of c.args.parts.now in
    let k = c.loop-k.k in
    let f = tree_of c.at.result.now in
    let front = (counts_over names (cat_all (take k ts))).places in
    sum_of c.loop-k.sum c.count_places-places.result front (counts_over names f).places c.saturating_add-sum.result (c.loop-k.invariant names)
    (c.count_places-places.ensures names) c.saturating_add-sum.ensures
    ∙ ap capped (sym (parts_more (opening_of names) (closing_of names) (take k ts) f) ∙ ap (λ us. (counts_over names (cat_all us)).places) (sym (take_at_more ts k f c.at.ensures)))

pub sum_places-returns : goal.sum_places-returns
sum_places-returns t c = λ names.
    let ts = trees_of c.args.parts.now in
    c.loop-k.invariant names ∙ ap (λ us. capped (counts_over names (cat_all us)).places) (ap (λ n. take n ts) (let e : c.loop-k.k ≡ length ts = omega arith in e) ∙ take-length ts)
