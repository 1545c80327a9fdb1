use Rattle.std.proofs.Common.{◌≡◌, ℕ, ◌+◌, ◌≤◌, ◌⊎◌, List, [], ◌∷◌, length, get_or, take, drop, IfOk, inl, inr, refl, sym, ap, ◌∙◌, subst, arith}
use Rattle.std.proofs.Math.Seq.{take-length}
use Rattle.std.proofs.lemmas.Option.{slice_get_within, get_or_from_slice_get}
use Rattle.span_core.specs.Lists.{Has}
use Rattle.spanner_model.specs.Captures.{Captures}
use Rattle.spanner_model.specs.View.{tree_of, trees_of}
use Rattle.spanner_model.specs.Tree.{Tree, cap, cat_all}
use Rattle.spanner_model.specs.Fit.{Fit}
use Rattle.spanner_model.specs.WellBuilt.{IsWellBuilt}
use Rattle.spanner_model.specs.Sequential.{IsSequential, HasNoVar}
use Rattle.spanner_model.proofs.FitLaws.{fit_within}
use Rattle.span_core.proofs.HasLaws.{Has-slice_get, Has-get_or}
use Rattle.spanner_model.proofs.NodeParts.{has_parts}
use Rattle.spanner_model.proofs.Nodes.{nodes}
use Rattle.spanner_model.proofs.TreeLaws.{part_nodes, sequential_part, sequential_arm}
use Rattle.spanner_model.proofs.Trees.{tree_of-One, tree_of-Empty, tree_of-Cat, tree_of-Alt, tree_of-Cap}
use Rattle.plain_spanner.specs.declared.TheConstants.{MOST_DOCUMENT_BYTES}
use Rattle.plain_spanner.specs.Listed.{Tells, FromSome, EndAndCaptures, CapturesAndEnds, HasFit, Continued, EndWithin, CapturedFrom, CapturedAt}
use Rattle.plain_spanner.proofs.BareLaws.{bare_same}
use Rattle.plain_spanner.proofs.PartLists.{cat_more_split, cat_more_join, cat_begins}
use Rattle.plain_spanner.proofs.TellsLaws.{tells_or, tells_only, from_none, from_more, from_all, empty_list}
use Rattle.plain_spanner.proofs.FitLists.{fits_appended, no_fits, goes_nowhere, goes_on, goes_on_none, goes_once, goes_once_or_not, go_within, turn_apart, arms_go_on, named_tells, captures_go_on, here_within, inner_within}
use Rattle.plain_spanner.proofs.fits.+fits.Goals as goal

pub go_on-in_turn-requires : goal.go_on-in_turn-requires
go_on-in_turn-requires t c =
    let p = has_parts c.args.formula.now c.in-Cat.parts (inl c.in-Cat.is) in
    let e = ap tree_of c.in-Cat.is ∙ tree_of-Cat c.in-Cat.parts in
    (omega (arith, p.size), (p.built c.requires.built, (subst IsSequential e c.requires.sequential, (c.requires.short, c.requires.within))))

pub go_on-by_arms-requires : goal.go_on-by_arms-requires
go_on-by_arms-requires t c =
    let p = has_parts c.args.formula.now c.in-Alt.parts (inr c.in-Alt.is) in
    let e = ap tree_of c.in-Alt.is ∙ tree_of-Alt c.in-Alt.parts in
    (omega (arith, p.size), (p.built c.requires.built, (subst IsSequential e c.requires.sequential, (c.requires.short, c.requires.within))))

pub go_on-go_on_bare-requires-clause-bare : goal.go_on-go_on_bare-requires-clause-bare
go_on-go_on_bare-requires-clause-bare t c =
    let p = has_parts c.args.formula.now c.in-Alt.parts (inr c.in-Alt.is) in
    (bare_same (tree_of c.args.formula.now) (cat_all (trees_of c.in-Alt.parts)) p.vars).0 (c.are_bare.ensures.0 c.if-are_bare.true)

pub go_on-go_on_bare-requires-in-Empty-clause-bare : goal.go_on-go_on_bare-requires-in-Empty-clause-bare
go_on-go_on_bare-requires-in-Empty-clause-bare t c =
    elim c.in-Empty.is as (λ _. HasNoVar (tree_of c.args.formula.now)) [
      | inl e ↦ subst HasNoVar (sym (ap tree_of e ∙ tree_of-Empty)) (λ x v. v)
      | inr o ↦ subst HasNoVar (sym (ap tree_of o.1 ∙ tree_of-One o.0)) (λ x v. v)
    ]

pub go_on-captured-requires : goal.go_on-captured-requires
go_on-captured-requires t c =
    let e = ap tree_of c.in-Cap.is ∙ tree_of-Cap c.in-Cap.name c.in-Cap.sub ∙ ap (λ x. cap c.in-Cap.name (tree_of x)) (sym c.deref-in-Cap.ensures) in
    let w = subst IsWellBuilt e c.requires.built in
    let n = ap nodes e in
    let deep = w.1 in
    (omega (arith, n), ((w.0.0, omega (arith, deep)), (subst IsSequential e c.requires.sequential, (c.requires.short, c.requires.within))))

pub go_on-returns-in-Cat : goal.go_on-returns-in-Cat
go_on-returns-in-Cat t c =
    let e = ap tree_of c.in-Cat.is ∙ tree_of-Cat c.in-Cat.parts in
    rw e c.in_turn.ensures

pub go_on-returns-else-are_bare : goal.go_on-returns-else-are_bare
go_on-returns-else-are_bare t c =
    let e = ap tree_of c.in-Alt.is ∙ tree_of-Alt c.in-Alt.parts in
    rw e c.by_arms.ensures

pub go_on-returns-in-Cap : goal.go_on-returns-in-Cap
go_on-returns-in-Cap t c =
    let e = ap tree_of c.in-Cap.is ∙ tree_of-Cap c.in-Cap.name c.in-Cap.sub ∙ ap (λ x. cap c.in-Cap.name (tree_of x)) (sym c.deref-in-Cap.ensures) in
    rw e c.captured.ensures

pub in_turn-go_on-requires : goal.in_turn-go_on-requires
in_turn-go_on-requires t c =
    let ts = trees_of c.args.parts.now in
    let d = c.args.doc.now in
    let g = cat_all (take c.loop-k.k ts) in
    let u = tree_of c.at.result.now in
    let has = Has-slice_get ts c.loop-k.k u c.at.ensures in
    let within = go_within (HasFit c.args.firsts.now) (Fit g d) (length d) c.loop-k.reached.items (λ i j m le h. fit_within g d i j m le h) c.requires.within c.loop-k.invariant in (
      omega (arith, part_nodes ts u has),
      (
        c.requires.built u has,
        (
          sequential_part ts u has c.requires.sequential,
          (c.requires.short, rw c.deref.ensures.value within),
        ),
      ),
    )

pub in_turn-loop-k-init : goal.in_turn-loop-k-init
in_turn-loop-k-init t c = goes_nowhere c.args.firsts.now c.in_ok-reached.reached.items c.in_ok-reached.ensures

pub in_turn-loop-k-preserved : goal.in_turn-loop-k-preserved
in_turn-loop-k-preserved t c =
    let ts = trees_of c.args.parts.now in
    let d = c.args.doc.now in
    let k = c.loop-k.k in
    let u = tree_of c.at.result.now in
    let next = rw c.deref.ensures.value at c.in_ok-reached-2.ensures in
    goes_on (HasFit c.args.firsts.now) (Fit (cat_all (take k ts)) d) (Fit u d) (Fit (cat_all (take (k + 1) ts)) d) (λ i j m h. cat_more_split d ts k u i j m c.at.ensures h)
    (turn_apart d ts k u c.at.ensures c.requires.sequential) (λ i j m h. cat_more_join d ts k u i j m c.at.ensures h) c.loop-k.reached.items c.in_ok-reached-2.reached.items c.loop-k.invariant next

pub in_turn-returns-then-is_empty : goal.in_turn-returns-then-is_empty
in_turn-returns-then-is_empty t c =
    let ts = trees_of c.args.parts.now in
    let d = c.args.doc.now in
    let k = c.loop-k.k in
    let none : c.loop-k.reached.items ≡ [] = empty_list c.loop-k.reached.items c.loop-k.reached.len (omega (arith, c.loop-k.reached.ok.0)) c.if-is_empty.ensures in
    goes_on_none (HasFit c.args.firsts.now) (Fit (cat_all (take k ts)) d) (Fit (cat_all (drop k ts)) d) (Fit (cat_all ts) d)
    (λ i j m h. cat_begins d ts k i j m h) c.loop-k.reached.items none c.loop-k.invariant

pub in_turn-returns : goal.in_turn-returns
in_turn-returns t c =
    let ts = trees_of c.args.parts.now in
    let e : c.loop-k.k ≡ length ts = omega arith in
    rw (← (ap (λ n. take n ts) e ∙ take-length ts)) c.loop-k.invariant

pub by_arms-go_on-requires : goal.by_arms-go_on-requires
by_arms-go_on-requires t c =
    let ts = trees_of c.args.parts.now in
    let u = tree_of c.at.result.now in
    let has = Has-slice_get ts c.loop-k.k u c.at.ensures in
    (omega (arith, part_nodes ts u has), (c.requires.built u has, (sequential_arm ts u has c.requires.sequential, (c.requires.short, c.requires.within))))

pub by_arms-loop-k-init : goal.by_arms-loop-k-init
by_arms-loop-k-init t c =
    let R = λ (v : Tree) (f : EndAndCaptures). Continued (HasFit c.args.firsts.now) (Fit v c.args.doc.now) f in
    rw c.new-all.ensures.items (from_none R (HasFit []))

pub by_arms-loop-k-preserved : goal.by_arms-loop-k-preserved
by_arms-loop-k-preserved t c =
    let ts = trees_of c.args.parts.now in
    let u = tree_of c.at.result.now in
    let R = λ (v : Tree) (f : EndAndCaptures). Continued (HasFit c.args.firsts.now) (Fit v c.args.doc.now) f in
    from_more R (HasFit []) (HasFit c.loop-k.all.items) (HasFit c.append.new.self.items) ts c.loop-k.k u u
    (slice_get_within ts c.loop-k.k u c.at.ensures) (sym (get_or_from_slice_get ts c.loop-k.k u u c.at.ensures)) c.loop-k.invariant
    (fits_appended c.loop-k.all.items c.in_ok-others.others.items c.append.new.self.items (R u) c.in_ok-append.ensures.items c.in_ok-others.ensures)

pub by_arms-returns : goal.by_arms-returns
by_arms-returns t c =
    let ts = trees_of c.args.parts.now in
    let d = c.args.doc.now in
    let R = λ (v : Tree) (f : EndAndCaptures). Continued (HasFit c.args.firsts.now) (Fit v d) f in
    arms_go_on d ts (HasFit c.args.firsts.now) (HasFit c.loop-k.all.items)
    (tells_only (HasFit c.loop-k.all.items) (HasFit []) (FromSome R ts) no_fits (from_all R (HasFit []) (HasFit c.loop-k.all.items) ts c.loop-k.k (omega arith) (omega arith) c.loop-k.invariant))

pub once_at_most-returns-then-least-gt0 : goal.once_at_most-returns-then-least-gt0
once_at_most-returns-then-least-gt0 t c =
    goes_once c.args.doc.now (tree_of c.args.sub.now) c.args.least (HasFit c.args.firsts.now) c.in_ok-all.all.items (omega (arith, c.requires.once, c.if-least-gt0.true)) c.in_ok-all.ensures

pub once_at_most-returns : goal.once_at_most-returns
once_at_most-returns t c =
    goes_once_or_not c.args.doc.now (tree_of c.args.sub.now) c.args.least (HasFit c.args.firsts.now) c.in_ok-all.all.items c.in_ok-none.none.items
    c.append.new.self.items (omega (arith, c.if-least-gt0.false)) c.in_ok-append.ensures.items c.in_ok-all.ensures
    (goes_nowhere c.args.firsts.now c.in_ok-none.none.items c.in_ok-none.ensures)

pub captured-add_captured-requires : goal.captured-add_captured-requires
captured-add_captured-requires t c =
    let b = c.first-item.result in
    let here : Has c.args.firsts.now b = rw c.first-item.is
    (Has-get_or c.args.firsts.now c.loop-first.first-index b c.loop-first-test.true) in
    let within : (k : ℕ) → Has b.1 k → k ≤ length c.args.doc.now = λ k h. c.requires.within (k, b.0) (b.1, here, h) in
    (omega arith, (c.requires.built, (c.requires.sequential.0, (c.requires.short, within))))

pub captured-loop-first-init : goal.captured-loop-first-init
captured-loop-first-init t c =
    let R = λ (b : CapturesAndEnds) (f : EndAndCaptures). FromSome (CapturedFrom c.args.name.now (Fit (tree_of c.args.sub.now) c.args.doc.now) b.0) b.1 f in
    rw c.new-all.ensures.items (from_none R (HasFit []))

pub captured-loop-first-preserved : goal.captured-loop-first-preserved
captured-loop-first-preserved t c =
    let R = λ (b : CapturesAndEnds) (f : EndAndCaptures). FromSome (CapturedFrom c.args.name.now (Fit (tree_of c.args.sub.now) c.args.doc.now) b.0) b.1 f in
    from_more R (HasFit []) (HasFit c.loop-first.all.items) (HasFit c.add_captured.new.all.items) c.args.firsts.now c.loop-first.first-index
    c.first-item.result c.first-item.result c.loop-first-test.true c.first-item.is
    c.loop-first.invariant c.in_ok-add_captured.ensures

pub captured-returns : goal.captured-returns
captured-returns t c =
    let R = λ (b : CapturesAndEnds) (f : EndAndCaptures). FromSome (CapturedFrom c.args.name.now (Fit (tree_of c.args.sub.now) c.args.doc.now) b.0) b.1 f in
    captures_go_on c.args.doc.now c.args.name.now (tree_of c.args.sub.now) c.args.firsts.now (HasFit c.loop-first.all.items) c.requires.sequential.1
    (tells_only (HasFit c.loop-first.all.items) (HasFit []) (FromSome R c.args.firsts.now) no_fits
    (from_all R (HasFit []) (HasFit c.loop-first.all.items) c.args.firsts.now c.loop-first.first-index c.loop-first.auto.first-index-end c.loop-first-test.false c.loop-first.invariant))

pub add_captured-go_on-requires : goal.add_captured-go_on-requires
add_captured-go_on-requires t c =
    let places = c.ends-places.result.now in
    let place = get_or places c.loop-place.place-index 0 in
    let le = c.requires.within place (rw (← c.ends-places.ensures) (Has-get_or places c.loop-place.place-index 0 c.loop-place-test.true)) in
    let within = rw (← c.in_ok-at.ensures) at (here_within place (length c.args.doc.now) le) in
    (omega arith, (c.requires.built, (c.requires.sequential, (c.requires.short, within))))

pub add_captured-add_named-requires : goal.add_captured-add_named-requires
add_captured-add_named-requires t c =
    let g = tree_of c.args.sub.now in
    let d = c.args.doc.now in
    let places = c.ends-places.result.now in
    let place = get_or places c.loop-place.place-index 0 in
    let le = c.requires.within place (rw (← c.ends-places.ensures) (Has-get_or places c.loop-place.place-index 0 c.loop-place-test.true)) in
    let inner = rw c.in_ok-at.ensures at c.in_ok-inner.ensures in
    λ f h. inner_within g d place MOST_DOCUMENT_BYTES c.in_ok-inner.inner.items le c.requires.short inner f (rw (← c.deref.ensures.value) h)

pub add_captured-loop-place-init : goal.add_captured-loop-place-init
add_captured-loop-place-init t c = from_none (CapturedFrom c.args.name.now (Fit (tree_of c.args.sub.now) c.args.doc.now) c.args.first.now.0) (HasFit c.args.all.now.items)

pub add_captured-loop-place-preserved : goal.add_captured-loop-place-preserved
add_captured-loop-place-preserved t c =
    let x = c.args.name.now in
    let g = tree_of c.args.sub.now in
    let d = c.args.doc.now in
    let m0 = c.args.first.now.0 in
    let places = c.ends-places.result.now in
    let i = get_or places c.loop-place.place-index 0 in
    let inner = c.in_ok-inner.inner.items in
    let new = c.add_named.new.all.items in
    let all = rw c.in_ok-at.ensures at c.in_ok-inner.ensures in
    let added = rw c.captures-2.ensures at c.in_ok-add_named.ensures in
    let added' = rw c.deref.ensures.value at added in
    from_more (CapturedFrom x (Fit g d) m0) (HasFit c.args.all.now.items) (HasFit c.loop-place.all.items) (HasFit new) places c.loop-place.place-index
    i 0 c.loop-place-test.true refl c.loop-place.invariant
    (tells_or (HasFit new) (HasFit c.loop-place.all.items) (FromSome (CapturedAt x i m0) inner) (CapturedFrom x (Fit g d) m0 i) added' (named_tells x (Fit g d) m0 i inner all))

pub add_captured-returns : goal.add_captured-returns
add_captured-returns t c =
    let R = CapturedFrom c.args.name.now (Fit (tree_of c.args.sub.now) c.args.doc.now) c.args.first.now.0 in
    let all = from_all R (HasFit c.args.all.now.items) (HasFit c.loop-place.all.items) c.ends-places.result.now c.loop-place.place-index
    c.loop-place.auto.place-index-end c.loop-place-test.false c.loop-place.invariant in
    rw (← c.ends-places.ensures) all
