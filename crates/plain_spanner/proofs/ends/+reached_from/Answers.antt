use Rattle.std.proofs.Common.{◌≡◌, ℕ, suc, ◌+◌, ◌-◌, ◌≤◌, ◌⊎◌, List, [], length, length-append, take, drop, IfOk, inl, inr, refl, sym, ap, ◌∙◌, subst, arith}
use Rattle.std.proofs.Math.Seq.{take-length}
use Rattle.std.proofs.lemmas.Result.{IfOk-weaker}
use Rattle.std.proofs.lemmas.Option.{slice_get_within, get_or_from_slice_get}
use Rattle.span_core.specs.Lists.{Has}
use Rattle.spanner_model.specs.Captures.{Captures}
use Rattle.spanner_model.specs.View.{tree_of, trees_of}
use Rattle.spanner_model.specs.Tree.{Tree, rep, cat_all, alt_all}
use Rattle.spanner_model.specs.Fit.{Times, Fit}
use Rattle.spanner_model.specs.WellBuilt.{IsWellBuilt}
use Rattle.spanner_model.proofs.FitLaws.{fit_le, fit_within, fit_no_vars}
use Rattle.span_core.proofs.HasLaws.{Has-slice_get}
use Rattle.spanner_model.proofs.NodeParts.{has_parts}
use Rattle.spanner_model.proofs.Nodes.{nodes}
use Rattle.spanner_model.proofs.TreeLaws.{part_nodes}
use Rattle.spanner_model.proofs.Trees.{tree_of-One, tree_of-Cat, tree_of-Alt, tree_of-Rep, tree_of-Cap}
use Rattle.spanner_model.specs.Sequential.{HasNoVar}
use Rattle.plain_spanner.specs.Listed.{Tells, FromSome, LeadsOn, LeadsTimes, LeadsIn}
use Rattle.plain_spanner.proofs.BareLaws.{bare_same, bare_part, bare_take}
use Rattle.plain_spanner.proofs.TellsLaws.{tells_through, tells_only, tells_appended_to, from_none, from_more, from_all, empty_list}
use Rattle.plain_spanner.proofs.RepeatLaws.{Closed, times_snoc, times_unsnoc, times_begin, lists_repeat, leads_then, leads_none, leads_within, Has-drop, rounds_none, closed_none, closed_more, rounds_more, rounds_done}
use Rattle.plain_spanner.proofs.EndLaws.{turn_splits, turn_joins, turn_begins, arms_done, leads_nothing, times_stay, rounds_within}
use Rattle.plain_spanner.proofs.ends.+reached_from.Goals as goal

pub reached_from-in_turn-requires : goal.reached_from-in_turn-requires
reached_from-in_turn-requires t c =
    let p = has_parts c.args.formula.now c.in-Cat.parts (inl c.in-Cat.is) in
    let b = bare_same (tree_of c.args.formula.now) (cat_all (trees_of c.in-Cat.parts)) p.vars in
    (omega (arith, p.size), (p.built c.requires.built, (b.1 c.requires.bare, (c.requires.short, c.requires.within))))

pub reached_from-by_arms-requires : goal.reached_from-by_arms-requires
reached_from-by_arms-requires t c =
    let p = has_parts c.args.formula.now c.in-Alt.parts (inr c.in-Alt.is) in
    let b = bare_same (tree_of c.args.formula.now) (cat_all (trees_of c.in-Alt.parts)) p.vars in
    (omega (arith, p.size), (p.built c.requires.built, (b.1 c.requires.bare, (c.requires.short, c.requires.within))))

pub reached_from-repeated-requires : goal.reached_from-repeated-requires
reached_from-repeated-requires t c =
    let e = ap tree_of c.in-Rep.is ∙ tree_of-Rep c.in-Rep.sub c.in-Rep.least c.in-Rep.most ∙ ap (λ x. rep (tree_of x) c.in-Rep.least c.in-Rep.most) (sym c.deref.ensures) in
    let w = subst IsWellBuilt e c.requires.built in
    let n = ap nodes e in
    let deep = w.1 in
    (omega (arith, n), ((w.0.0, omega (arith, deep)), (subst HasNoVar e c.requires.bare, (c.requires.short, c.requires.within))))

pub reached_from-rounds-more-requires : goal.reached_from-rounds-more-requires
reached_from-rounds-more-requires t c =
    let e = ap tree_of c.in-Rep.is ∙ tree_of-Rep c.in-Rep.sub c.in-Rep.least c.in-Rep.most in
    let w = subst IsWellBuilt e c.requires.built in
    λ b is. (w.0.1.1 b is).0

pub reached_from-repeated_more-requires : goal.reached_from-repeated_more-requires
reached_from-repeated_more-requires t c =
    let e = ap tree_of c.in-Rep.is ∙ tree_of-Rep c.in-Rep.sub c.in-Rep.least c.in-Rep.most ∙ ap (λ x. rep (tree_of x) c.in-Rep.least c.in-Rep.most) (sym c.deref-in-Rep.ensures) in
    let w = subst IsWellBuilt e c.requires.built in
    let n = ap nodes e in
    let deep = w.1 in
    let f = tree_of c.deref.result.now in
    let d = c.args.doc.now in
    let within : (k : ℕ) → Has c.deref-in-Rep-2.result.now k → k ≤ length d = λ k h.
    leads_within (Times (Fit f d) c.in-Rep.least) (length d) c.args.starts.now c.in_ok-first-in-Rep.first.items
    (λ i j le h. times_stay f d c.in-Rep.least i j le h) c.requires.within c.in_ok-first-in-Rep.ensures k
    (rw (← c.deref-in-Rep-2.ensures.value) h) in
    (omega (arith, n), ((w.0.0, omega (arith, deep)), (subst HasNoVar e c.requires.bare, (c.requires.short, within))))

pub reached_from-returns-in_ok-first-in-Rep : goal.reached_from-returns-in_ok-first-in-Rep
reached_from-returns-in_ok-first-in-Rep t c =
    let least = c.in-Rep.least in
    let most = c.in-Rep.most in
    let d = c.args.doc.now in
    let starts = c.args.starts.now in
    let f = tree_of c.deref.result.now in
    let e = ap tree_of c.in-Rep.is ∙ tree_of-Rep c.in-Rep.sub least most ∙ ap (λ x. rep (tree_of x) least most) (sym c.deref.ensures) in
    let same : tree_of c.deref-in-Rep.result.now ≡ f = ap tree_of (c.deref-in-Rep.ensures ∙ sym c.deref.ensures) in
    let bare = subst HasNoVar e c.requires.bare in
    IfOk-weaker c.repeated_more.result _ _ (λ v so.
    let so' = rw same at so in
    let so'' = rw c.deref-in-Rep-2.ensures.value at so' in
    rw e
    (lists_repeat (Fit f d) (λ i j m h. fit_no_vars f d i j m bare h) (λ i j m h. fit_le f d i j m h) least c.rounds-more.result (length d) most starts c.in_ok-first-in-Rep.first.items (Has v.items)
    (λ i j n s h. times_stay f d n i j (c.requires.within i s) h) c.rounds-more.ensures.capped c.rounds-more.ensures.enough c.in_ok-first-in-Rep.ensures so'')) c.repeated_more.ensures

pub reached_from-returns-in-Cat : goal.reached_from-returns-in-Cat
reached_from-returns-in-Cat t c =
    let e = ap tree_of c.in-Cat.is ∙ tree_of-Cat c.in-Cat.parts in
    rw e c.in_turn.ensures

pub reached_from-returns-in-Alt : goal.reached_from-returns-in-Alt
reached_from-returns-in-Alt t c =
    let e = ap tree_of c.in-Alt.is ∙ tree_of-Alt c.in-Alt.parts in
    rw e c.by_arms.ensures

pub reached_from-returns-in-One : goal.reached_from-returns-in-One
reached_from-returns-in-One t c =
    let e = ap tree_of c.in-One.is ∙ tree_of-One c.in-One.set in
    rw e c.after_byte.ensures

pub reached_from-returns-in-Cap : goal.reached_from-returns-in-Cap
reached_from-returns-in-Cap t c =
    let e = ap tree_of c.in-Cap.is ∙ tree_of-Cap c.in-Cap.field-0 c.in-Cap.field-1 in
    absurd (subst HasNoVar e c.requires.bare c.in-Cap.field-0 (inl refl))

pub in_turn-reached_from-requires : goal.in_turn-reached_from-requires
in_turn-reached_from-requires t c =
    let ts = trees_of c.args.parts.now in
    let d = c.args.doc.now in
    let g = cat_all (take c.loop-k.k ts) in
    let has = Has-slice_get ts c.loop-k.k (tree_of c.at.result.now) c.at.ensures in
    let within : (k : ℕ) → Has c.deref.result.now k → k ≤ length d = λ k h.
    leads_within (Fit g d) (length d) c.args.starts.now c.loop-k.reached.items (λ i j le h. fit_within g d i j [] le h) c.requires.within
    c.loop-k.invariant k (rw (← c.deref.ensures.value) h) in (
      omega (arith, part_nodes ts (tree_of c.at.result.now) has),
      (c.requires.built (tree_of c.at.result.now) has, (bare_part ts (tree_of c.at.result.now) has c.requires.bare, (c.requires.short, within))),
    )

pub in_turn-loop-k-init : goal.in_turn-loop-k-init
in_turn-loop-k-init t c = leads_nothing c.args.starts.now c.in_ok-reached.reached.items c.in_ok-reached.ensures.items

pub in_turn-loop-k-preserved : goal.in_turn-loop-k-preserved
in_turn-loop-k-preserved t c =
    let ts = trees_of c.args.parts.now in
    let d = c.args.doc.now in
    let k = c.loop-k.k in
    let u = tree_of c.at.result.now in
    let bare = bare_part ts u (Has-slice_get ts k u c.at.ensures) c.requires.bare in
    let next = rw c.deref.ensures.value at c.in_ok-reached-2.ensures in
    leads_then (Fit (cat_all (take k ts)) d) (Fit u d) (Fit (cat_all (take (k + 1) ts)) d) (turn_splits d ts k u c.at.ensures (bare_take ts k c.requires.bare) bare) (turn_joins d ts k u c.at.ensures)
    c.args.starts.now c.loop-k.reached.items (Has c.in_ok-reached-2.reached.items) c.loop-k.invariant next

pub in_turn-returns-then-is_empty : goal.in_turn-returns-then-is_empty
in_turn-returns-then-is_empty t c =
    let ts = trees_of c.args.parts.now in
    let d = c.args.doc.now in
    let k = c.loop-k.k in
    let none : c.loop-k.reached.items ≡ [] = empty_list c.loop-k.reached.items c.loop-k.reached.len (omega (arith, c.loop-k.reached.ok.0)) c.if-is_empty.ensures in
    leads_none (Fit (cat_all (take k ts)) d) (λ n j _. (m : Captures) × Fit (cat_all (drop k ts)) d n j m) (Fit (cat_all ts) d)
    (turn_begins d ts k c.requires.bare) c.args.starts.now c.loop-k.reached.items none c.loop-k.invariant

pub in_turn-returns : goal.in_turn-returns
in_turn-returns t c =
    let ts = trees_of c.args.parts.now in
    let e : c.loop-k.k ≡ length ts = omega arith in
    rw (← (ap (λ n. take n ts) e ∙ take-length ts)) c.loop-k.invariant

pub by_arms-reached_from-requires : goal.by_arms-reached_from-requires
by_arms-reached_from-requires t c =
    let ts = trees_of c.args.parts.now in
    let has = Has-slice_get ts c.loop-k.k (tree_of c.at.result.now) c.at.ensures in (
      omega (arith, part_nodes ts (tree_of c.at.result.now) has),
      (c.requires.built (tree_of c.at.result.now) has, (bare_part ts (tree_of c.at.result.now) has c.requires.bare, (c.requires.short, c.requires.within))),
    )

pub by_arms-loop-k-preserved : goal.by_arms-loop-k-preserved
by_arms-loop-k-preserved t c =
    let ts = trees_of c.args.parts.now in
    let u = tree_of c.at.result.now in
    let R = λ (v : Tree) (j : ℕ). LeadsOn (Fit v c.args.doc.now) c.args.starts.now j in
    from_more R (Has []) (Has c.loop-k.all.items) (Has c.append.new.self.items) ts c.loop-k.k u u (slice_get_within ts c.loop-k.k u c.at.ensures)
    (sym (get_or_from_slice_get ts c.loop-k.k u u c.at.ensures)) c.loop-k.invariant
    (tells_appended_to c.loop-k.all.items c.in_ok-others.others.items c.append.new.self.items (R u) c.in_ok-append.ensures.items c.in_ok-others.ensures)

pub by_arms-loop-k-init : goal.by_arms-loop-k-init
by_arms-loop-k-init t c =
    let R = λ (v : Tree) (j : ℕ). LeadsOn (Fit v c.args.doc.now) c.args.starts.now j in
    rw c.new-all.ensures.items (from_none R (Has []))

pub by_arms-returns : goal.by_arms-returns
by_arms-returns t c =
    let ts = trees_of c.args.parts.now in
    let d = c.args.doc.now in
    let R = λ (v : Tree) (j : ℕ). LeadsOn (Fit v d) c.args.starts.now j in
    let listed = tells_only (Has c.loop-k.all.items) (Has []) (FromSome R ts) (λ x h. h) (from_all R (Has []) (Has c.loop-k.all.items) ts c.loop-k.k (omega arith) (omega arith) c.loop-k.invariant) in
    tells_through (Has c.sort_once.new.values.items) (Has c.loop-k.all.items) (LeadsOn (Fit (alt_all ts) d) c.args.starts.now)
    c.sort_once.ensures.adds_none c.sort_once.ensures.keeps (arms_done d ts c.args.starts.now (Has c.loop-k.all.items) listed)

pub repeated-reached_from-requires : goal.repeated-reached_from-requires
repeated-reached_from-requires t c =
    let f = tree_of c.args.sub.now in
    let d = c.args.doc.now in
    let within : (k : ℕ) → Has c.deref.result.now k → k ≤ length d = λ k h.
    leads_within (Times (Fit f d) c.loop-count._count) (length d) c.args.starts.now c.loop-count.reached.items
    (λ i j le h. times_stay f d c.loop-count._count i j le h) c.requires.within c.loop-count.invariant k
    (rw (← c.deref.ensures.value) h) in
    (omega arith, (c.requires.built, (c.requires.bare, (c.requires.short, within))))

pub repeated-loop-count-init : goal.repeated-loop-count-init
repeated-loop-count-init t c = leads_nothing c.args.starts.now c.in_ok-reached.reached.items c.in_ok-reached.ensures.items

pub repeated-loop-count-preserved : goal.repeated-loop-count-preserved
repeated-loop-count-preserved t c =
    let f = tree_of c.args.sub.now in
    let d = c.args.doc.now in
    let n = c.loop-count._count in
    let P = Fit f d in
    let e : n + 1 ≡ suc n = omega arith in
    let bare = λ (i j : ℕ) (m : Captures) (h : Fit f d i j m). fit_no_vars f d i j m c.requires.bare h in
    let next = rw c.deref.ensures.value at c.in_ok-reached-2.ensures in
    leads_then (Times P n) P (Times P (n + 1)) (λ i j h. times_unsnoc P bare n i j (rw e at h))
    (λ i k j p q. rw e (times_snoc P bare n i k j p q))
    c.args.starts.now c.loop-count.reached.items (Has c.in_ok-reached-2.reached.items) c.loop-count.invariant next

pub repeated-returns-then-is_empty : goal.repeated-returns-then-is_empty
repeated-returns-then-is_empty t c =
    let f = tree_of c.args.sub.now in
    let d = c.args.doc.now in
    let n = c.loop-count._count in
    let P = Fit f d in
    let bare = λ (i j : ℕ) (m : Captures) (h : Fit f d i j m). fit_no_vars f d i j m c.requires.bare h in
    let none : c.loop-count.reached.items ≡ [] = empty_list c.loop-count.reached.items c.loop-count.reached.len (omega (arith, c.loop-count.reached.ok.0)) c.if-is_empty.ensures in
    leads_none (Times P n) (Times P (c.args.count - n)) (Times P c.args.count) (λ i j h. times_begin P bare n c.args.count i j (omega arith) h)
    c.args.starts.now c.loop-count.reached.items none c.loop-count.invariant

pub repeated-returns : goal.repeated-returns
repeated-returns t c =
    let e : c.loop-count._count ≡ c.args.count = omega arith in
    rw (← e) c.loop-count.invariant

pub repeated_more-loop-round-init : goal.repeated_more-loop-round-init
repeated_more-loop-round-init t c =
    let f = tree_of c.args.sub.now in
    let d = c.args.doc.now in
    let bare = λ (i j : ℕ) (m : Captures) (h : Fit f d i j m). fit_no_vars f d i j m c.requires.bare h in
    let all = rw c.new-reached.ensures at c.in_ok-add_all.ensures.all in
    (omega arith, rounds_none (Fit f d) bare c.args.starts.now (Has c.add_all.new.self.ends.items) all, closed_none (Fit f d) bare c.args.starts.now c.add_all.new.self.ends.items)

pub repeated_more-reached_from-requires : goal.repeated_more-reached_from-requires
repeated_more-reached_from-requires t c =
    let f = tree_of c.args.sub.now in
    let d = c.args.doc.now in
    let within : (k : ℕ) → Has c.after.result.now k → k ≤ length d = λ k h.
    rounds_within f d c.args.starts.now c.loop-round.reached.ends.items 0 c.loop-round._round c.requires.within c.loop-round.invariant.1 k
    (Has-drop c.loop-round.reached.ends.items c.loop-round.done k (rw (← c.after.ensures) h)) in
    (omega arith, (c.requires.built, (c.requires.bare, (c.requires.short, within))))

pub repeated_more-loop-round-preserved : goal.repeated_more-loop-round-preserved
repeated_more-loop-round-preserved t c =
    let f = tree_of c.args.sub.now in
    let d = c.args.doc.now in
    let P = Fit f d in
    let bare = λ (i j : ℕ) (m : Captures) (h : Fit f d i j m). fit_no_vars f d i j m c.requires.bare h in
    let reached = c.loop-round.reached.ends.items in
    let next = c.in_ok-next.next.items in
    let grown = c.add_all-in-loop-round.new.self.ends.items in
    let on = rw c.after.ensures at c.in_ok-next.ensures in
    let all = rw c.deref.ensures.value at c.in_ok-add_all-2.ensures.all in
    let begins = c.in_ok-add_all-2.ensures.grown in (
      omega (arith, c.len-done.ensures, ap length begins.joined, length-append reached begins.rest),
      rounds_more P bare c.args.starts.now c.loop-round._round c.loop-round.done reached next grown c.loop-round.invariant.1 c.loop-round.invariant.2 begins on all,
      rw c.len-done.ensures (closed_more P bare c.args.starts.now c.loop-round.done reached next grown c.loop-round.invariant.2 begins on all),
    )

pub repeated_more-returns-then-done-len : goal.repeated_more-returns-then-done-len
repeated_more-returns-then-done-len t c =
    let f = tree_of c.args.sub.now in
    let d = c.args.doc.now in
    let bare = λ (i j : ℕ) (m : Captures) (h : Fit f d i j m). fit_no_vars f d i j m c.requires.bare h in
    rw c.into_ends.ensures
    (rounds_done (Fit f d) bare c.args.starts.now c.loop-round._round c.args.most c.loop-round.done c.loop-round.reached.ends.items (omega arith)
    (c.if-done-len.true ∙ c.len.ensures) c.loop-round.invariant.1 c.loop-round.invariant.2)

pub repeated_more-returns : goal.repeated_more-returns
repeated_more-returns t c =
    let e : c.loop-round._round ≡ c.args.most = omega arith in
    rw c.into_ends-2.ensures
    (rw (← e) c.loop-round.invariant.1)
