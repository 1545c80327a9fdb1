use Rattle.std.proofs.Common.{◌≡◌, ◌+◌, ◌-◌, ◌≤◌, ◌∷◌, ℕ, List, Some, drop, length, take, inl, inr, refl, sym, ap, ◌∙◌, subst, arith}
use Rattle.std.specs.Prelude.{◌==◌, ◌*◌, if◌then◌else◌}
use Rattle.spanner_model.specs.View.{tree_of, trees_of}
use Rattle.spanner_model.specs.Tree.{rep, cap, cat_all, alt_all}
use Rattle.spanner_model.specs.WellBuilt.{IsWellBuilt}
use Rattle.span_core.specs.Lists.{AreDistinct, Has}
use Rattle.span_core.proofs.HasLaws.{Has-slice_get}
use Rattle.span_core.proofs.ListLaws.{at_drop}
use Rattle.spanner_model.proofs.Nodes.{nodes}
use Rattle.spanner_model.proofs.TreeLaws.{take_at_more, part_has, arms_have, part_nodes, arms_nodes, parts_well_built, arms_well_built, sequential_part, sequential_arm}
use Rattle.spanner_model.proofs.Trees.{tree_of-Cat, tree_of-Alt, tree_of-Rep, tree_of-Cap}
use Rattle.place_automaton.specs.Capped.{AreCapped}
use Rattle.place_automaton.specs.Counts.{PlaceCounts, counts_opt, counts_over, counts_repeated, largest_null_over}
use Rattle.place_automaton.specs.declared.TheConstants.{MOST_SETS}
use Rattle.place_automaton.specs.Drafts.{AreNamed}
use Rattle.spanner_model.specs.Sequential.{HasNoVar, IsSequential}
use Rattle.place_automaton.specs.Words.{opening_of, closing_of}
use Rattle.place_automaton.proofs.AtomRuns.{not_true}
use Rattle.place_automaton.proofs.BuiltRepeats.{ordered_repeats}
use Rattle.place_automaton.proofs.FrontParts.{front_countable}
use Rattle.place_automaton.proofs.JoinedCounts.{counts_more}
use Rattle.place_automaton.proofs.LargestNull.{arm_largest, arms_largest, front_at, largest_more, part_largest, size_more}
use Rattle.place_automaton.proofs.LargeFaults.{IsCounted, IsLargeFault, counted_repeat, handed_on, not_large, sizes_product}
use Rattle.place_automaton.proofs.MarkBits.{apart_sum, own_apart}
use Rattle.place_automaton.proofs.NullCounts.{IsCountable, null_bare, null_captured, null_distinct, null_joins}
use Rattle.place_automaton.proofs.OncePlaces.{counts_once}
use Rattle.place_automaton.proofs.PartBuilt.{all_ordered}
use Rattle.place_automaton.proofs.counting.+count.Goals as goal

pub count_formula-count_parts-requires : goal.count_formula-count_parts-requires
count_formula-count_parts-requires t c =
    let ts = trees_of c.in-Cat.parts in
    let e = ap tree_of c.in-Cat.is ∙ tree_of-Cat c.in-Cat.parts in (
      omega (arith, ap nodes e),
      (
        parts_well_built ts (subst IsWellBuilt e c.requires.built),
        (subst IsSequential e c.requires.sequential, (c.requires.distinct, subst (AreNamed c.args.vars.now) e c.requires.named)),
      ),
    )

pub count_formula-count_arms-requires : goal.count_formula-count_arms-requires
count_formula-count_arms-requires t c =
    let ts = trees_of c.in-Alt.arms in
    let e = ap tree_of c.in-Alt.is ∙ tree_of-Alt c.in-Alt.arms in (
      omega (arith, ap nodes e, arms_nodes ts),
      (
        arms_well_built ts (subst IsWellBuilt e c.requires.built),
        (subst IsSequential e c.requires.sequential, (c.requires.distinct, subst (AreNamed c.args.vars.now) e c.requires.named)),
      ),
    )

pub count_arms-count_formula-requires : goal.count_arms-count_formula-requires
count_arms-count_formula-requires t c =
    let ts = trees_of c.args.arms.now in
    let f = tree_of c.at.result.now in
    let has = Has-slice_get ts (c.loop-waiting.waiting - 1) f c.at.ensures in (
      omega (arith, part_nodes ts f has),
      (
        c.requires.built f has,
        (sequential_arm ts f has c.requires.sequential, (c.requires.distinct, λ x v. c.requires.named x ((arms_have ts x).1 (part_has ts f x has v)))),
      ),
    )

pub count_parts-count_formula-requires : goal.count_parts-count_formula-requires
count_parts-count_formula-requires t c =
    let ts = trees_of c.args.parts.now in
    let f = tree_of c.at.result.now in
    let has = Has-slice_get ts c.loop-k.k f c.at.ensures in (
      omega (arith, part_nodes ts f has),
      (
        c.requires.built f has,
        (sequential_part ts f has c.requires.sequential, (c.requires.distinct, λ x v. c.requires.named x (part_has ts f x has v))),
      ),
    )

pub count_arms-alt-requires : goal.count_arms-alt-requires
count_arms-alt-requires t c =
    let names = c.args.vars.now in
    let ts = trees_of c.args.arms.now in
    let f = tree_of c.at.result.now in
    let has = Has-slice_get ts (c.loop-waiting.waiting - 1) f c.at.ensures in
    let named : AreNamed names f = λ x v. c.requires.named x ((arms_have ts x).1 (part_has ts f x has v)) in
    subst AreDistinct (sym c.in_ok-arm.ensures.ok.null) (null_distinct names f (sequential_arm ts f has c.requires.sequential, ordered_repeats f (c.requires.built f has), named))

pub count_arms-loop-waiting-preserved : goal.count_arms-loop-waiting-preserved
count_arms-loop-waiting-preserved t c =
    let names = c.args.vars.now in
    let ts = trees_of c.args.arms.now in
    let k = c.loop-waiting.waiting - 1 in
    let f = tree_of c.at.result.now in
    let rest = drop c.loop-waiting.waiting ts in
    let next : k + 1 ≡ c.loop-waiting.waiting = omega arith in
    let e = at_drop ts k f c.at.ensures ∙ ap (λ n. f ∷ drop n ts) next in
    let both = c.in_ok-alt.ensures (counts_over names f) (counts_over names (alt_all rest)) c.in_ok-arm.ensures.ok c.loop-waiting.invariant.1 in
    let size = ap (λ (ms : List ℕ). length ms) both.null in (
      omega arith,
      rw e
          (subst (AreCapped (counts_over names (alt_all (f ∷ rest)))) (sym c.in_ok-numbers.ensures.ok) both),
      rw e
          (omega (arith, size, c.in_ok-numbers.ensures.small, c.in_ok-arm.ensures.small, c.loop-waiting.invariant.2)),
    )

pub count_parts-cat-requires : goal.count_parts-cat-requires
count_parts-cat-requires t c = λ m n hm hn.
    let names = c.args.vars.now in
    let ts = trees_of c.args.parts.now in
    let k = c.loop-k.k in
    let f = tree_of c.at.result.now in
    let all : IsCountable names (cat_all ts) = (c.requires.sequential, all_ordered ts c.requires.built, c.requires.named) in
    null_joins names (cat_all (take k ts)) f (front_countable names ts k f c.at.ensures all) m n (rw c.loop-k.invariant.0.null at hm)
    (rw c.in_ok-part.ensures.ok.null at hn)

pub count_formula-returns-then-is_once : goal.count_formula-returns-then-is_once
count_formula-returns-then-is_once t c =
    let names = c.args.vars.now in
    let f = tree_of c.deref.result.now in
    let least = c.in-Rep.least in
    let most = c.in-Rep.most in
    let e = ap tree_of c.in-Rep.is ∙ tree_of-Rep c.in-Rep.sub least most ∙ ap (λ y. rep (tree_of y) least most) (sym c.deref.ensures) in
    let w = subst IsWellBuilt e c.requires.built in
    let one : most ≡ Some 1 = c.is_once.ensures.0 c.if-is_once.true in
    let a = counts_over names f in
    let is : counts_over names (rep f least most) ≡ (if least == 0 then counts_opt a else a) =
    ap (λ o. counts_repeated least o a) one ∙ counts_once least a (w.0.1.1 1 one).0 in
    let all = rw (← is) at (c.in_ok-opt_if-in-Rep.ensures a c.in_ok-numbers-in-Rep.ensures.ok) in
    let told : IsCounted names c.listed.result (tree_of c.args.formula.now) =
    subst (IsCounted names c.listed.result) (sym e)
    (counted_repeat names f least most c.in_ok-opt_if-in-Rep.field-0 c.listed.result all c.in_ok-numbers-in-Rep.ensures.small c.listed.ensures.ok c.listed.ensures.small c.listed.ensures.err) in
    record { ok = told.ok; small = told.small; err = told.err }

pub count_formula-repeated-requires : goal.count_formula-repeated-requires
count_formula-repeated-requires t c = λ m h.
    let names = c.args.vars.now in
    let f = tree_of c.deref.result.now in
    let least = c.in-Rep.least in
    let most = c.in-Rep.most in
    let e = ap tree_of c.in-Rep.is ∙ tree_of-Rep c.in-Rep.sub least most ∙ ap (λ y. rep (tree_of y) least most) (sym c.deref.ensures) in
    let w = subst IsWellBuilt e c.requires.built in
    let seq = subst IsSequential e c.requires.sequential in
    let none : HasNoVar f = elim seq.1 [ inl v ↦ v | inr one ↦ not_true c.is_once.result (HasNoVar f) c.if-is_once.false (c.is_once.ensures.1 one) ] in
    null_bare names f (seq.0, ordered_repeats f (w.0.0, omega (arith, w.1)), subst (AreNamed names) e c.requires.named) none m
    (rw (← c.in_ok-numbers-in-Rep.ensures.ok.null) h)

pub count_formula-captured-requires-clause-apart : goal.count_formula-captured-requires-clause-apart
count_formula-captured-requires-clause-apart t c =
    let names = c.args.vars.now in
    let x = c.in-Cap.name in
    let f = tree_of c.deref-in-Cap.result.now in
    let e = ap tree_of c.in-Cap.is ∙ tree_of-Cap x c.in-Cap.sub ∙ ap (λ y. cap x (tree_of y)) (sym c.deref-in-Cap.ensures) in
    apart_sum (opening_of names x) (closing_of names x) (own_apart names x (subst (AreNamed names) e c.requires.named x (inl refl)))

pub count_formula-captured-requires-clause-marks : goal.count_formula-captured-requires-clause-marks
count_formula-captured-requires-clause-marks t c = λ m h.
    let names = c.args.vars.now in
    let x = c.in-Cap.name in
    let f = tree_of c.deref-in-Cap.result.now in
    let e = ap tree_of c.in-Cap.is ∙ tree_of-Cap x c.in-Cap.sub ∙ ap (λ y. cap x (tree_of y)) (sym c.deref-in-Cap.ensures) in
    null_captured names x f (subst IsSequential e c.requires.sequential, ordered_repeats (cap x f) (subst IsWellBuilt e c.requires.built), subst (AreNamed names) e c.requires.named) m
    (rw (← c.in_ok-numbers-in-Cap.ensures.ok.null) h)

pub count_arms-returns-in_err-arm-clause-err : goal.count_arms-returns-in_err-arm-clause-err
count_arms-returns-in_err-arm-clause-err t c =
    let names = c.args.vars.now in
    let ts = trees_of c.args.arms.now in
    let f = tree_of c.at.result.now in
    let o = opening_of names in
    let k = closing_of names in
    let has = Has-slice_get ts (c.loop-waiting.waiting - 1) f c.at.ensures in
    handed_on (IsLargeFault (largest_null_over names (alt_all ts))) c.from_residual.result c.in_err-arm.field-0.0 c.from_residual.ensures.1
    (λ is. omega (arith, c.in_err-arm.ensures.err is, arm_largest o k ts f has))

pub count_arms-returns-in_err-numbers-clause-err : goal.count_arms-returns-in_err-numbers-clause-err
count_arms-returns-in_err-numbers-clause-err t c =
    let names = c.args.vars.now in
    let ts = trees_of c.args.arms.now in
    let k = c.loop-waiting.waiting - 1 in
    let f = tree_of c.at.result.now in
    let rest = drop c.loop-waiting.waiting ts in
    let next : k + 1 ≡ c.loop-waiting.waiting = omega arith in
    let e = at_drop ts k f c.at.ensures ∙ ap (λ n. f ∷ drop n ts) next in
    let both = c.in_ok-alt.ensures (counts_over names f) (counts_over names (alt_all rest)) c.in_ok-arm.ensures.ok c.loop-waiting.invariant.1 in
    let size = ap (λ (ms : List ℕ). length ms) both.null in
    let all = arms_largest (opening_of names) (closing_of names) ts k in
    let same = ap (λ us. largest_null_over names (alt_all us)) e in
    handed_on (IsLargeFault (largest_null_over names (alt_all ts))) c.from_residual-in_err-numbers.result c.in_err-numbers.field-0.0 c.from_residual-in_err-numbers.ensures.1
    (λ is. omega (arith, c.in_err-numbers.ensures.err, size, same, all))

pub count_parts-returns-in_err-part-clause-err : goal.count_parts-returns-in_err-part-clause-err
count_parts-returns-in_err-part-clause-err t c =
    let names = c.args.vars.now in
    let ts = trees_of c.args.parts.now in
    let f = tree_of c.at.result.now in
    let has = Has-slice_get ts c.loop-k.k f c.at.ensures in
    handed_on (IsLargeFault (largest_null_over names (cat_all ts))) c.from_residual-in_err-part.result c.in_err-part.field-0.0 c.from_residual-in_err-part.ensures.1
    (λ is. omega (arith, c.in_err-part.ensures.err is, part_largest (opening_of names) (closing_of names) ts f 1 has))

pub count_parts-returns-then-has_large_join-clause-err : goal.count_parts-returns-then-has_large_join-clause-err
count_parts-returns-then-has_large_join-clause-err t c = λ is.
    let names = c.args.vars.now in
    let ts = trees_of c.args.parts.now in
    let k = c.loop-k.k in
    let f = tree_of c.at.result.now in
    let front = cat_all (take k ts) in
    let large = c.has_large_join.ensures.0 c.if-has_large_join.true in
    let sizes = sizes_product (counts_over names front) (counts_over names f) c.loop-k.numbers c.in_ok-part.part c.loop-k.invariant.0 c.in_ok-part.ensures.ok in
    let whole = front_at (opening_of names) (closing_of names) ts k f c.at.ensures in
    omega (arith, large, sizes, whole)

pub count_parts-loop-k-preserved : goal.count_parts-loop-k-preserved
count_parts-loop-k-preserved t c =
    let names = c.args.vars.now in
    let o = opening_of names in
    let l = closing_of names in
    let ts = trees_of c.args.parts.now in
    let k = c.loop-k.k in
    let f = tree_of c.at.result.now in
    let front = take k ts in
    let e = take_at_more ts k f c.at.ensures in
    let both = c.in_ok-numbers-2.ensures.capped (counts_over names (cat_all front)) (counts_over names f) c.loop-k.invariant.0 c.in_ok-part.ensures.ok in
    let sizes = sizes_product (counts_over names (cat_all front)) (counts_over names f) c.loop-k.numbers c.in_ok-part.part c.loop-k.invariant.0 c.in_ok-part.ensures.ok in
    let within = not_large c.has_large_join.result MOST_SETS (length c.loop-k.numbers.null.items * length c.in_ok-part.part.null.items) c.if-has_large_join.false c.has_large_join.ensures.1 in (
      rw e
          (rw (counts_more o l front f) both),
      rw e
          (largest_more o l front f 1 MOST_SETS c.loop-k.invariant.1 c.in_ok-part.ensures.small (omega (arith, within, sizes, size_more o l front f))),
    )
