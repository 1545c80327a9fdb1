use Rattle.std.proofs.Common.{◌≡◌, ℕ, [], ◌∷◌, length, true, false, arith, refl, sym, subst, ap, ◌∙◌}
use Rattle.std.specs.Prelude.{◌==◌}
use Rattle.std.proofs.lemmas.Bool.{eqb-true, eq-eqb, true≢false}
use Rattle.unicode_classes.specs.Grouped.{AreGrouped}
use Rattle.unicode_classes.proofs.RangeLaws.{Ranges}
use Rattle.unicode_classes.proofs.PlainLaws.{some_number}
use Rattle.unicode_classes.proofs.GroupLaws.{grouped_first, grouped_same, grouped_more, part_is, digit_fits, none_covers}
use Rattle.unicode_classes.proofs.blocks.grouped.Goals.{then-not-is_empty+in_ok-put, else-not-is_empty}
use Rattle.unicode_classes.proofs.blocks.grouped.Goals as goal

was_none : (xs : Ranges) → (length xs == 0) ≡ true → xs ≡ []
was_none [] e = refl
was_none (x ∷ xs) e = absurd (let l = eqb-true (length (x ∷ xs)) 0 e in omega arith)

is_some : (xs ys : Ranges) → xs ≡ ys → ys ≡ [] → (length xs == 0) ≡ false → ⊥
is_some xs ys e n f = true≢false (sym (eq-eqb (length xs) 0 (ap length (e ∙ n))) ∙ f)

pub loop-digit-init : goal.loop-digit-init
loop-digit-init c = subst (AreGrouped c.args.base c.args.unit c.args.ranges.now 0) (sym c.new-groups.ensures.items) (grouped_first c.args.base c.args.unit c.args.ranges.now)

pub overflow_add-base : goal.overflow_add-base
overflow_add-base c =
    let unit = c.args.unit in
    let rs = c.args.ranges.now in
    let part = part_is c.args.base unit rs c.from.result c.loop-digit.digit c.in_ok-tails.tails c.from.ensures c.in_ok-tails.ensures in
    let some = some_number c.in_ok-tails.tails c.parts.ensures.apart (λ e. is_some c.parts.result.now c.in_ok-tails.tails c.parts.ensures.value e (sym c.is_empty.ensures ∙ c.if-not-is_empty.true)) in
    let l = digit_fits c.args.base unit rs c.loop-digit.digit c.in_ok-tails.tails c.requires.bytes part some in omega arith

pub loop-digit-preserved : goal.loop-digit-preserved
loop-digit-preserved c =
    let base = c.args.base in
    let unit = c.args.unit in
    let rs = c.args.ranges.now in
    let n = c.loop-digit.digit in
    let tails = c.in_ok-tails.tails in
    let part = part_is base unit rs c.from.result n tails c.from.ensures c.in_ok-tails.ensures in
    elim c.if-not-is_empty.branch [
      | then-not-is_empty+in_ok-put w ↦
          rw w.groups-is (grouped_more base unit rs n c.loop-digit.groups.items _ tails c.requires.positive part c.parts.ensures.apart
          (some_number tails c.parts.ensures.apart (λ e. is_some c.parts.result.now tails c.parts.ensures.value e (sym c.is_empty.ensures ∙ w.if-not-is_empty.true)))
          w.in_ok-put.ensures c.loop-digit.invariant)
      | else-not-is_empty w ↦
          rw w.groups-is (grouped_same base unit rs n c.loop-digit.groups.items
          (none_covers base unit rs n tails part (sym c.parts.ensures.value ∙ was_none c.parts.result.now (sym c.is_empty.ensures ∙ w.if-not-is_empty.false))) c.loop-digit.invariant)
    ]

pub returns : goal.returns
returns c = subst (λ (k : ℕ). AreGrouped c.args.base c.args.unit c.args.ranges.now k c.loop-digit.groups.items) (omega arith) c.loop-digit.invariant
