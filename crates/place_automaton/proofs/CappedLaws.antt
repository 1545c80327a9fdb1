-- Sums and products of numbers that are kept up to a greatest one.
use Rattle.std.proofs.Common.{◌≡◌, ℕ, zero, suc, ◌+◌, ◌-◌, ◌*◌, ◌^◌, ◌≤◌, min, inl, inr, refl, sym, ap, ◌∙◌, arith}
use Rattle.std.proofs.Math.Nat.{mul-le-mul_left, mul-le-mul_right}
use Rattle.marked_automaton.proofs.Listed.{compared}
use Rattle.place_automaton.specs.Capped.{capped}

module _ (m : ℕ) where
  min_add : (x y : ℕ) → min (min x m + min y m) m ≡ min (x + y) m
  min_add x y = omega arith

  min_past : (x : ℕ) → m ≤ x → min x m ≡ m
  min_past x h = omega arith

  min_within : (x : ℕ) → x ≤ m → min x m ≡ x
  min_within x h = omega arith

  -- m times a number that is not 0
  past_left : (x y : ℕ) → m ≤ x → m ≤ x * suc y
  past_left x y h = omega (arith, mul-le-mul_left x (let le : 1 ≤ suc y = omega arith in le))

  past_right : (x y : ℕ) → m ≤ y → m ≤ suc x * y
  past_right x y h = omega (arith, mul-le-mul_right y (let le : 1 ≤ suc x = omega arith in le))

  min_mul : 1 ≤ m → (x y : ℕ) → min (min x m * min y m) m ≡ min (x * y) m
  min_mul pos x y = elim (compared x m) [
    | inl l ↦ elim (compared y m) [
      | inl k ↦ ap (λ a. min (a * min y m) m) (min_within x (omega (arith, l))) ∙ ap (λ b. min (x * b) m) (min_within y (omega (arith, k)))
      | inr k ↦ ap (λ a. min (a * min y m) m) (min_within x (omega (arith, l))) ∙ right x (elim k [ inl e ↦ omega (arith, e) | inr g ↦ omega (arith, g) ])
    ]
    | inr l ↦ left y (elim l [ inl e ↦ omega (arith, e) | inr g ↦ omega (arith, g) ])
  ]
    where
      right : (x : ℕ) → m ≤ y → min (x * min y m) m ≡ min (x * y) m
      right zero h = omega arith
      right (suc x) h = min_past (suc x * min y m) (past_right x (min y m) (omega arith)) ∙ sym (min_past (suc x * y) (past_right x y h))

      left : (y : ℕ) → m ≤ x → min (min x m * min y m) m ≡ min (x * y) m
      left zero h = let e : min 0 m ≡ 0 = omega arith in ap (λ b. min (min x m * b) m) e ∙ (let f : min (min x m * 0) m ≡ min (x * 0) m = omega arith in f)
      left (suc y) h = two (min (suc y) m) refl
        where
          two : (z : ℕ) → min (suc y) m ≡ z → min (min x m * min (suc y) m) m ≡ min (x * suc y) m
          two zero e = absurd (omega (arith, e, pos))
          two (suc z) e =
              ap (λ b. min (min x m * b) m) e ∙ (min_past (min x m * suc z) (past_left (min x m) z (omega (arith, h))) ∙ sym (min_past (x * suc y) (past_left x y h)))

pub capped_add : (x y : ℕ) → capped (capped x + capped y) ≡ capped (x + y)
capped_add x y = min_add (2 ^ 64 - 1) x y

pub capped_mul : (x y : ℕ) → capped (capped x * capped y) ≡ capped (x * y)
capped_mul x y = min_mul (2 ^ 64 - 1) (omega arith) x y

pub capped_small : (x : ℕ) → x ≤ 2 ^ 64 - 1 → x ≡ capped x
capped_small x h = sym (min_within (2 ^ 64 - 1) x h)

-- a sum and a product of kept numbers
pub sum_of : (a b x y r : ℕ) → a ≡ capped x → b ≡ capped y → r ≡ min (a + b) (2 ^ 64 - 1) → r ≡ capped (x + y)
sum_of a b x y r e f g = g ∙ (ap (λ a. capped (a + b)) e ∙ (ap (λ b. capped (capped x + b)) f ∙ capped_add x y))

pub product_of : (a b x y r : ℕ) → a ≡ capped x → b ≡ capped y → r ≡ min (a * b) (2 ^ 64 - 1) → r ≡ capped (x * y)
product_of a b x y r e f g = g ∙ (ap (λ a. capped (a * b)) e ∙ (ap (λ b. capped (capped x * b)) f ∙ capped_mul x y))
