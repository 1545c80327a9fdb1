-- Two ascending lists, from some places on.
use Rattle.std.proofs.Common.{◌≡◌, ℕ, zero, suc, ◌+◌, ◌<◌, ◌≤◌, ◌⊎◌, List, [], ◌∷◌, get_or, drop, inl, inr, arith, add-one}
use Rattle.span_core.specs.Lists.{Has, IsInOrder}
use Rattle.span_core.proofs.ListLaws.{all_has}

abbrev pub Ascends : List ℕ → Type 0
Ascends xs = IsInOrder ◌<◌ xs

-- what stands behind the place i is no less than what stands there
pub least_at : (xs : List ℕ) (i r : ℕ) → Ascends xs → Has (drop i xs) r → get_or xs i 0 ≤ r
least_at [] zero r up h = absurd h
least_at [] (suc i) r up h = absurd h
least_at (x ∷ xs) zero r up (inl e) = omega (arith, e)
least_at (x ∷ xs) zero r up (inr k) = let l = all_has (λ q. x < q) xs r up.0 k in omega (arith, l)
least_at (x ∷ xs) (suc i) r up h = least_at xs i r up.1 h

drop_cases : (xs : List ℕ) (i r : ℕ) → Has (drop i xs) r → (get_or xs i 0 ≡ r) ⊎ Has (drop (suc i) xs) r
drop_cases [] zero r h = absurd h
drop_cases [] (suc i) r h = absurd h
drop_cases (x ∷ xs) zero r (inl e) = inl e
drop_cases (x ∷ xs) zero r (inr k) = inr k
drop_cases (x ∷ xs) (suc i) r h = drop_cases xs i r h

-- what both have stands behind i in the one and behind j in the other
abbrev pub StandBehind : List ℕ → List ℕ → ℕ → ℕ → Type 0
StandBehind a b i j = (r : ℕ) → Has a r → Has b r → Has (drop i a) r × Has (drop j b) r

after : (xs : List ℕ) (i r : ℕ) → (get_or xs i 0 ≡ r → ⊥) → Has (drop i xs) r → Has (drop (i + 1) xs) r
after xs i r apart h =
    elim (drop_cases xs i r h) [
      | inl e ↦ absurd (apart e)
      | inr k ↦ rw (add-one i) k
    ]

pub stand_left : (a b : List ℕ) (i j : ℕ) → Ascends b → get_or a i 0 < get_or b j 0 → StandBehind a b i j → StandBehind a b (i + 1) j
stand_left a b i j up less h r k l =
    let both = h r k l in
    let least = least_at b j r up both.1 in
    (after a i r (λ e. omega (arith, e, least, less)) both.0, both.1)

pub stand_right : (a b : List ℕ) (i j : ℕ) → Ascends a → get_or b j 0 < get_or a i 0 → StandBehind a b i j → StandBehind a b i (j + 1)
stand_right a b i j up less h r k l =
    let both = h r k l in
    let least = least_at a i r up both.0 in
    (both.0, after b j r (λ e. omega (arith, e, least, less)) both.1)

-- a number that both have is no less than the one at i
pub shared_least : (a b : List ℕ) (i j r : ℕ) → Ascends a → StandBehind a b i j → Has a r → Has b r → get_or a i 0 ≤ r
shared_least a b i j r up h k l = least_at a i r up (h r k l).0
