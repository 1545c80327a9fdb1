-- Parts one after another, as they are joined from the last to the first.
use Rattle.std.specs.Prelude.{nat_le, if◌then◌else◌}
use Rattle.std.proofs.lemmas.Bool.{leb-true, leb-false}
use Rattle.std.proofs.Common.{◌≡◌, ℕ, zero, suc, ◌+◌, ◌-◌, ◌<◌, ◌≤◌, Bool, true, false, List, [], ◌∷◌, ◌++◌, length, length-append, append_assoc, refl, sym, ap, ◌∙◌, arith}
use Rattle.place_automaton.specs.Sides.{Sides, cat_sides, opt_sides, JoinAsSums, row_sides, row_ways, RowJoins, less_one}
use Rattle.place_automaton.specs.Places.{ways_between}

module _ (r k : ℕ) (P : Sides) (Ps : List Sides) (Q : Sides) where
  abbrev pub Rest : Sides
  Rest = row_sides (r - suc k) Ps Q

  none_left : r ≤ k → r - k ≡ 0
  none_left h = omega (arith, h)

  none_after : r ≤ k → r - suc k ≡ 0
  none_after h = omega (arith, h)

  more_left : k < r → r - k ≡ suc (r - suc k)
  more_left h = omega (arith, h)

  less_left : less_one (r - k) ≡ r - suc k
  less_left = go (r - k) refl
    where
      go : (n : ℕ) → r - k ≡ n → less_one n ≡ r - suc k
      go zero e = omega (arith, e)
      go (suc n) e = omega (arith, e)

  pub next_optional : r ≤ k → row_sides (r - k) (P ∷ Ps) Q ≡ opt_sides (cat_sides P Rest)
  next_optional h =
      ap (λ n. row_sides n (P ∷ Ps) Q) (none_left h) ∙ ap (λ n. opt_sides (cat_sides P (row_sides n Ps Q))) (sym (none_after h))

  pub next_required : k < r → row_sides (r - k) (P ∷ Ps) Q ≡ cat_sides P Rest
  next_required h = ap (λ n. row_sides n (P ∷ Ps) Q) (more_left h)

  pub next_ways : row_ways (r - k) (P ∷ Ps) Q ≡ row_ways (r - suc k) Ps Q ++ ways_between P.last Rest.first
  next_ways = ap (λ n. row_ways n Ps Q ++ ways_between P.last (row_sides n Ps Q).first) less_left

  pub next_joins : RowJoins (r - k) (P ∷ Ps) Q → JoinAsSums P Rest
  next_joins h = rw (← less_left) h.0

-- the parts that are left
pub row_joins_rest : (r : ℕ) (Ps Qs : List Sides) (Q : Sides) → RowJoins r (Ps ++ Qs) Q → RowJoins (r - length Ps) Qs Q
row_joins_rest r [] Qs Q h = rw (← (let e : r ≡ r - 0 = omega arith in e)) h
row_joins_rest zero (P ∷ Ps) Qs Q h =
    rw (← (let e : 0 - length Ps ≡ 0 - suc (length Ps) = omega arith in e)) (row_joins_rest zero Ps Qs Q h.1)
row_joins_rest (suc r) (P ∷ Ps) Qs Q h =
    rw (← (let e : r - length Ps ≡ suc r - suc (length Ps) = omega arith in e)) (row_joins_rest r Ps Qs Q h.1)

-- one part is taken from the end of those that wait
module _ (r : ℕ) (all now new done : List Sides) (P Q : Sides) (whole : all ≡ now ++ done) (taken : now ≡ new ++ P ∷ []) where
  pub taken_whole : all ≡ new ++ P ∷ done
  taken_whole = whole ∙ (ap (λ ps. ps ++ done) taken ∙ append_assoc new (P ∷ []) done)

  taken_length : length now ≡ suc (length new)
  taken_length = ap length taken ∙ (length-append new (P ∷ []) ∙ (let e : length new + 1 ≡ suc (length new) = omega arith in e))

  pub taken_rest : row_sides (r - length now) done Q ≡ row_sides (r - suc (length new)) done Q
  taken_rest = ap (λ n. row_sides (r - n) done Q) taken_length

  pub taken_ways : row_ways (r - length now) done Q ≡ row_ways (r - suc (length new)) done Q
  taken_ways = ap (λ n. row_ways (r - n) done Q) taken_length

  pub taken_joins : RowJoins r all Q → RowJoins (r - length new) (P ∷ done) Q
  taken_joins h = row_joins_rest r new (P ∷ done) Q (rw (← taken_whole) h)

pub next_row : (r k : ℕ) (P : Sides) (Ps : List Sides) (Q : Sides) (b : Bool) → b ≡ nat_le r k →
    (if b then opt_sides (cat_sides P (row_sides (r - suc k) Ps Q)) else cat_sides P (row_sides (r - suc k) Ps Q)) ≡ row_sides (r - k) (P ∷ Ps) Q
next_row r k P Ps Q true e = sym (next_optional r k P Ps Q (leb-true r k (sym e)))
next_row r k P Ps Q false e = sym (next_required r k P Ps Q (leb-false r k (sym e)))
