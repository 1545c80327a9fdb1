-- How many places a formula has, wherever they are numbered from.
use Rattle.std.proofs.Common.{◌≡◌, ℕ, zero, suc, ◌+◌, ◌-◌, ◌*◌, ◌≤◌, List, [], ◌∷◌, ◌++◌, map, take, Option, Some, None, refl, sym, ap, ◌∙◌, arith}
use Rattle.std.specs.Prelude.{slice_get, max}
use Rattle.std.proofs.Math.Nat.{mul-le-mul_right}
use Rattle.spanner_model.specs.Captures.{VarName}
use Rattle.spanner_model.specs.Tree.{Tree, cat_all, alt_all}
use Rattle.place_automaton.specs.Counts.{PlaceCounts, counts, counts_copies, counts_at_most, counts_plus, counts_repeated}
use Rattle.place_automaton.specs.Drafts.{copies_of}
use Rattle.place_automaton.specs.Places.{Placed, placed}
use Rattle.place_automaton.proofs.CountLaws.{lengths}
use Rattle.place_automaton.proofs.Rows.{in_turn, total, copies}

-- it has so many
abbrev pub HasCount : Placed → ℕ → Type 0
HasCount F n = (k : ℕ) → (F k).count ≡ n

copies_places : (n : ℕ) (a b : PlaceCounts) → (counts_copies n a b).places ≡ n * a.places + b.places
copies_places zero a b = omega arith
copies_places (suc n) a b = omega (arith, copies_places n a b)

at_most_places : (n : ℕ) (a : PlaceCounts) → (counts_at_most n a).places ≡ n * a.places
at_most_places zero a = omega arith
at_most_places (suc n) a = omega (arith, at_most_places n a)

pub repeated_places : (n : ℕ) (most : Option ℕ) (a : PlaceCounts) → ((m : ℕ) → most ≡ Some m → n ≤ m) → (counts_repeated n most a).places ≡ copies_of n most * a.places
repeated_places zero None a h = omega arith
repeated_places (suc n) None a h =
    let e : max (suc n) 1 ≡ suc n = omega arith in
    copies_places n a (counts_plus a) ∙ ((let f : n * a.places + a.places ≡ suc n * a.places = omega arith in f) ∙ ap (λ m. m * a.places) (sym e))
repeated_places zero (Some most) a h = at_most_places (most - zero) a ∙ ap (λ m. m * a.places) (let e : most - 0 ≡ most = omega arith in e)
repeated_places (suc n) (Some most) a h =
    let le : suc n ≤ most = h most refl in
    let m = most - suc n in
    let e : suc n + m ≡ most = omega arith in
    let f : suc n * a.places + m * a.places ≡ (suc n + m) * a.places = omega arith in
    copies_places (suc n) a (counts_at_most m a) ∙ (ap (λ x. suc n * a.places + x) (at_most_places m a) ∙ (f ∙ ap (λ x. x * a.places) e))

module _ (opening closing : VarName → ℕ) where
  pub place_count : (f : Tree) → HasCount (placed opening closing f) (counts opening closing f).places
  place_count f k = (lengths opening closing f k).places

  -- the parts so far
  pub turn_total : (ts : List Tree) (k : ℕ) → total (in_turn (map (placed opening closing) ts) k) ≡ (counts opening closing (cat_all ts)).places
  turn_total [] k = refl
  turn_total (t ∷ ts) k = omega (arith, place_count t k, turn_total ts (k + (placed opening closing t k).count))

  -- the places of the parts so far and the next are no more than those of all
  pub parts_room : (ts : List Tree) (i : ℕ) (t : Tree) → slice_get ts i ≡ Some t →
      (counts opening closing (cat_all (take i ts))).places + (counts opening closing t).places ≤ (counts opening closing (cat_all ts)).places
  parts_room [] i t at = absurd (cc)
  parts_room (u ∷ ts) zero t at = let e : u ≡ t = cc in omega (arith, ap (λ (v : Tree). (counts opening closing v).places) e)
  parts_room (u ∷ ts) (suc i) t at = omega (arith, parts_room ts i t at)

  -- parts, and one more behind them
  pub parts_more : (ts : List Tree) (t : Tree) → (counts opening closing (cat_all (ts ++ t ∷ []))).places ≡ (counts opening closing (cat_all ts)).places + (counts opening closing t).places
  parts_more [] t = omega arith
  parts_more (u ∷ ts) t = omega (arith, parts_more ts t)

  pub arms_room : (ts : List Tree) → (counts opening closing (alt_all ts)).places ≡ (counts opening closing (cat_all ts)).places
  arms_room [] = refl
  arms_room (t ∷ ts) = omega (arith, arms_room ts)

pub copies_total : (F : Placed) (a : ℕ) → HasCount F a → (n k : ℕ) → total (copies F n k) ≡ n * a
copies_total F a f zero k = omega arith
copies_total F a f (suc n) k = omega (arith, f k, copies_total F a f n (k + (F k).count))

-- so many copies and one more are no more than all
pub copies_room : (i n a : ℕ) → i + 1 ≤ n → i * a + a ≤ n * a
copies_room i n a h = omega (arith, mul-le-mul_right a h)
