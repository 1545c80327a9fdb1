-- Parts whose places are numbered one after another.
use Rattle.std.proofs.Common.{◌≡◌, ℕ, zero, suc, ◌+◌, ◌≤◌, List, [], ◌∷◌, ◌++◌, length, map, refl, sym, ap, ◌∙◌, arith, append_assoc, append-nil}
use Rattle.std.specs.Prelude.{replicate}
use Rattle.spanner_model.specs.Captures.{VarName}
use Rattle.spanner_model.specs.Tree.{Tree, cat_all}
use Rattle.marked_automaton.specs.declared.way.Way.{Way}
use Rattle.place_automaton.specs.Sides.{Sides, sides_of, cat_sides, opt_sides, row_sides, row_ways}
use Rattle.place_automaton.specs.Places.{Places, Placed, ways_between, nothing_placed, cat_places, opt_places, copies_then, at_most, placed}

abbrev pub in_turn : List Placed → ℕ → List Places
in_turn [] k = []
in_turn (F ∷ Fs) k = F k ∷ in_turn Fs (k + (F k).count)

-- how many places
abbrev pub total : List Places → ℕ
total [] = 0
total (P ∷ Ps) = P.count + total Ps

-- the ways inside of each
abbrev pub follows : List Places → List Way
follows [] = []
follows (P ∷ Ps) = P.follow ++ follows Ps

-- the parts joined, of which so many are required and the others may stand only where all before them do
abbrev pub row_places : ℕ → List Places → Places → Places
row_places r [] Q = Q
row_places zero (P ∷ Ps) Q = opt_places (cat_places P (row_places zero Ps Q))
row_places (suc r) (P ∷ Ps) Q = cat_places P (row_places r Ps Q)

pub row_is : (r : ℕ) (Ps : List Places) (Q : Places) → sides_of (row_places r Ps Q) ≡ row_sides r (map sides_of Ps) (sides_of Q)
row_is r [] Q = refl
row_is zero (P ∷ Ps) Q = ap (λ (E : Sides). opt_sides (cat_sides (sides_of P) E)) (row_is zero Ps Q)
row_is (suc r) (P ∷ Ps) Q = ap (λ (E : Sides). cat_sides (sides_of P) E) (row_is r Ps Q)

pub row_count : (r : ℕ) (Ps : List Places) (Q : Places) → (row_places r Ps Q).count ≡ total Ps + Q.count
row_count r [] Q = omega arith
row_count zero (P ∷ Ps) Q = omega (arith, row_count zero Ps Q)
row_count (suc r) (P ∷ Ps) Q = omega (arith, row_count r Ps Q)

five : {X : Type 0} (a b c d e : List X) → a ++ ((b ++ (c ++ d)) ++ e) ≡ (a ++ b) ++ (c ++ (d ++ e))
five a b c d e =
    ap (λ x. a ++ x) (append_assoc b (c ++ d) e ∙ ap (λ x. b ++ x) (append_assoc c d e)) ∙ sym (append_assoc a b (c ++ (d ++ e)))

follow_step : (P : Places) (r : ℕ) (Ps : List Places) (Q R : Places) → sides_of R ≡ row_sides r (map sides_of Ps) (sides_of Q) →
    R.follow ≡ follows Ps ++ (Q.follow ++ row_ways r (map sides_of Ps) (sides_of Q)) →
    (cat_places P R).follow
    ≡ (P.follow ++ follows Ps) ++ (Q.follow ++ (row_ways r (map sides_of Ps) (sides_of Q) ++ ways_between P.last (row_sides r (map sides_of Ps) (sides_of Q)).first))
follow_step P r Ps Q R ends follow =
    let rw = row_ways r (map sides_of Ps) (sides_of Q) in
    ap (λ F. P.follow ++ (F ++ ways_between P.last R.first)) follow
    ∙ (ap (λ (E : Sides). P.follow ++ ((follows Ps ++ (Q.follow ++ rw)) ++ ways_between P.last E.first)) ends
    ∙ five P.follow (follows Ps) Q.follow rw (ways_between P.last (row_sides r (map sides_of Ps) (sides_of Q)).first))

pub row_follow : (r : ℕ) (Ps : List Places) (Q : Places) →
    (row_places r Ps Q).follow ≡ follows Ps ++ (Q.follow ++ row_ways r (map sides_of Ps) (sides_of Q))
row_follow r [] Q = sym (append-nil Q.follow)
row_follow zero (P ∷ Ps) Q = follow_step P zero Ps Q (row_places zero Ps Q) (row_is zero Ps Q) (row_follow zero Ps Q)
row_follow (suc r) (P ∷ Ps) Q = follow_step P r Ps Q (row_places r Ps Q) (row_is r Ps Q) (row_follow r Ps Q)

-- one more part
pub in_turn_more : (Fs : List Placed) (F : Placed) (k : ℕ) → in_turn (Fs ++ F ∷ []) k ≡ in_turn Fs k ++ F (k + total (in_turn Fs k)) ∷ []
in_turn_more [] F k = ap (λ n. F n ∷ []) (let e : k ≡ k + 0 = omega arith in e)
in_turn_more (G ∷ Fs) F k =
    let rest = in_turn Fs (k + (G k).count) in
    ap (λ Ps. G k ∷ Ps) (in_turn_more Fs F (k + (G k).count) ∙ ap (λ n. rest ++ F n ∷ []) (let e : k + (G k).count + total rest ≡ k + ((G k).count + total rest) = omega arith in e))

pub total_more : (Ps : List Places) (P : Places) → total (Ps ++ P ∷ []) ≡ total Ps + P.count
total_more [] P = omega arith
total_more (Q ∷ Ps) P = omega (arith, total_more Ps P)

pub follows_more : (Ps : List Places) (P : Places) → follows (Ps ++ P ∷ []) ≡ follows Ps ++ P.follow
follows_more [] P = append-nil P.follow
follows_more (Q ∷ Ps) P = ap (λ F. Q.follow ++ F) (follows_more Ps P) ∙ sym (append_assoc Q.follow (follows Ps) P.follow)

-- a concatenation
module _ (opening closing : VarName → ℕ) where
  pub parts_row : (ts : List Tree) (k : ℕ) →
      placed opening closing (cat_all ts) k ≡ row_places (length ts) (in_turn (map (placed opening closing) ts) k) (nothing_placed 0)
  parts_row [] k = refl
  parts_row (t ∷ ts) k = ap (cat_places (placed opening closing t k)) (parts_row ts (k + (placed opening closing t k).count))

-- copies
module _ (F : Placed) where
  abbrev pub copies : ℕ → ℕ → List Places
  copies n k = in_turn (replicate n F) k

  pub copies_more : (n k : ℕ) → copies (n + 1) k ≡ copies n k ++ F (k + total (copies n k)) ∷ []
  copies_more n k = ap (λ m. copies m k) (let e : n + 1 ≡ suc n = omega arith in e) ∙ go n k
    where
      go : (n k : ℕ) → copies (suc n) k ≡ copies n k ++ F (k + total (copies n k)) ∷ []
      go zero k = ap (λ m. F m ∷ []) (let e : k ≡ k + 0 = omega arith in e)
      go (suc n) k =
          let rest = copies n (k + (F k).count) in
          ap (λ Ps. F k ∷ Ps) (go n (k + (F k).count) ∙ ap (λ m. rest ++ F m ∷ []) (let e : k + (F k).count + total rest ≡ k + ((F k).count + total rest) = omega arith in e))

  at_most_row : (m k : ℕ) → at_most m F k ≡ row_places 0 (copies m k) (nothing_placed 0)
  at_most_row zero k = refl
  at_most_row (suc m) k = ap (λ R. opt_places (cat_places (F k) R)) (at_most_row m (k + (F k).count))

  pub bounded_row : (n m j k : ℕ) → j ≡ n + m → copies_then n F (at_most m F) k ≡ row_places n (copies j k) (nothing_placed 0)
  bounded_row zero m j k e = at_most_row m k ∙ ap (λ i. row_places 0 (copies i k) (nothing_placed 0)) (let f : m ≡ j = omega (arith, e) in f)
  bounded_row (suc n) m zero k e = absurd (omega (arith, e))
  bounded_row (suc n) m (suc j) k e = ap (cat_places (F k)) (bounded_row n m j (k + (F k).count) (let f : j ≡ n + m = omega (arith, e) in f))

  pub unbounded_row : (n r : ℕ) (G : Placed) (k : ℕ) → n ≤ r → copies_then n F G k ≡ row_places r (copies n k) (G (k + total (copies n k)))
  unbounded_row zero r G k h = ap G (let e : k ≡ k + 0 = omega arith in e)
  unbounded_row (suc n) zero G k h = absurd (omega (arith, h))
  unbounded_row (suc n) (suc r) G k h =
      let rest = copies n (k + (F k).count) in
      ap (cat_places (F k)) (unbounded_row n r G (k + (F k).count) (omega (arith, h)))
      ∙ ap (λ m. cat_places (F k) (row_places r rest (G m))) (let e : k + (F k).count + total rest ≡ k + ((F k).count + total rest) = omega arith in e)
