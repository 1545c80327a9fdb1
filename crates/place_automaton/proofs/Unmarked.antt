-- Parts without markers.
use Rattle.std.proofs.Common.{◌≡◌, ℕ, zero, suc, ◌+◌, Bool, true, false, List, [], ◌∷◌, map, inl, inr, refl, sym, ap, ◌∙◌, subst, arith}
use Rattle.std.specs.Prelude.{bit_or, ◌==◌, if◌then◌else◌}
use Rattle.std.specs.List.{flat_map}
use Rattle.std.specs.Int.Bits.{or_zero_l}
use Rattle.span_core.specs.Lists.{Has}
use Rattle.marked_automaton.specs.declared.way.Stop.{Stop}
use Rattle.place_automaton.specs.declared.fragment.Entry.{Entry}
use Rattle.place_automaton.specs.Sides.{Sides, sides_of, JoinAsSums, IsUnmarked, cat_sides, opt_sides, row_sides, RowJoins, again_sides, nothing_sides}
use Rattle.place_automaton.specs.Places.{Placed, entry_with, stop_with}
use Rattle.span_core.proofs.HasLaws.{Has-append_cases}
use Rattle.place_automaton.proofs.Ranges.{entries_of, stops_of}
use Rattle.place_automaton.proofs.Rows.{copies}
use Rattle.place_automaton.proofs.Shows.{sums_cases, once_cases}

pub unmarked_joins : (P Q : Sides) → IsUnmarked P → IsUnmarked Q → JoinAsSums P Q
unmarked_joins P Q p q m n hm hn =
    let e : m ≡ 0 = p m hm in
    let f : n ≡ 0 = q n hn in
    ap (λ (x : ℕ). bit_or x n) e ∙ (or_zero_l n ∙ (let g : n ≡ m + n = omega (arith, e) in g))

cat_unmarked : (P Q : Sides) → IsUnmarked P → IsUnmarked Q → IsUnmarked (cat_sides P Q)
cat_unmarked P Q p q m (inl h) = let r = sums_cases P.null Q.null m h in omega (arith, r.4, p r.0 (inl r.2), q r.1 (inl r.3))
cat_unmarked P Q p q m (inr (inl h)) =
    elim (Has-append_cases P.first (flat_map (λ m. map (entry_with m) Q.first) P.null) h.0 h.1) [
      | inl a ↦ p m (inr (inl (h.0, a, h.2)))
      | inr b ↦ let r = entries_of P.null Q.first h.0 b in
          omega (arith, h.2, ap (λ (e : Entry). e.marks) r.4, p r.0 (inl r.2), q r.1.marks (inr (inl (r.1, r.3, refl))))
    ]
cat_unmarked P Q p q m (inr (inr h)) =
    elim (Has-append_cases Q.last (flat_map (λ m. map (stop_with m) P.last) Q.null) h.0 h.1) [
      | inl a ↦ q m (inr (inr (h.0, a, h.2)))
      | inr b ↦ let r = stops_of Q.null P.last h.0 b in
          omega (arith, h.2, ap (λ (s : Stop). s.marks) r.4, q r.0 (inl r.2), p r.1.marks (inr (inr (r.1, r.3, refl))))
    ]

pub opt_unmarked : (P : Sides) → IsUnmarked P → IsUnmarked (opt_sides P)
opt_unmarked P p m (inl h) = elim (once_cases 0 P.null m h) [ inl e ↦ sym e | inr a ↦ p m (inl a) ]
opt_unmarked P p m (inr h) = p m (inr h)

pub again_unmarked : (r : ℕ) (P : Sides) → IsUnmarked P → IsUnmarked (again_sides r P)
again_unmarked r P p = go (r == 0)
  where
    go : (b : Bool) → IsUnmarked (if b then opt_sides P else P)
    go true = opt_unmarked P p
    go false = p

pub nothing_unmarked : IsUnmarked nothing_sides
nothing_unmarked m (inl h) = elim h [ inl e ↦ sym e | inr b ↦ absurd b ]
nothing_unmarked m (inr (inl h)) = absurd h.1
nothing_unmarked m (inr (inr h)) = absurd h.1

abbrev pub AllUnmarked : List Sides → Type 0
AllUnmarked Ps = (P : Sides) → Has Ps P → IsUnmarked P

row_unmarked : (r : ℕ) (Ps : List Sides) (Q : Sides) → AllUnmarked Ps → IsUnmarked Q → IsUnmarked (row_sides r Ps Q)
row_unmarked r [] Q ps q = q
row_unmarked zero (P ∷ Ps) Q ps q =
    opt_unmarked (cat_sides P (row_sides zero Ps Q)) (cat_unmarked P (row_sides zero Ps Q) (ps P (inl refl)) (row_unmarked zero Ps Q (λ P h. ps P (inr h)) q))
row_unmarked (suc r) (P ∷ Ps) Q ps q = cat_unmarked P (row_sides r Ps Q) (ps P (inl refl)) (row_unmarked r Ps Q (λ P h. ps P (inr h)) q)

pub row_joins : (r : ℕ) (Ps : List Sides) (Q : Sides) → AllUnmarked Ps → IsUnmarked Q → RowJoins r Ps Q
row_joins r [] Q ps q = tt
row_joins zero (P ∷ Ps) Q ps q =
    let p = ps P (inl refl) in
    let rest = row_unmarked zero Ps Q (λ P h. ps P (inr h)) q in
    (unmarked_joins P (row_sides zero Ps Q) p rest, row_joins zero Ps Q (λ P h. ps P (inr h)) q)
row_joins (suc r) (P ∷ Ps) Q ps q =
    let p = ps P (inl refl) in
    let rest = row_unmarked r Ps Q (λ P h. ps P (inr h)) q in
    (unmarked_joins P (row_sides r Ps Q) p rest, row_joins r Ps Q (λ P h. ps P (inr h)) q)

pub copies_unmarked : (F : Placed) → ((k : ℕ) → IsUnmarked (sides_of (F k))) → (n k : ℕ) → AllUnmarked (map sides_of (copies F n k))
copies_unmarked F f zero k P h = absurd h
copies_unmarked F f (suc n) k P (inl e) = subst IsUnmarked e (f k)
copies_unmarked F f (suc n) k P (inr h) = copies_unmarked F f n (k + (F k).count) P h
