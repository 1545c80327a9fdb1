-- The numbers of a formula are the lengths of the lists of its places.
use Rattle.std.proofs.Common.{◌≡◌, ℕ, zero, suc, ◌+◌, ◌*◌, ◌-◌, ◌≤◌, Bool, true, false, List, [], ◌∷◌, ◌++◌, Option, Some, None, length, refl, sym, ap, arith, ◌∙◌}
use Rattle.std.specs.Prelude.{map, if◌then◌else◌}
use Rattle.std.specs.List.{flat_map}
use Rattle.std.proofs.lemmas.List.{length-map}
use Rattle.spanner_model.specs.Captures.{VarName}
use Rattle.spanner_model.specs.Tree.{Tree, empty, one, cat_end, cat, alt_end, alt, rep, cap}
use Rattle.spanner_model.specs.Expression.{AtomTree}
use Rattle.marked_automaton.specs.declared.TheConstants.{MOST_WAYS}
use Rattle.marked_automaton.specs.Automaton.{idle_way}
use Rattle.place_automaton.specs.Atom.{way_from_first, way_after, stop_before, unless, place_stops, after_ways, automaton_of_places}
use Rattle.place_automaton.specs.CountLaw.{CountLaw}
use Rattle.place_automaton.specs.Counts.{PlaceCounts, counts_cat, counts_opt, counts_plus, counts_copies, counts_at_most, counts_repeated, counts, counts_over, count_ways, has_large_null, ways_of}
use Rattle.place_automaton.specs.Places.{Places, Placed, add_once, either_once, sums, ways_between, way_into, entry_with, stop_with, cat_places, plus_places, cat_placed, opt_placed, plus_placed, copies_then, at_most, repeated, placed}
use Rattle.place_automaton.specs.Refusals.{count_ends}
use Rattle.place_automaton.specs.Variables.{with_vars}
use Rattle.place_automaton.specs.Words.{opening_of, closing_of, atom_automaton}

pub length_append : {X : Type 0} (xs ys : List X) → length (xs ++ ys) ≡ length xs + length ys
length_append [] ys = omega arith
length_append (x ∷ xs) ys = omega (arith, length_append xs ys)

pub length_product : {X Y Z : Type 0} (h : X → Y → Z) (xs : List X) (ys : List Y) → length (flat_map (λ x. map (h x) ys) xs) ≡ length xs * length ys
length_product h [] ys = omega arith
length_product h (x ∷ xs) ys =
    omega (arith, length_append (map (h x) ys) (flat_map (λ x. map (h x) ys) xs), length-map ys (h x), length_product h xs ys)

pub mul_same : (a b c d : ℕ) → a ≡ b → c ≡ d → a * c ≡ b * d
mul_same a b c d e f = ap (λ x. x * c) e ∙ ap (λ y. b * y) f

pub record AreLengths (P : Places) (c : PlaceCounts) : Type 0 where
  pub places : P.count ≡ c.places
  pub null : P.null ≡ c.null
  pub first : length P.first ≡ c.first
  pub last : length P.last ≡ c.last
  pub follow : length P.follow ≡ c.follow

lengths_cat : (P Q : Places) (a b : PlaceCounts) → AreLengths P a → AreLengths Q b → AreLengths (cat_places P Q) (counts_cat a b)
lengths_cat P Q a b p q = record {
  places = omega (arith, p.places, q.places);
  null = ap (λ ms. sums ms Q.null) p.null ∙ ap (λ ns. sums a.null ns) q.null;
  first = omega (
    arith,
    length_append P.first (flat_map (λ m. map (entry_with m) Q.first) P.null),
    length_product entry_with P.null Q.first,
    mul_same (length P.null) (length a.null) (length Q.first) b.first (ap (λ (ms : List ℕ). length ms) p.null) q.first,
    p.first,
  );
  last = omega (
    arith,
    length_append Q.last (flat_map (λ m. map (stop_with m) P.last) Q.null),
    length_product stop_with Q.null P.last,
    mul_same (length Q.null) (length b.null) (length P.last) a.last (ap (λ (ms : List ℕ). length ms) q.null) p.last,
    q.last,
  );
  follow = omega (
    arith,
    length_append P.follow (Q.follow ++ ways_between P.last Q.first),
    length_append Q.follow (ways_between P.last Q.first),
    length_product way_into P.last Q.first,
    mul_same (length P.last) a.last (length Q.first) b.first p.last q.first,
    p.follow,
    q.follow,
  );
}

lengths_plus : (P : Places) (a : PlaceCounts) → AreLengths P a → AreLengths (plus_places P) (counts_plus a)
lengths_plus P a p = record {
  places = p.places;
  null = p.null;
  first = p.first;
  last = p.last;
  follow = omega (
    arith,
    length_append P.follow (ways_between P.last P.first),
    length_product way_into P.last P.first,
    mul_same (length P.last) a.last (length P.first) a.first p.last p.first,
    p.follow,
  );
}

abbrev Lengths : Placed → PlaceCounts → Type 0
Lengths F c = (k : ℕ) → AreLengths (F k) c

lengths_opt : (F : Placed) (a : PlaceCounts) → Lengths F a → Lengths (opt_placed F) (counts_opt a)
lengths_opt F a f k = let r = f k in record { places = r.places; null = ap (λ ms. add_once 0 ms) r.null; first = r.first; last = r.last; follow = r.follow }

lengths_copies : (n : ℕ) (F G : Placed) (a b : PlaceCounts) → Lengths F a → Lengths G b → Lengths (copies_then n F G) (counts_copies n a b)
lengths_copies zero F G a b f g = g
lengths_copies (suc n) F G a b f g = λ k.
    let k' = k + (F k).count in lengths_cat (F k) (copies_then n F G k') a (counts_copies n a b) (f k) (lengths_copies n F G a b f g k')

lengths_at_most : (n : ℕ) (F : Placed) (a : PlaceCounts) → Lengths F a → Lengths (at_most n F) (counts_at_most n a)
lengths_at_most zero F a f = λ k. record { places = refl; null = refl; first = refl; last = refl; follow = refl }
lengths_at_most (suc n) F a f =
    lengths_opt (cat_placed F (at_most n F)) (counts_cat a (counts_at_most n a)) (λ k.
    let k' = k + (F k).count in lengths_cat (F k) (at_most n F k') a (counts_at_most n a) (f k) (lengths_at_most n F a f k'))

lengths_repeated : (n : ℕ) (most : Option ℕ) (F : Placed) (a : PlaceCounts) → Lengths F a → Lengths (repeated n most F) (counts_repeated n most a)
lengths_repeated zero None F a f = lengths_opt (plus_placed F) (counts_plus a) (λ k. lengths_plus (F k) a (f k))
lengths_repeated (suc n) None F a f = lengths_copies n F (plus_placed F) a (counts_plus a) f (λ k. lengths_plus (F k) a (f k))
lengths_repeated zero (Some most) F a f = lengths_at_most (most - zero) F a f
lengths_repeated (suc n) (Some most) F a f =
    lengths_copies (suc n) F (at_most (most - suc n) F) a (counts_at_most (most - suc n) a) f (lengths_at_most (most - suc n) F a f)

module _ (opening closing : VarName → ℕ) where
  pub lengths : (f : Tree) → Lengths (placed opening closing f) (counts opening closing f)
  lengths empty k = record { places = refl; null = refl; first = refl; last = refl; follow = refl }
  lengths (one set) k = record { places = refl; null = refl; first = refl; last = refl; follow = refl }
  lengths cat_end k = record { places = refl; null = refl; first = refl; last = refl; follow = refl }
  lengths (cat f rest) k =
      let P = placed opening closing f k in
      let k' = k + P.count in
      lengths_cat P (placed opening closing rest k') (counts opening closing f) (counts opening closing rest) (lengths f k) (lengths rest k')
  lengths alt_end k = record { places = refl; null = refl; first = refl; last = refl; follow = refl }
  lengths (alt f rest) k =
      let P = placed opening closing f k in
      let k' = k + P.count in
      let Q = placed opening closing rest k' in
      let p = lengths f k in
      let q = lengths rest k' in
      record {
        places = omega (arith, p.places, q.places);
        null = ap (λ ms. either_once ms Q.null) p.null ∙ ap (λ ns. either_once (counts opening closing f).null ns) q.null;
        first = omega (arith, length_append P.first Q.first, p.first, q.first);
        last = omega (arith, length_append P.last Q.last, p.last, q.last);
        follow = omega (arith, length_append P.follow Q.follow, p.follow, q.follow);
      }
  lengths (rep f least most) k = lengths_repeated least most (placed opening closing f) (counts opening closing f) (lengths f) k
  lengths (cap x f) k =
      let P = placed opening closing f k in
      let p = lengths f k in
      record {
        places = p.places;
        null = ap (λ ms. map (◌+◌ (opening x + closing x)) ms) p.null;
        first = length-map P.first (entry_with (opening x)) ∙ p.first;
        last = length-map P.last (stop_with (closing x)) ∙ p.last;
        follow = p.follow;
      }

pub ways_lengths : (s t : Bool) (F : Places) (c : PlaceCounts) → AreLengths F c →
    length (automaton_of_places s t F).ways ≡ ways_of s t c
ways_lengths s t F c r =
    let outs = unless t (after_ways (suc F.count) F) in
    omega (
      arith,
      length_append F.follow (map way_from_first F.first ++ (unless s (idle_way 0 ∷ []) ++ outs)),
      length_append (map way_from_first F.first) (unless s (idle_way 0 ∷ []) ++ outs),
      length_append (unless s (idle_way 0 ∷ [])) outs,
      length-map F.first way_from_first,
      idles s,
      afters t,
      r.first,
      r.follow,
    )
  where
    idles : (s : Bool) → length (unless s (idle_way 0 ∷ [])) ≡ (if s then 0 else 1)
    idles true = refl
    idles false = refl

    afters : (t : Bool) → length (unless t (after_ways (suc F.count) F)) ≡ (if t then 0 else c.last + 1 + length c.null)
    afters true = refl
    afters false =
        omega (
          arith,
          length-map (place_stops F) (way_after (suc F.count)),
          length_append F.last (map stop_before F.null),
          length-map F.null stop_before,
          r.last,
          ap (λ (ms : List ℕ). length ms) r.null,
        )

pub all_ways : (a : AtomTree) → length (atom_automaton (with_vars [] a.formula) a).ways ≡ ways_of a.from_start a.to_end (counts_over (with_vars [] a.formula) a.formula)
all_ways a =
    let f = a.formula in
    let names = with_vars [] f in
    ways_lengths a.from_start a.to_end (placed (opening_of names) (closing_of names) f 1) (counts_over names f) (lengths (opening_of names) (closing_of names) f 1)

-- the number of ways, where no null is large and where one is
pub small_ways : (a : AtomTree) → has_large_null a.formula ≡ false → ways_of a.from_start a.to_end (counts_over (with_vars [] a.formula) a.formula) ≡ count_ways a
small_ways a e = ap (λ (b : Bool). if b then MOST_WAYS + 1 else ways_of a.from_start a.to_end (counts_over (with_vars [] a.formula) a.formula)) (sym e)

-- the ends: those of the last places and of Before, and one of After
pub all_ends : (a : AtomTree) →
    (counts_over (with_vars [] a.formula) a.formula).last + length (counts_over (with_vars [] a.formula) a.formula).null ≤ count_ends a
all_ends a =
    let f = a.formula in
    let names = with_vars [] f in
    let F = placed (opening_of names) (closing_of names) f 1 in
    let r = lengths (opening_of names) (closing_of names) f 1 in
    omega (
      arith,
      length_append (place_stops F) (unless a.to_end (record { state = suc F.count; marks = 0 } ∷ [])),
      length_append F.last (map stop_before F.null),
      length-map F.null stop_before,
      r.last,
      ap (λ (ms : List ℕ). length ms) r.null,
    )

pub count_law : CountLaw
count_law a =
    let names = with_vars [] a.formula in
    let r = lengths (opening_of names) (closing_of names) a.formula 1 in
    (ap (λ n. 1 + n + (if a.to_end then 0 else 1)) r.places, λ e. all_ways a ∙ small_ways a e)
