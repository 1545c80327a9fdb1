-- A repetition of once at most is its formula, or its formula or nothing.
use Rattle.std.proofs.Common.{◌≡◌, ℕ, zero, suc, ◌+◌, ◌≤◌, Bool, true, false, List, [], ◌∷◌, ◌++◌, length, map, Some, refl, sym, ap, ◌∙◌, arith, append-nil}
use Rattle.std.specs.Prelude.{◌==◌, ◌*◌, if◌then◌else◌}
use Rattle.std.specs.List.{flat_map}
use Rattle.std.proofs.lemmas.Bool.{ne_eqb}
use Rattle.marked_automaton.specs.declared.way.Stop.{Stop}
use Rattle.place_automaton.specs.Counts.{PlaceCounts, counts_cat, counts_nothing, counts_opt, counts_repeated}
use Rattle.place_automaton.specs.Places.{Places, Placed, sums, ways_between, entry_with, stop_with, cat_places, opt_places, nothing_placed, repeated}
use Rattle.place_automaton.proofs.JoinLists.{stops_same}

pub sums_zero : (ms : List ℕ) → sums ms (0 ∷ []) ≡ ms
sums_zero [] = refl
sums_zero (m ∷ ms) = ap (λ n. n ∷ sums ms (0 ∷ [])) (let e : m + 0 ≡ m = omega arith in e) ∙ ap (λ ns. m ∷ ns) (sums_zero ms)

no_entries : (ms : List ℕ) → flat_map (λ m. map (entry_with m) []) ms ≡ []
no_entries [] = refl
no_entries (m ∷ ms) = no_entries ms

no_ways : (last : List Stop) → ways_between last [] ≡ []
no_ways [] = refl
no_ways (s ∷ last) = no_ways last

cat_nothing : (P : Places) (j : ℕ) → cat_places P (nothing_placed j) ≡ P
cat_nothing P j = λ i. record {
  count = count i;
  null = sums_zero P.null i;
  first = (ap (λ es. P.first ++ es) (no_entries P.null) ∙ append-nil P.first) i;
  last = (append-nil (map (stop_with 0) P.last) ∙ sym (stops_same 0 P.last refl)) i;
  follow = (ap (λ ws. P.follow ++ ws) (no_ways P.last) ∙ append-nil P.follow) i;
}
  where
    count : P.count + 0 ≡ P.count
    count = omega arith

pub once_is : (n : ℕ) (F : Placed) (k : ℕ) → n ≤ 1 → repeated n (Some 1) F k ≡ (if n == 0 then opt_places (F k) else F k)
once_is zero F k le = ap opt_places (cat_nothing (F k) (k + (F k).count))
once_is (suc zero) F k le = cat_nothing (F k) (k + (F k).count) ∙ ap (λ (b : Bool). if b then opt_places (F k) else F k) (sym (ne_eqb 1 0 (λ e. omega (arith, e))))
once_is (suc (suc n)) F k le = absurd (omega (arith, le))

-- the same of the numbers
pub counts_nothing_behind : (a : PlaceCounts) → counts_cat a counts_nothing ≡ a
counts_nothing_behind a = λ i. record {
  places = places i;
  null = sums_zero a.null i;
  first = first (length a.null) i;
  last = last i;
  follow = follow i;
}
  where
    places : a.places + 0 ≡ a.places
    places = omega arith

    first : (n : ℕ) → a.first + n * 0 ≡ a.first
    first n = omega arith

    last : 0 + 1 * a.last ≡ a.last
    last = omega arith

    follow : a.follow + 0 + a.last * 0 ≡ a.follow
    follow = omega arith

pub counts_once : (n : ℕ) (a : PlaceCounts) → n ≤ 1 → counts_repeated n (Some 1) a ≡ (if n == 0 then counts_opt a else a)
counts_once zero a le = ap counts_opt (counts_nothing_behind a)
counts_once (suc zero) a le = counts_nothing_behind a ∙ ap (λ (b : Bool). if b then counts_opt a else a) (sym (ne_eqb 1 0 (λ e. omega (arith, e))))
counts_once (suc (suc n)) a le = absurd (omega (arith, le))

pub once_places : (n : ℕ) (a : PlaceCounts) → n ≤ 1 → (counts_repeated n (Some 1) a).places ≡ a.places
once_places n a le = ap (λ (c : PlaceCounts). c.places) (counts_once n a le) ∙ go (n == 0)
  where
    go : (b : Bool) → (if b then counts_opt a else a).places ≡ a.places
    go true = refl
    go false = refl
