-- Where what some pairs make stands in the list of all that is made.
use Rattle.std.proofs.Common.{◌≡◌, ℕ, zero, suc, Bool, true, false, List, [], ◌∷◌, Option, Some, None, length, refl, sym, ap, subst, ◌∙◌}
use Rattle.std.specs.Prelude.{slice_get, if◌then◌else◌, cond}
use Rattle.std.specs.Option.{option_map}
use Rattle.std.specs.List.{filter, filter_map, cons_option}
use Rattle.std.specs.List.Sorted.{IsPermutation}
use Rattle.span_core.specs.Lists.{Has, AreDistinct}
use Rattle.span_core.proofs.HasLaws.{Has-slice_get}
use Rattle.marked_automaton.specs.Reduct.{bind_option}
use Rattle.marked_automaton.proofs.Listed.{some_same}
use Rattle.marked_automaton.proofs.Filtered.{kept_place, kept_origin, kept_known, kept_told, kept_from}
use Rattle.marked_automaton.proofs.Permuted.{IsPlaced, permutation_placed}
use Rattle.algebra.specs.declared.pairs.Pair.{Pair}
use Rattle.algebra.specs.Pairs.{Matched}
use Rattle.algebra.proofs.Gathered.{is_pair, is_pair_same, same_is_pair, one_of, one_of_has, has_one_of}

-- the place of a pair
abbrev pub place_in : List Pair → Pair → Option ℕ
place_in [] k = None
place_in (x ∷ keys) k = if is_pair x k then Some 0 else option_map suc (place_in keys k)

pub place_is : (keys : List Pair) (k : Pair) (a : ℕ) → place_in keys k ≡ Some a → slice_get keys a ≡ Some k
place_is [] k a e = absurd (cc)
place_is (x ∷ keys) k a e = go (is_pair x k) refl a (place_is keys k) e
  where
    later : (o : Option ℕ) (a : ℕ) → place_in keys k ≡ o → ((a : ℕ) → place_in keys k ≡ Some a → slice_get keys a ≡ Some k) → option_map suc o ≡ Some a → slice_get (x ∷ keys) a ≡ Some k
    later None a f rest e = absurd (cc)
    later (Some g) a f rest e = rw (← some_same (suc g) a e) (rest g f)

    go : (c : Bool) → is_pair x k ≡ c → (a : ℕ) → ((a : ℕ) → place_in keys k ≡ Some a → slice_get keys a ≡ Some k) →
        (if c then Some 0 else option_map suc (place_in keys k)) ≡ Some a → slice_get (x ∷ keys) a ≡ Some k
    go true at a rest e = rw (← some_same 0 a e) (ap Some (is_pair_same x k at))
    go false at a rest e = later (place_in keys k) a refl rest e

pub place_there : (keys : List Pair) (k : Pair) (a : ℕ) → AreDistinct keys → slice_get keys a ≡ Some k → place_in keys k ≡ Some a
place_there [] k a d e = absurd (cc)
place_there (x ∷ keys) k zero d e = ap (λ c. if c then Some 0 else option_map suc (place_in keys k)) (same_is_pair x k (some_same x k e))
place_there (x ∷ keys) k (suc a) d e = go (is_pair x k) refl (place_there keys k a d.1 e)
  where
    go : (c : Bool) → is_pair x k ≡ c → place_in keys k ≡ Some a → place_in (x ∷ keys) k ≡ Some (suc a)
    go true at rest = absurd (d.0 (subst (Has keys) (sym (is_pair_same x k at)) (Has-slice_get keys a k e)))
    go false at rest = ap (λ c. if c then Some 0 else option_map suc (place_in keys k)) at ∙ ap (option_map suc) rest

-- lists that match, by their places
module _ {X Y : Type 0} (P : X → Y → Type 0) where
  pub match_of : (xs : List X) (ys : List Y) (k : ℕ) (x : X) → Matched P xs ys → slice_get xs k ≡ Some x → (y : Y) × (slice_get ys k ≡ Some y) × P x y
  match_of [] ys k x m e = absurd (cc)
  match_of (z ∷ xs) [] k x m e = absurd m
  match_of (z ∷ xs) (y ∷ ys) zero x m e = (y, refl, rw (← some_same z x e) m.0)
  match_of (z ∷ xs) (y ∷ ys) (suc k) x m e = match_of xs ys k x m.1 e

  pub match_from : (xs : List X) (ys : List Y) (k : ℕ) (y : Y) → Matched P xs ys → slice_get ys k ≡ Some y → (x : X) × (slice_get xs k ≡ Some x) × P x y
  match_from [] [] k y m e = absurd (cc)
  match_from [] (z ∷ ys) k y m e = absurd m
  match_from (x ∷ xs) [] k y m e = absurd m
  match_from (x ∷ xs) (z ∷ ys) zero y m e = (x, refl, subst (P x) (some_same z y e) m.0)
  match_from (x ∷ xs) (z ∷ ys) (suc k) y m e = match_from xs ys k y m.1 e

  pub match_len : (xs : List X) (ys : List Y) → Matched P xs ys → length xs ≡ length ys
  match_len [] [] m = refl
  match_len [] (y ∷ ys) m = absurd m
  match_len (x ∷ xs) [] m = absurd m
  match_len (x ∷ xs) (y ∷ ys) m = ap suc (match_len xs ys m.1)

abbrev pub keep_if : {X : Type 0} → (X → Bool) → X → Option X
keep_if t x = if t x then Some x else None

pub filter_is : {X : Type 0} (t : X → Bool) (xs : List X) → filter_map (keep_if t) xs ≡ filter t xs
filter_is t [] = refl
filter_is t (x ∷ xs) = go (t x) refl (filter_is t xs)
  where
    go : (b : Bool) → t x ≡ b → filter_map (keep_if t) xs ≡ filter t xs → filter_map (keep_if t) (x ∷ xs) ≡ filter t (x ∷ xs)
    go true e rest =
        ap (λ b. cons_option (if b then Some x else None) (filter_map (keep_if t) xs)) e
        ∙ (ap (λ zs. x ∷ zs) rest ∙ sym (ap (λ b. cond b (x ∷ filter t xs) (filter t xs)) e))
    go false e rest =
        ap (λ b. cons_option (if b then Some x else None) (filter_map (keep_if t) xs)) e
        ∙ (rest ∙ sym (ap (λ b. cond b (x ∷ filter t xs) (filter t xs)) e))

-- those of `all` at some of the pairs, in another order
module _ {R : Type 0} (at : R → Pair) (keys : List Pair) (all made : List R) (perm : IsPermutation (filter (λ r. one_of keys (at r)) all) made) where
  abbrev test : R → Bool
  test r = one_of keys (at r)

  abbrev keep : R → Option R
  keep = keep_if test

  abbrev some : List R
  some = filter_map keep all

  placing : (g : ℕ → ℕ) × IsPlaced some made g
  placing = permutation_placed some made (rw (filter_is test all) perm)

  kept_is : (r : R) → Has keys (at r) → keep r ≡ Some r
  kept_is r h = ap (λ b. if b then Some r else None) (has_one_of keys (at r) h)

  kept_has : (r s : R) → keep r ≡ Some s → Has keys (at r) × (r ≡ s)
  kept_has r s e = go (test r) refl e
    where
      go : (b : Bool) → test r ≡ b → (if b then Some r else None) ≡ Some s → Has keys (at r) × (r ≡ s)
      go true h e = (one_of_has keys (at r) h, some_same r s e)
      go false h e = absurd (cc)

  -- where the k-th of all stands
  pub place : ℕ → Option ℕ
  place k = bind_option (kept_place keep all k) (λ j. Some (placing.0 j))

  -- where the j-th of these stood in all
  in_some : (j : ℕ) (o : Option R) → slice_get made j ≡ o → ℕ
  in_some j None e = 0
  in_some j (Some r) e = (placing.1.back j r e).0

  pub origin : ℕ → ℕ
  origin j = kept_origin keep all (in_some j (slice_get made j) refl)

  pub known : (k : ℕ) (r : R) → slice_get all k ≡ Some r → Has keys (at r) → (j : ℕ) × (place k ≡ Some j) × (slice_get made j ≡ Some r)
  unfolding place
  known k r e h =
      let x = kept_known keep all k r r e (kept_is r h) in
      (placing.0 x.0, ap (λ o. bind_option o (λ j. Some (placing.0 j))) x.1, placing.1.there x.0 r x.2)

  pub told : (k j : ℕ) (r : R) → slice_get all k ≡ Some r → place k ≡ Some j → Has keys (at r) × (slice_get made j ≡ Some r)
  unfolding place
  told k j r e h = go (kept_place keep all k) refl h
    where
      go : (o : Option ℕ) → kept_place keep all k ≡ o → bind_option o (λ j. Some (placing.0 j)) ≡ Some j → Has keys (at r) × (slice_get made j ≡ Some r)
      go None f h = absurd (cc)
      go (Some i) f h =
          let x = kept_told keep all k r i e f in
          let s = kept_has r x.0 x.1 in
          (s.0, rw (← some_same (placing.0 i) j h) (placing.1.there i r (x.2 ∙ ap Some (sym s.1))))

  in_some_is : (j : ℕ) (o : Option R) (e : slice_get made j ≡ o) (r : R) → o ≡ Some r → (slice_get some (in_some j o e) ≡ Some r) × (placing.0 (in_some j o e) ≡ j)
  unfolding in_some
  in_some_is j None e r f = absurd (cc)
  in_some_is j (Some s) e r f = let x = placing.1.back j s e in (x.1 ∙ f, x.2)

  pub back : (j : ℕ) (r : R) → slice_get made j ≡ Some r → (slice_get all (origin j) ≡ Some r) × (place (origin j) ≡ Some j) × Has keys (at r)
  unfolding place origin
  back j r e =
      let i = in_some j (slice_get made j) refl in
      let x = in_some_is j (slice_get made j) refl r e in
      let y = kept_from keep all i r x.0 in
      let s = kept_has y.0 r y.2 in (
        y.1 ∙ ap Some s.1,
        ap (λ o. bind_option o (λ j. Some (placing.0 j))) y.3 ∙ ap Some x.1,
        rw (← s.1) s.0,
      )
