-- Where the elements of a list stand in a permutation of it.
use Rattle.std.proofs.Common.{◌≡◌, ℕ, zero, suc, ◌<◌, List, [], ◌∷◌, length, get_or, Some, inl, inr, refl, sym, ap, subst, arith, ◌∙◌}
use Rattle.std.proofs.Math.ListN.{set, length-set}
use Rattle.std.specs.Prelude.{slice_get, nat_eq, if◌then◌else◌}
use Rattle.std.specs.List.{swap}
use Rattle.std.specs.List.Sorted.{IsPermutation, apply_swaps, SwapsInRange}
use Rattle.std.proofs.lemmas.Bool.{eq-eqb, ne_eqb}
use Rattle.std.proofs.lemmas.Option.{slice_get_within, get_or_from_slice_get, slice_get-get_or}
use Rattle.span_core.specs.Lists.{Has}
use Rattle.span_core.proofs.HasLaws.{Has-slice_get, place_of-Has}
use Rattle.span_core.proofs.ListLaws.{get_set_same}
use Rattle.marked_automaton.proofs.Listed.{some_same, same_or_not}

-- each element of xs stands in ys at the place that g gives, and no other does
pub record IsPlaced {X : Type 0} (xs ys : List X) (g : ℕ → ℕ) : Type 0 where
  pub there : (k : ℕ) (x : X) → slice_get xs k ≡ Some x → slice_get ys (g k) ≡ Some x
  pub back : (h : ℕ) (x : X) → slice_get ys h ≡ Some x → (k : ℕ) × (slice_get xs k ≡ Some x) × (g k ≡ h)

pub placed_itself : {X : Type 0} (xs : List X) → IsPlaced xs xs (λ k. k)
placed_itself xs = record { there = λ k x e. e; back = λ h x e. (h, e, refl) }

pub placed_then : {X : Type 0} (xs ys zs : List X) (g h : ℕ → ℕ) → IsPlaced xs ys g → IsPlaced ys zs h → IsPlaced xs zs (λ k. h (g k))
placed_then xs ys zs g h a b = record {
  there = λ k x e. b.there (g k) x (a.there k x e);
  back = λ m x e. let r = b.back m x e in let s = a.back r.0 x r.1 in (s.0, s.1, ap h s.2 ∙ r.2);
}

-- where an exchange puts what stands at k
abbrev pub exchanged : ℕ → ℕ → ℕ → ℕ
exchanged i j k = if nat_eq k i then j else (if nat_eq k j then i else k)

exchanged_first : (i j k : ℕ) → k ≡ i → exchanged i j k ≡ j
exchanged_first i j k e = ap (λ b. if b then j else (if nat_eq k j then i else k)) (eq-eqb k i e)

exchanged_second : (i j k : ℕ) → (k ≡ i → ⊥) → k ≡ j → exchanged i j k ≡ i
exchanged_second i j k n e =
    ap (λ b. if b then j else (if nat_eq k j then i else k)) (ne_eqb k i n) ∙ ap (λ b. if b then i else k) (eq-eqb k j e)

exchanged_other : (i j k : ℕ) → (k ≡ i → ⊥) → (k ≡ j → ⊥) → exchanged i j k ≡ k
exchanged_other i j k n m =
    ap (λ b. if b then j else (if nat_eq k j then i else k)) (ne_eqb k i n) ∙ ap (λ b. if b then i else k) (ne_eqb k j m)

exchanged_twice : (i j k : ℕ) → exchanged i j (exchanged i j k) ≡ k
exchanged_twice i j k =
    elim (same_or_not k i) as (λ _. exchanged i j (exchanged i j k) ≡ k) [
      | inl e ↦
          elim (same_or_not j i) as (λ _. exchanged i j (exchanged i j k) ≡ k) [
            | inl f ↦ ap (exchanged i j) (exchanged_first i j k e) ∙ (exchanged_first i j j f ∙ (f ∙ sym e))
            | inr n ↦ ap (exchanged i j) (exchanged_first i j k e) ∙ (exchanged_second i j j n refl ∙ sym e)
          ]
      | inr n ↦
          elim (same_or_not k j) as (λ _. exchanged i j (exchanged i j k) ≡ k) [
            | inl e ↦ ap (exchanged i j) (exchanged_second i j k n e) ∙ (exchanged_first i j i refl ∙ sym e)
            | inr m ↦ ap (exchanged i j) (exchanged_other i j k n m) ∙ exchanged_other i j k n m
          ]
    ]

exchanged_below : (i j k n : ℕ) → i < n → j < n → k < n → exchanged i j k < n
exchanged_below i j k n a b c =
    elim (same_or_not k i) as (λ _. exchanged i j k < n) [
      | inl e ↦ omega (arith, exchanged_first i j k e)
      | inr d ↦ elim (same_or_not k j) as (λ _. exchanged i j k < n) [
        | inl e ↦ omega (arith, exchanged_second i j k d e)
        | inr m ↦ omega (arith, exchanged_other i j k d m)
      ]
    ]

module _ {X : Type 0} where
  pub get_set_other : (xs : List X) (i k : ℕ) (v : X) → (k ≡ i → ⊥) → slice_get (set xs i v) k ≡ slice_get xs k
  get_set_other [] i k v n = refl
  get_set_other (x ∷ xs) zero zero v n = absurd (n refl)
  get_set_other (x ∷ xs) zero (suc k) v n = refl
  get_set_other (x ∷ xs) (suc i) zero v n = refl
  get_set_other (x ∷ xs) (suc i) (suc k) v n = get_set_other xs i k v (λ e. n (ap suc e))

  -- two elements in each other's place
  module _ (xs : List X) (d : X) (i j : ℕ) (a : i < length xs) (b : j < length xs) where
    abbrev turned : List X
    turned = set (set xs i (get_or xs j d)) j (get_or xs i d)

    turned_there : (k : ℕ) (x : X) → slice_get xs k ≡ Some x → slice_get turned (exchanged i j k) ≡ Some x
    turned_there k x e =
        let inner = set xs i (get_or xs j d) in
        let len : length inner ≡ length xs = length-set xs i (get_or xs j d) in
        elim (same_or_not k i) as (λ _. slice_get turned (exchanged i j k) ≡ Some x) [
          | inl f ↦
              ap (slice_get turned) (exchanged_first i j k f) ∙ (get_set_same inner j (get_or xs i d) (omega (arith, len))
              ∙ ap Some (ap (λ m. get_or xs m d) (sym f) ∙ get_or_from_slice_get xs k x d e))
          | inr n ↦ elim (same_or_not k j) as (λ _. slice_get turned (exchanged i j k) ≡ Some x) [
            | inl f ↦
                ap (slice_get turned) (exchanged_second i j k n f) ∙ (get_set_other inner j i (get_or xs i d) (λ g. n (f ∙ sym g))
                ∙ (get_set_same xs i (get_or xs j d) a ∙ ap Some (ap (λ m. get_or xs m d) (sym f) ∙ get_or_from_slice_get xs k x d e)))
            | inr m ↦
                ap (slice_get turned) (exchanged_other i j k n m) ∙ (get_set_other inner j k (get_or xs i d) m
                ∙ (get_set_other xs i k (get_or xs j d) n ∙ e))
          ]
        ]

    turned_len : length turned ≡ length xs
    turned_len = length-set (set xs i (get_or xs j d)) j (get_or xs i d) ∙ length-set xs i (get_or xs j d)

    turned_back : (h : ℕ) (x : X) → slice_get turned h ≡ Some x → (k : ℕ) × (slice_get xs k ≡ Some x) × (exchanged i j k ≡ h)
    turned_back h x e =
        let within : h < length xs = omega (arith, slice_get_within turned h x e, turned_len) in
        let k = exchanged i j h in
        let there = slice_get-get_or xs k d (exchanged_below i j h (length xs) a b within) in
        let again = turned_there k (get_or xs k d) there in
        let at = exchanged_twice i j h in
        let same : get_or xs k d ≡ x = some_same (get_or xs k d) x (sym (subst (λ m. slice_get turned m ≡ Some (get_or xs k d)) at again) ∙ e) in
        (k, there ∙ ap Some same, at)

    turned_placed : IsPlaced xs turned (exchanged i j)
    turned_placed = record { there = turned_there; back = turned_back }

  swap_placed : (xs : List X) (i j : ℕ) → i < length xs → j < length xs → IsPlaced xs (swap xs i j) (exchanged i j)
  swap_placed [] i j a b = absurd (omega arith)
  swap_placed (d ∷ ys) i j a b = turned_placed (d ∷ ys) d i j a b

  swap_len : (xs : List X) (i j : ℕ) → i < length xs → j < length xs → length (swap xs i j) ≡ length xs
  swap_len [] i j a b = refl
  swap_len (d ∷ ys) i j a b = turned_len (d ∷ ys) d i j a b

  swaps_len : (xs : List X) (ps : List (ℕ × ℕ)) → SwapsInRange (length xs) ps → length (apply_swaps xs ps) ≡ length xs
  swaps_len xs [] h = refl
  swaps_len xs (p ∷ ps) h =
      let len = swaps_len xs ps h.2 in
      swap_len (apply_swaps xs ps) p.0 p.1 (omega (arith, len, h.0)) (omega (arith, len, h.1)) ∙ len

  swaps_placed : (xs : List X) (ps : List (ℕ × ℕ)) → SwapsInRange (length xs) ps → (g : ℕ → ℕ) × IsPlaced xs (apply_swaps xs ps) g
  swaps_placed xs [] h = ((λ k. k), placed_itself xs)
  swaps_placed xs (p ∷ ps) h =
      let len = swaps_len xs ps h.2 in
      let r = swaps_placed xs ps h.2 in (
        (λ k. exchanged p.0 p.1 (r.0 k)),
        placed_then xs (apply_swaps xs ps) (swap (apply_swaps xs ps) p.0 p.1) r.0 (exchanged p.0 p.1) r.1
            (swap_placed (apply_swaps xs ps) p.0 p.1 (omega (arith, len, h.0)) (omega (arith, len, h.1))),
      )

  -- a permutation's places
  pub permutation_placed : (xs ys : List X) → IsPermutation xs ys → (g : ℕ → ℕ) × IsPlaced xs ys g
  permutation_placed xs ys p =
      let r = swaps_placed xs p.moves p.below in
      (r.0, subst (λ zs. IsPlaced xs zs r.0) (sym p.is) r.1)

  pub permutation_len : (xs ys : List X) → IsPermutation xs ys → length ys ≡ length xs
  permutation_len xs ys p = ap length p.is ∙ swaps_len xs p.moves p.below

  -- what is in one of the two is in the other
  pub placed_has : (xs ys : List X) (g : ℕ → ℕ) → IsPlaced xs ys g → (x : X) → Has xs x → Has ys x
  placed_has xs ys g p x h = let k = place_of-Has xs x h in Has-slice_get ys (g k.0) x (p.there k.0 x k.2)

  pub has_placed : (xs ys : List X) (g : ℕ → ℕ) → IsPlaced xs ys g → (x : X) → Has ys x → Has xs x
  has_placed xs ys g p x h =
      let k = place_of-Has ys x h in
      let r = p.back k.0 x k.2 in
      Has-slice_get xs r.0 x r.1
