-- The table of chunks: which chunk a number leads to, and what a change of one chunk leaves.
use Rattle.std.proofs.Common.{◌≡◌, ◌≢◌, ℕ, zero, suc, ◌+◌, ◌/◌, ◌%◌, ◌<◌, ◌≤◌, List, [], ◌∷◌, ◌++◌, length, get_or, set, map, refl, sym, ap, subst, ◌∙◌, arith, ⊎_elim, length-set, length-append}
use Rattle.std.proofs.lemmas.List.{get_or-set_same, get_or-set_other, get_or-map, get_or_default}
use Rattle.std.proofs.lemmas.Bool.Decides.{eqb_tells}
use denote.RawPtr.{Ptr}
use Rattle.raw_cells.specs.Spots.{Spot, Bare, Link, Full}
use Rattle.raw_cells.specs.Places.{cell, with_cell, IsWithin, HasFull, HasLink, AreTold}
use Rattle.raw_cells.proofs.Spotted.{full_within, link_within}
use Rattle.raw_cells.proofs.Places.{row_there}

abbrev pub Block : Type 0 → Type 0
Block X = Ptr × List (Spot X)

module _ {X : Type 0} where
  abbrev pub rows_of : List (Block X) → List (List (Spot X))
  rows_of chunks = map (λ c. c.1) chunks

  pub full_in : (rows : List (List (Spot X))) (n : ℕ) → HasFull rows n → IsWithin rows n
  full_in rows n full = full_within (get_or rows (n % 32) []) (n / 32) full.0 full.1

  pub link_in : (rows : List (List (Spot X))) (n : ℕ) → HasLink rows n → IsWithin rows n
  link_in rows n link = link_within (get_or rows (n % 32) []) (n / 32) link.0 link.1

  pub rows_long : (chunks : List (Block X)) → length (rows_of chunks) ≡ length chunks
  rows_long [] = refl
  rows_long (c ∷ cs) = ap suc (rows_long cs)

  pub rows_push : (chunks : List (Block X)) (c : Block X) → rows_of (chunks ++ c ∷ []) ≡ rows_of chunks ++ c.1 ∷ []
  rows_push [] c = refl
  rows_push (d ∷ ds) c = ap (λ l. d.1 ∷ l) (rows_push ds c)

  pub told_same : (places : ℕ) (first : ℕ → Ptr) (xs ys : List (Block X)) → AreTold places first xs → xs ≡ ys → AreTold places first ys
  told_same places first xs ys ok e = subst (λ l. AreTold places first l) e ok

  pub there : (chunks : List (Block X)) (v : List (List (Spot X))) (n : ℕ) → rows_of chunks ≡ v → IsWithin v n → n % 32 < length chunks
  there chunks v n is lt = omega (arith, row_there v (n % 32) (n / 32) lt, ap length is, rows_long chunks)

  pub row_is : (chunks : List (Block X)) (v : List (List (Spot X))) (n : ℕ) (d : Block X) → rows_of chunks ≡ v → n % 32 < length chunks → d ≡ get_or chunks (n % 32) d → get_or v (n % 32) [] ≡ d.1
  row_is chunks v n d is lt e = ap (λ r. get_or r (n % 32) []) (sym is) ∙ get_or-map (λ (c : Block X). c.1) chunks (n % 32) d [] lt ∙ ap (λ (c : Block X). c.1) (sym e)

  map_set : (chunks : List (Block X)) (k : ℕ) (e : Block X) → rows_of (set chunks k e) ≡ set (rows_of chunks) k e.1
  map_set [] k e = refl
  map_set (c ∷ cs) zero e = refl
  map_set (c ∷ cs) (suc k) e = ap (λ l. c.1 ∷ l) (map_set cs k e)

  pub rows_with : (chunks : List (Block X)) (v : List (List (Spot X))) (n : ℕ) (d e : Block X) (s : Spot X) → rows_of chunks ≡ v → n % 32 < length chunks → d ≡ get_or chunks (n % 32) d
      → e.1 ≡ set d.1 (n / 32) s → rows_of (set chunks (n % 32) e) ≡ with_cell v n s
  rows_with chunks v n d e s is lt at becomes =
      map_set chunks (n % 32) e ∙ ap (λ r. set r (n % 32) e.1) is ∙ ap (λ c. set v (n % 32) c) (becomes ∙ ap (λ c. set c (n / 32) s) (sym (row_is chunks v n d is lt at)))

  pub told_set : (places : ℕ) (first : ℕ → Ptr) (chunks : List (Block X)) (k : ℕ) (d e : Block X) → AreTold places first chunks → k < length chunks → d ≡ get_or chunks k d → e.0 ≡ d.0 → AreTold places first (set chunks k e)
  told_set places first chunks k d e ok lt at same = record {
    all = ok.all;
    few = subst (λ n. n ≤ 32) (sym (length-set chunks k e)) ok.few;
    told = λ j c lies. let here = subst (λ n. j < n) (length-set chunks k e) lies in ⊎_elim
        (λ t. ok.told j d here ∙ ap (λ i. (get_or chunks i d).0) t.1 ∙ ap (λ (b : Block X). b.0) (sym at) ∙ sym same ∙ sym (ap (λ (b : Block X). b.0) (ap (λ i. get_or (set chunks k e) i c) t.1 ∙ get_or-set_same chunks k e c lt)))
        (λ f. ok.told j c here ∙ sym (ap (λ (b : Block X). b.0) (get_or-set_other chunks k j e c f.1))) (eqb_tells j k);
  }

  pub told_push : {O : Type 0} (h : O → Ptr) (none o : O) (origins : List O) (chunks : List (Block X)) (c : Block X) (i : ℕ) → AreTold (length origins) (λ k. h (get_or origins k none)) chunks
      → i ≡ length chunks → i < 32 → h o ≡ c.0 → AreTold (length (set origins i o)) (λ k. h (get_or (set origins i o) k none)) (chunks ++ c ∷ [])
  told_push h none o origins chunks c i ok at lt same =
      let all = ok.all in let long = length-append chunks (c ∷ []) in record {
        all = length-set origins i o ∙ ok.all;
        few = omega arith;
        told = λ k d lies. ⊎_elim
            (λ t. ap (λ j. h (get_or (set origins i o) j none)) t.1 ∙ ap h (get_or-set_same origins i o none (omega arith)) ∙ same ∙ sym (ap (λ (b : Block X). b.0) (ap (λ j. get_or (chunks ++ c ∷ []) j d) (t.1 ∙ at) ∙ last chunks c d)))
            (λ f. ap h (get_or-set_other origins i k o none f.1) ∙ ok.told k d (before k i (length chunks) at f.1 (omega (arith, lies, long))) ∙ sym (ap (λ (b : Block X). b.0) (front chunks c k d (before k i (length chunks) at f.1 (omega (arith, lies, long)))))) (eqb_tells k i);
      }
    where
      last : (xs : List (Block X)) (y d : Block X) → get_or (xs ++ y ∷ []) (length xs) d ≡ y
      last [] y d = refl
      last (x ∷ xs) y d = last xs y d

      front : (xs : List (Block X)) (y : Block X) (k : ℕ) (d : Block X) → k < length xs → get_or (xs ++ y ∷ []) k d ≡ get_or xs k d
      front [] y k d l = absurd (omega arith)
      front (x ∷ xs) y zero d l = refl
      front (x ∷ xs) y (suc k) d l = front xs y k d (omega arith)

      before : (k j n : ℕ) → j ≡ n → (k ≡ j → ⊥) → k < n + 1 → k < n
      before zero j zero e f l = absurd (f (sym e))
      before zero j (suc n) e f l = omega arith
      before (suc k) j zero e f l = absurd (omega arith)
      before (suc k) zero (suc n) e f l = absurd (omega (arith, e))
      before (suc k) (suc j) (suc n) e f l = let r = before k j n (omega arith) (λ g. f (ap suc g)) (omega arith) in omega (arith, r)
