-- The cell of a number after one cell is changed, and after a chunk is added.
use Rattle.std.proofs.Common.{◌≡◌, ◌≢◌, ℕ, zero, suc, ◌+◌, ◌*◌, ◌/◌, ◌%◌, ◌<◌, ◌≤◌, List, [], ◌∷◌, ◌++◌, length, get_or, set, refl, sym, ap, subst, ◌∙◌, arith, ⊎_elim, div-add-mod', length-set}
use Rattle.std.proofs.lemmas.List.{get_or-set_same, get_or-set_other}
use Rattle.std.proofs.lemmas.Bool.Decides.{eqb_tells}
use Rattle.raw_cells.specs.Spots.{Spot, Bare, Link, Full, AreBare}
use Rattle.raw_cells.specs.Places.{cell, with_cell, IsWithin}

same_number : (q n : ℕ) → q % 32 ≡ n % 32 → q / 32 ≡ n / 32 → q ≡ n
same_number q n m d = omega (arith, div-add-mod' q 32, div-add-mod' n 32)

pub fresh_mod : (k i : ℕ) → k < 32 → (k + i * 32) % 32 ≡ k
fresh_mod k i lt = omega arith

pub fresh_div : (k i : ℕ) → k < 32 → (k + i * 32) / 32 ≡ i
fresh_div k i lt = omega arith

module _ {X : Type 0} where
  pub row_there : (rows : List (List (Spot X))) (k i : ℕ) → i < length (get_or rows k []) → k < length rows
  row_there [] k i lt = absurd (omega arith)
  row_there (r ∷ rows) zero i lt = omega arith
  row_there (r ∷ rows) (suc k) i lt = omega (arith, row_there rows k i lt)

  pub cell_same : (rows : List (List (Spot X))) (n : ℕ) (v : Spot X) → IsWithin rows n → cell (with_cell rows n v) n ≡ v
  cell_same rows n v lt =
      let k = n % 32 in let i = n / 32 in let r = get_or rows k [] in
      ap (λ c. get_or c i Bare) (get_or-set_same rows k (set r i v) [] (row_there rows k i lt)) ∙ get_or-set_same r i v Bare lt

  pub cell_other : (rows : List (List (Spot X))) (n : ℕ) (v : Spot X) (q : ℕ) → IsWithin rows n → q ≢ n → cell (with_cell rows n v) q ≡ cell rows q
  cell_other rows n v q lt other =
      let k = n % 32 in let i = n / 32 in let r = get_or rows k [] in let new = set rows k (set r i v) in ⊎_elim
      (λ t. ap (λ j. get_or (get_or new j []) (q / 32) Bare) t.1 ∙ ap (λ c. get_or c (q / 32) Bare) (get_or-set_same rows k (set r i v) [] (row_there rows k i lt))
      ∙ get_or-set_other r i (q / 32) v Bare (λ e. other (same_number q n t.1 e)) ∙ ap (λ j. get_or (get_or rows j []) (q / 32) Bare) (sym t.1))
      (λ f. ap (λ c. get_or c (q / 32) Bare) (get_or-set_other rows k (q % 32) (set r i v) [] f.1)) (eqb_tells (q % 32) k)

  pub within_with : (rows : List (List (Spot X))) (n : ℕ) (v : Spot X) (q : ℕ) → IsWithin rows n → IsWithin rows q → IsWithin (with_cell rows n v) q
  within_with rows n v q lt lies =
      let k = n % 32 in let i = n / 32 in let r = get_or rows k [] in let new = set rows k (set r i v) in
      let long : length (get_or new (q % 32) []) ≡ length (get_or rows (q % 32) []) = ⊎_elim
      (λ t. ap (λ j. length (get_or new j [])) t.1 ∙ ap length (get_or-set_same rows k (set r i v) [] (row_there rows k i lt)) ∙ length-set r i v ∙ ap (λ j. length (get_or rows j [])) (sym t.1))
      (λ f. ap length (get_or-set_other rows k (q % 32) (set r i v) [] f.1)) (eqb_tells (q % 32) k) in
      subst (λ m. q / 32 < m) (sym long) lies

  -- a chunk of bare cells is added
  bare_row : (rows : List (List (Spot X))) (c : List (Spot X)) (k i : ℕ) → AreBare c → get_or (get_or (rows ++ c ∷ []) k []) i Bare ≡ get_or (get_or rows k []) i Bare
  bare_row [] c zero i bare = bare i
  bare_row [] c (suc k) i bare = refl
  bare_row (r ∷ rows) c zero i bare = refl
  bare_row (r ∷ rows) c (suc k) i bare = bare_row rows c k i bare

  pub cell_grown : (rows : List (List (Spot X))) (c : List (Spot X)) (q : ℕ) → AreBare c → cell (rows ++ c ∷ []) q ≡ cell rows q
  cell_grown rows c q bare = bare_row rows c (q % 32) (q / 32) bare

  last_row : (rows : List (List (Spot X))) (c : List (Spot X)) → get_or (rows ++ c ∷ []) (length rows) [] ≡ c
  last_row [] c = refl
  last_row (r ∷ rows) c = last_row rows c

  pub none_past : (rows : List (List (Spot X))) (k : ℕ) → length rows ≤ k → get_or rows k [] ≡ []
  none_past [] k le = refl
  none_past (r ∷ rows) zero le = absurd (omega arith)
  none_past (r ∷ rows) (suc k) le = none_past rows k (omega arith)

  pub fresh_bare : (rows : List (List (Spot X))) (i : ℕ) → length rows < 32 → cell rows (length rows + i * 32) ≡ Bare
  fresh_bare rows i lt = ap (λ c. get_or c ((length rows + i * 32) / 32) Bare) (ap (λ k. get_or rows k []) (fresh_mod (length rows) i lt) ∙ none_past rows (length rows) (omega arith))

  pub fresh_within : (rows : List (List (Spot X))) (c : List (Spot X)) (i : ℕ) → length rows < 32 → i < length c → IsWithin (rows ++ c ∷ []) (length rows + i * 32)
  fresh_within rows c i lt lies =
      let k = length rows in
      let row : get_or (rows ++ c ∷ []) ((k + i * 32) % 32) [] ≡ c = ap (λ j. get_or (rows ++ c ∷ []) j []) (fresh_mod k i lt) ∙ last_row rows c in
      let place : (k + i * 32) / 32 ≡ i = fresh_div k i lt in
      subst (λ r. (k + i * 32) / 32 < length r) (sym row) (subst (λ j. j < length c) (sym place) lies)
