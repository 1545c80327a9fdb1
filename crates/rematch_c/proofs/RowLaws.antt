-- The row that numbers are, one span more at a time.
use Rattle.std.proofs.Common.{◌≡◌, ◌≢◌, ℕ, zero, suc, ◌+◌, ◌*◌, ◌<◌, ◌≤◌, Bool, ◌&&◌, IsTrue, true, false, List, [], ◌∷◌, ◌++◌, length, take, drop, get_or, Option, Some}
use Rattle.std.proofs.Common.{None, refl, sym, ap, ◌∙◌, subst, arith}
use Rattle.std.specs.List.{list_all}
use Rattle.std.proofs.Math.Seq.{drop-cons, take-length, take-suc}
use Rattle.std.proofs.lemmas.List.{append-nil, append_assoc, length-append}
use Rattle.span_core.specs.declared.span.Span.{Span}
use Rattle.cell_text.specs.Cells.{ends_by}
use Rattle.spanner_model.specs.Answers.{SpanRow}
use Rattle.spanner_library.specs.Cells.{row_cells, span_cells}
use Rattle.rematch_c.specs.Rows.{IsRowIn}

-- two numbers for each span
pub cells_length : (row : SpanRow) → length (row_cells row) ≡ 2 * length row
cells_length [] = refl
cells_length (None ∷ row) = let h = cells_length row in omega (arith, h)
cells_length (Some s ∷ row) = let h = cells_length row in omega (arith, h)

-- one span more
pub cells_more : (row : SpanRow) (s : Option Span) → row_cells (row ++ s ∷ []) ≡ row_cells row ++ span_cells s
cells_more [] s = append-nil (span_cells s)
cells_more (r ∷ row) s = ap (λ (xs : List ℕ). span_cells r ++ xs) (cells_more row s) ∙ sym (append_assoc (span_cells r) (row_cells row) (span_cells s))

both_parts : (a b : Bool) → IsTrue (a && b) → IsTrue a × IsTrue b
both_parts true b is = (refl, is)
both_parts false b is = absurd (cc (is))

both : (a b : Bool) → IsTrue a → IsTrue b → IsTrue (a && b)
both true b first second = second
both false b first second = absurd (cc (first))

-- what stands from a span on, and that something holds of it which holds of all
pub cells_at : (p : Option Span → Bool) (row : SpanRow) (k : ℕ) → k < length row → IsTrue (list_all p row) →
    (s : Option Span) × (drop (2 * k) (row_cells row) ≡ span_cells s ++ row_cells (drop (suc k) row)) × IsTrue (p s)
cells_at p [] k less all = absurd (omega (arith, less))
cells_at p (r ∷ row) zero less all = (r, refl, (both_parts (p r) (list_all p row) all).0)
cells_at p (None ∷ row) (suc k) less all =
    let found = cells_at p row k (omega (arith, less)) (both_parts (p None) (list_all p row) all).1 in
    let place : 2 * suc k ≡ suc (suc (2 * k)) = omega arith in
    (found.0, ap (λ (i : ℕ). drop i (row_cells (None ∷ row))) place ∙ found.1, found.2)
cells_at p (Some s ∷ row) (suc k) less all =
    let found = cells_at p row k (omega (arith, less)) (both_parts (p (Some s)) (list_all p row) all).1 in
    let place : 2 * suc k ≡ suc (suc (2 * k)) = omega arith in
    (found.0, ap (λ (i : ℕ). drop i (row_cells (Some s ∷ row))) place ∙ found.1, found.2)

-- ---- the numbers so far

-- the first spans, whose numbers are the first ones
pub record RowSoFar (variables n : ℕ) (numbers : List ℕ) (k : ℕ) (row : SpanRow) : Type 0 where
  pub within : k ≤ variables
  pub lengths : length row ≡ k
  pub cells : row_cells row ≡ take (2 * k) numbers
  pub inside : IsTrue (list_all (ends_by n) row)

-- two numbers more
take_two : (xs : List ℕ) (i a b : ℕ) → suc i < length xs → get_or xs i a ≡ a → get_or xs (suc i) b ≡ b → take (suc (suc i)) xs ≡ take i xs ++ a ∷ b ∷ []
take_two xs i a b less first second =
    take-suc xs (suc i) b less ∙ ap (λ (ys : List ℕ). ys ++ get_or xs (suc i) b ∷ []) (take-suc xs i a (omega (arith, less)))
    ∙ append_assoc (take i xs) (get_or xs i a ∷ []) (get_or xs (suc i) b ∷ [])
    ∙ ap (λ (x : ℕ). take i xs ++ x ∷ get_or xs (suc i) b ∷ []) first ∙ ap (λ (x : ℕ). take i xs ++ a ∷ x ∷ []) second

drop_two : (xs : List ℕ) (i a b : ℕ) → suc i < length xs → get_or xs i a ≡ a → get_or xs (suc i) b ≡ b → drop i xs ≡ a ∷ b ∷ drop (suc (suc i)) xs
drop_two xs i a b less first second =
    drop-cons xs i a (omega (arith, less)) ∙ ap (λ (ys : List ℕ). get_or xs i a ∷ ys) (drop-cons xs (suc i) b less)
    ∙ ap (λ (x : ℕ). x ∷ get_or xs (suc i) b ∷ drop (suc (suc i)) xs) first ∙ ap (λ (x : ℕ). a ∷ x ∷ drop (suc (suc i)) xs) second

inside_more : (n : ℕ) (row : SpanRow) (s : Option Span) → IsTrue (list_all (ends_by n) row) → IsTrue (ends_by n s) → IsTrue (list_all (ends_by n) (row ++ s ∷ []))
inside_more n [] s inside one = both (ends_by n s) true one refl
inside_more n (r ∷ row) s inside one =
    let parts = both_parts (ends_by n r) (list_all (ends_by n) row) inside in
    both (ends_by n r) (list_all (ends_by n) (row ++ s ∷ [])) parts.0 (inside_more n row s parts.1 one)

-- the first two numbers are those of the first span
two_first : (s : Option Span) (a b : ℕ) (more rest : List ℕ) → span_cells s ++ more ≡ a ∷ b ∷ rest → span_cells s ≡ a ∷ b ∷ []
two_first None a b more rest is = cc is
two_first (Some s) a b more rest is = cc is

-- a span more
pub so_far_more : (variables n : ℕ) (numbers : List ℕ) (k : ℕ) (row now : SpanRow) (s : Option Span) (a b : ℕ) → RowSoFar variables n numbers k row → k < variables →
    length numbers ≡ 2 * variables → a ≡ get_or numbers (2 * k) a → b ≡ get_or numbers (2 * k + 1) b → span_cells s ≡ a ∷ b ∷ [] → IsTrue (ends_by n s) →
    now ≡ row ++ s ∷ [] → RowSoFar variables n numbers (k + 1) now
so_far_more variables n numbers k row now s a b so less long first second cells one is =
    let room : suc (2 * k) < length numbers = omega (arith, less, long) in
    let place : 2 * (k + 1) ≡ suc (suc (2 * k)) = omega arith in
    let next : 2 * k + 1 ≡ suc (2 * k) = omega arith in
    let second' : get_or numbers (suc (2 * k)) b ≡ b = ap (λ (i : ℕ). get_or numbers i b) (sym next) ∙ sym second in
    let taken : take (2 * (k + 1)) numbers ≡ take (2 * k) numbers ++ a ∷ b ∷ [] = ap (λ (i : ℕ). take i numbers) place ∙ take_two numbers (2 * k) a b room (sym first) second' in
    let put : row_cells (row ++ s ∷ []) ≡ take (2 * (k + 1)) numbers =
    cells_more row s ∙ ap (λ (xs : List ℕ). xs ++ span_cells s) so.cells ∙ ap (λ (xs : List ℕ). take (2 * k) numbers ++ xs) cells ∙ sym taken in
    subst (RowSoFar variables n numbers (k + 1)) (sym is) (record {
      within = omega (arith, less);
      lengths = length-append row (s ∷ []) ∙ ap (λ (m : ℕ). m + 1) so.lengths;
      cells = put;
      inside = inside_more n row s so.inside one;
    })

-- where two numbers are those of no span, the numbers are those of no row
pub no_span : (variables n : ℕ) (numbers : List ℕ) (k : ℕ) (row : SpanRow) (a b : ℕ) → k < variables → a ≡ get_or numbers (2 * k) a → b ≡ get_or numbers (2 * k + 1) b →
    ((s : Option Span) → span_cells s ≡ a ∷ b ∷ [] → IsTrue (ends_by n s) → ⊥) → IsRowIn variables n numbers row → ⊥
no_span variables n numbers k row a b less first second none is =
    let inside : k < length row = omega (arith, less, is.lengths) in
    let found = cells_at (ends_by n) row k inside is.inside in
    let long : length numbers ≡ 2 * length row = ap length (sym is.cells) ∙ cells_length row in
    let room : suc (2 * k) < length numbers = omega (arith, inside, long) in
    let next : 2 * k + 1 ≡ suc (2 * k) = omega arith in
    let second' : get_or numbers (suc (2 * k)) b ≡ b = ap (λ (i : ℕ). get_or numbers i b) (sym next) ∙ sym second in
    let two : span_cells found.0 ++ row_cells (drop (suc k) row) ≡ a ∷ b ∷ drop (suc (suc (2 * k))) numbers =
    sym found.1 ∙ ap (drop (2 * k)) is.cells ∙ drop_two numbers (2 * k) a b room (sym first) second' in
    none found.0 (two_first found.0 a b (row_cells (drop (suc k) row)) (drop (suc (suc (2 * k))) numbers) two) found.2

-- numbers of another length are those of no row
pub other_length : (variables n : ℕ) (numbers : List ℕ) (row : SpanRow) → length numbers ≢ 2 * variables → IsRowIn variables n numbers row → ⊥
other_length variables n numbers row other is =
    other (ap length (sym is.cells) ∙ cells_length row ∙ ap (λ (m : ℕ). 2 * m) is.lengths)

-- all were read
pub so_far_all : (variables n : ℕ) (numbers : List ℕ) (k : ℕ) (row : SpanRow) → RowSoFar variables n numbers k row → variables ≤ k → length numbers ≡ 2 * variables →
    IsRowIn variables n numbers row
so_far_all variables n numbers k row so over long =
    let all : 2 * k ≡ length numbers = omega (arith, over, long, so.within) in
    record {
      lengths = so.lengths ∙ omega (arith, over, so.within);
      cells = so.cells ∙ ap (λ (m : ℕ). take m numbers) all ∙ take-length numbers;
      inside = so.inside;
    }
