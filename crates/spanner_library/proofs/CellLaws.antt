-- Rows as numbers, one more at a time.
use Rattle.std.proofs.Common.{◌≡◌, ℕ, zero, suc, ◌+◌, ◌*◌, ◌<◌, ◌≤◌, List, [], ◌∷◌, ◌++◌, length, take, drop, slice_get, slice_index_or, Option, Some, sym, ap, ◌∙◌, arith}
use Rattle.std.proofs.lemmas.List.{append-nil, append_assoc, drop-drop}
use Rattle.std.proofs.Math.Nat.{mul-le-mul_right}
use Rattle.span_core.specs.declared.span.Span.{Span}
use Rattle.spanner_model.specs.Answers.{SpanRow}
use Rattle.spanner_library.specs.Cells.{row_cells, rows_cells, span_cells}

row_take : (row : SpanRow) (k : ℕ) (s : Option Span) → slice_get row k ≡ Some s → row_cells (take (suc k) row) ≡ row_cells (take k row) ++ span_cells s
row_take [] k s is = absurd (cc)
row_take (r ∷ row) zero s is =
    let same : r ≡ s = cc in
    append-nil (span_cells r) ∙ ap span_cells same
row_take (r ∷ row) (suc k) s is =
    ap (λ (xs : List ℕ). span_cells r ++ xs) (row_take row k s is) ∙ sym (append_assoc (span_cells r) (row_cells (take k row)) (span_cells s))

rows_take : (rows : List SpanRow) (k : ℕ) (row : SpanRow) (rest : List SpanRow) → drop k rows ≡ row ∷ rest → rows_cells (take (suc k) rows) ≡ rows_cells (take k rows) ++ row_cells row
rows_take [] zero row rest is = absurd (cc)
rows_take [] (suc k) row rest is = absurd (cc)
rows_take (r ∷ rows) zero row rest is =
    let same : r ≡ row = cc in
    append-nil (row_cells r) ∙ ap row_cells same
rows_take (r ∷ rows) (suc k) row rest is =
    ap (λ (xs : List ℕ). row_cells r ++ xs) (rows_take rows k row rest is) ∙ sym (append_assoc (row_cells r) (rows_cells (take k rows)) (row_cells row))

-- what a place within a list has
pub at_index : {X : Type 0} (xs : List X) (k : ℕ) (x : X) → k < length xs → x ≡ slice_index_or xs k x → slice_get xs k ≡ Some x
at_index [] k x less is = absurd (omega (arith, less))
at_index (y ∷ xs) zero x less is = let same : x ≡ y = is in ap Some (sym same)
at_index (y ∷ xs) (suc k) x less is = at_index xs k x (omega (arith, less)) is

-- what was put so far, with the numbers of one span more
pub put_further : (old now new : List ℕ) (at k : ℕ) (row : SpanRow) (s : Option Span) → slice_get row k ≡ Some s → take (at + 2 * k) now ≡ take at old ++ row_cells (take k row) →
    take (at + 2 * k + 2) new ≡ take (at + 2 * k) now ++ span_cells s → take (at + 2 * (k + 1)) new ≡ take at old ++ row_cells (take (k + 1) row)
put_further old now new at k row s is before put =
    let place : at + 2 * (k + 1) ≡ at + 2 * k + 2 = omega arith in
    let one : suc k ≡ k + 1 = omega arith in
    ap (λ (n : ℕ). take n new) place ∙ put ∙ ap (λ (xs : List ℕ). xs ++ span_cells s) before
    ∙ append_assoc (take at old) (row_cells (take k row)) (span_cells s)
    ∙ ap (λ (xs : List ℕ). take at old ++ xs) (sym (row_take row k s is))
    ∙ ap (λ (n : ℕ). take at old ++ row_cells (take n row)) one

-- what stands behind it is as it was
pub behind_further : (old now new : List ℕ) (m more n : ℕ) → n ≡ m + more → drop m now ≡ drop m old → drop (m + more) new ≡ drop (m + more) now → drop n new ≡ drop n old
behind_further old now new m more n place before put =
    ap (λ (k : ℕ). drop k new) place ∙ put ∙ sym (drop-drop more m now) ∙ ap (drop more) before ∙ drop-drop more m old ∙ ap (λ (k : ℕ). drop k old) (sym place)

-- ---- a row more

pub rows_further : (rows : List SpanRow) (k : ℕ) (row : SpanRow) (rest : List SpanRow) → drop k rows ≡ row ∷ rest → rows_cells (take (k + 1) rows) ≡ rows_cells (take k rows) ++ row_cells row
rows_further rows k row rest is = let one : k + 1 ≡ suc k = omega arith in ap (λ (n : ℕ). rows_cells (take n rows)) one ∙ rows_take rows k row rest is

pub rest_further : (rows : List SpanRow) (k : ℕ) (row : SpanRow) (rest : List SpanRow) → drop k rows ≡ row ∷ rest → rest ≡ drop (k + 1) rows
rest_further [] zero row rest is = absurd (cc)
rest_further [] (suc k) row rest is = absurd (cc)
rest_further (r ∷ rows) zero row rest is = let same : rows ≡ rest = cc in sym same
rest_further (r ∷ rows) (suc k) row rest is = let one : suc k + 1 ≡ suc (k + 1) = omega arith in rest_further rows k row rest is ∙ ap (λ (n : ℕ). drop n (r ∷ rows)) (sym one)

pub few_further : (rows : List SpanRow) (k : ℕ) (row : SpanRow) (rest : List SpanRow) → drop k rows ≡ row ∷ rest → k + 1 ≤ length rows
few_further [] zero row rest is = absurd (cc)
few_further [] (suc k) row rest is = absurd (cc)
few_further (r ∷ rows) zero row rest is = omega arith
few_further (r ∷ rows) (suc k) row rest is = let h = few_further rows k row rest is in omega (arith, h)

-- where nothing is left, all were taken
pub none_further : (rows : List SpanRow) (k : ℕ) → drop k rows ≡ [] → length rows ≤ k
none_further [] k is = omega arith
none_further (r ∷ rows) zero is = absurd (cc)
none_further (r ∷ rows) (suc k) is = let h = none_further rows k is in omega (arith, h)

-- room for one row more
pub room_further : (count most unit len : ℕ) → count < most → most * unit ≤ len → count * unit + unit ≤ len
room_further count most unit len less room =
    let le : count + 1 ≤ most = omega (arith, less) in
    let more : (count + 1) * unit ≤ most * unit = mul-le-mul_right unit le in
    let one : (count + 1) * unit ≡ count * unit + unit = omega arith in
    omega (arith, more, one, room)
