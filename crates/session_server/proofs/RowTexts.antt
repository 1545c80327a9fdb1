-- The texts of rows, one after another.
use Rattle.std.proofs.Common.{◌≡◌, ◌<◌, ◌≤◌, ◌-◌, ℕ, zero, suc, true, false, List, [], ◌∷◌, ◌++◌, length, take, None, Some, refl, sym, ap, ◌∙◌, arith, append_assoc, append-nil}
use Rattle.std.proofs.lemmas.List.{take_all, take_at}
use Rattle.serde_json.specs.Data.{Members, array, member}
use Rattle.serde_json.specs.Written.{compact_text, items_text}
use Rattle.spanner_model.specs.Captures.{VarName}
use Rattle.spanner_model.specs.Answers.{SpanRow}
use Rattle.row_writer.specs.JsonLines.{json_cell, json_members}
use Rattle.row_writer.specs.Kept.{json_kept, kept_text}
use Rattle.row_writer.proofs.KeptLaws.{kept_json}
use Rattle.session_server.specs.Replies.{json_rows, row_data}
use Rattle.session_server.specs.Rows.{array_of, later_rows, rows_text, with_row}

-- the JSON object of a row does not look at the document
same_members : (d : List ℕ) (names : List VarName) (row : SpanRow) → json_members d false names row ≡ json_members [] false names row
same_members d [] row = refl
same_members d (x ∷ names) [] = refl
same_members d (x ∷ names) (None ∷ row) = ap (λ (ms : Members). member x (json_cell d false None) ms) (same_members d names row)
same_members d (x ∷ names) (Some s ∷ row) = ap (λ (ms : Members). member x (json_cell d false (Some s)) ms) (same_members d names row)

-- the line of a row is its object, and the line's end
pub row_line : (names : List VarName) (row : SpanRow) (d : List ℕ) → length row ≡ length names → kept_text (json_kept names) row d false ≡ compact_text (row_data names row) ++ 10 ∷ []
row_line names row d len = kept_json names row d false len ∙ ap (λ (ms : Members). compact_text (Rattle.serde_json.specs.Data.object ms) ++ 10 ∷ []) (same_members d names row)

-- a row more
later_behind : (names : List VarName) (rows : List SpanRow) (row : SpanRow) → later_rows names (rows ++ row ∷ []) ≡ later_rows names rows ++ 44 ∷ compact_text (row_data names row)
later_behind names [] row = ap (λ (t : List ℕ). 44 ∷ t) (append-nil (compact_text (row_data names row)))
later_behind names (r ∷ rows) row =
    let one = compact_text (row_data names r) in
    ap (λ (t : List ℕ). 44 ∷ (one ++ t)) (later_behind names rows row) ∙ ap (λ (t : List ℕ). 44 ∷ t) (sym (append_assoc one (later_rows names rows) (44 ∷ compact_text (row_data names row))))

pub row_behind : (names : List VarName) (rows : List SpanRow) (row : SpanRow) → rows_text names (rows ++ row ∷ []) ≡ with_row (rows_text names rows) (compact_text (row_data names row))
row_behind names [] row = ap (λ (t : List ℕ). 91 ∷ t) (append-nil (compact_text (row_data names row)))
row_behind names (r ∷ rows) row =
    let one = compact_text (row_data names r) in
    ap (λ (t : List ℕ). 91 ∷ (one ++ t)) (later_behind names rows row) ∙ ap (λ (t : List ℕ). 91 ∷ t) (sym (append_assoc one (later_rows names rows) (44 ∷ compact_text (row_data names row))))

-- the array
later_items : (names : List VarName) (rows : List SpanRow) → later_rows names rows ++ 93 ∷ [] ≡ items_text true (json_rows names rows)
later_items names [] = refl
later_items names (r ∷ rows) =
    let one = compact_text (row_data names r) in
    ap (λ (t : List ℕ). 44 ∷ t) (append_assoc one (later_rows names rows) (93 ∷ []) ∙ ap (λ (t : List ℕ). one ++ t) (later_items names rows))

pub array_text : (names : List VarName) (rows : List SpanRow) → array_of (rows_text names rows) ≡ compact_text (array (json_rows names rows))
array_text names [] = refl
array_text names (r ∷ rows) =
    let one = compact_text (row_data names r) in
    ap (λ (t : List ℕ). 91 ∷ t) (append_assoc one (later_rows names rows) (93 ∷ []) ∙ ap (λ (t : List ℕ). one ++ t) (later_items names rows))

-- what stands before the room for a row
pub front_of : (before room : List ℕ) (start size : ℕ) → start ≡ length before → start ≤ size → take start (take size before ++ room) ≡ before
front_of before room start size at le =
    ap (λ (t : List ℕ). take start (t ++ room)) (take_all size before (omega (arith, at, le))) ∙ take_at before room start (sym at)

-- a line without its end
cut_end : (b xs : List ℕ) (n x : ℕ) → n < length b → take (suc n) b ≡ xs ++ x ∷ [] → take n b ≡ xs
cut_end [] xs n x within is = absurd (omega (arith, within))
cut_end (y ∷ ys) [] zero x within is = refl
cut_end (y ∷ []) [] (suc n) x within is = absurd (omega (arith, within))
cut_end (y ∷ z ∷ ys) [] (suc n) x within is = absurd (cc)
cut_end (y ∷ ys) (z ∷ []) zero x within is = absurd (cc)
cut_end (y ∷ ys) (z ∷ w ∷ zs) zero x within is = absurd (cc)
cut_end (y ∷ ys) (z ∷ zs) (suc n) x within is =
    let here : y ≡ z = cc in
    let later : take (suc n) ys ≡ zs ++ x ∷ [] = cc in
    ap (λ (a : ℕ). a ∷ take n ys) here ∙ ap (λ (t : List ℕ). z ∷ t) (cut_end ys zs n x (omega (arith, within)) later)

pub without_end : (b xs : List ℕ) (n x : ℕ) → n ≤ length b → take n b ≡ xs ++ x ∷ [] → take (n - 1) b ≡ xs
without_end b [] zero x within is = absurd (cc)
without_end b (y ∷ xs) zero x within is = absurd (cc)
without_end b xs (suc n) x within is = let e : suc n - 1 ≡ n = omega arith in ap (λ (m : ℕ). take m b) e ∙ cut_end b xs n x (omega (arith, within)) is
