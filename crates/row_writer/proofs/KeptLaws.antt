-- The lines of kept fields are the lines of rows.
use Rattle.std.proofs.Common.{◌≡◌, ℕ, ◌+◌, ◌*◌, Bool, true, false, List, [], ◌∷◌, ◌++◌, length, map, refl, sym, ap, ◌∙◌, append_assoc, arith, Option, None, Some}
use Rattle.serde_json.specs.Data.{string}
use Rattle.serde_json.specs.Written.{compact_text, members_text}
use Rattle.span_core.specs.declared.span.Span.{Span}
use Rattle.row_writer.specs.declared.style.Style.{Style}
use Rattle.row_writer.specs.declared.style.Style.TheVariants as style
use Rattle.row_writer.specs.JsonLines.{json_cell, json_members, json_text}
use Rattle.row_writer.specs.Lines.{more_fields, shown, spans_fields, spans_text, table_text}
use Rattle.row_writer.specs.Kept.{Head, cells_text, json_heads, json_kept, kept_text, line_room, more_members, more_names, more_tabs, quote_room, spans_heads, spans_kept, table_heads, table_kept}

-- what follows a cell and its head
then_end : (before cell rest end : List ℕ) → (before ++ (cell ++ rest)) ++ end ≡ before ++ (cell ++ (rest ++ end))
then_end before cell rest end = append_assoc before (cell ++ rest) end ∙ ap (λ (xs : List ℕ). before ++ xs) (append_assoc cell rest end)

-- a name, a cell and what follows
field_text : (name cell rest end rest' : List ℕ) → rest ++ end ≡ rest' → ((name ++ 61 ∷ []) ++ (cell ++ rest)) ++ end ≡ (name ++ 61 ∷ cell) ++ rest'
field_text name cell rest end rest' e =
    then_end (name ++ 61 ∷ []) cell rest end ∙ append_assoc name (61 ∷ []) (cell ++ (rest ++ end))
    ∙ ap (λ (xs : List ℕ). name ++ 61 ∷ (cell ++ xs)) e ∙ sym (append_assoc name (61 ∷ cell) rest')

more_spans : (doc : List ℕ) (texts : Bool) (names : List (List ℕ)) (row : List (Option Span)) →
    cells_text doc texts (more_names names) row ++ 10 ∷ [] ≡ more_fields 32 (spans_fields doc texts names row)
more_spans doc texts [] row = refl
more_spans doc texts (name ∷ names) [] = refl
more_spans doc texts (name ∷ names) (span ∷ row) =
    ap (λ (xs : List ℕ). 32 ∷ xs) (field_text name (shown doc texts span) (cells_text doc texts (more_names names) row) (10 ∷ [])
    (more_fields 32 (spans_fields doc texts names row)) (more_spans doc texts names row))

pub kept_spans : (names : List (List ℕ)) (row : List (Option Span)) (doc : List ℕ) (texts : Bool) → length row ≡ length names →
    kept_text (spans_kept names) row doc texts ≡ spans_text names row doc texts
kept_spans [] row doc texts e = refl
kept_spans (name ∷ names) [] doc texts e = absurd (omega arith)
kept_spans (name ∷ names) (span ∷ row) doc texts e =
    field_text name (shown doc texts span) (cells_text doc texts (more_names names) row) (10 ∷ []) (more_fields 32 (spans_fields doc texts names row)) (more_spans doc texts names row)

more_cells : (doc : List ℕ) (texts : Bool) (names : List (List ℕ)) (row : List (Option Span)) → length row ≡ length names →
    cells_text doc texts (more_tabs names) row ++ 10 ∷ [] ≡ more_fields 9 (map (shown doc texts) row)
more_cells doc texts [] [] e = refl
more_cells doc texts [] (span ∷ row) e = absurd (omega arith)
more_cells doc texts (name ∷ names) [] e = absurd (omega arith)
more_cells doc texts (name ∷ names) (span ∷ row) e =
    let cell = shown doc texts span in
    let rest = cells_text doc texts (more_tabs names) row in
    ap (λ (xs : List ℕ). 9 ∷ xs) (append_assoc cell rest (10 ∷ []) ∙ ap (λ (xs : List ℕ). cell ++ xs) (more_cells doc texts names row (omega arith)))

pub kept_table : (names : List (List ℕ)) (row : List (Option Span)) (doc : List ℕ) (texts : Bool) → length row ≡ length names → kept_text (table_kept names) row doc texts ≡ table_text row doc texts
kept_table [] [] doc texts e = refl
kept_table [] (span ∷ row) doc texts e = absurd (omega arith)
kept_table (name ∷ names) [] doc texts e = absurd (omega arith)
kept_table (name ∷ names) (span ∷ row) doc texts e =
    let cell = shown doc texts span in
    let rest = cells_text doc texts (more_tabs names) row in
    append_assoc cell rest (10 ∷ []) ∙ ap (λ (xs : List ℕ). cell ++ xs) (more_cells doc texts names row (omega arith))

-- a member, and what follows in either way of telling it
member_text : (sign : ℕ) (name cell rest end rest' end' : List ℕ) → rest ++ end ≡ rest' ++ end' →
    ((sign ∷ (name ++ 58 ∷ [])) ++ (cell ++ rest)) ++ end ≡ (sign ∷ (name ++ 58 ∷ (cell ++ rest'))) ++ end'
member_text sign name cell rest end rest' end' e =
    then_end (sign ∷ (name ++ 58 ∷ [])) cell rest end
    ∙ ap (λ (xs : List ℕ). sign ∷ xs) (append_assoc name (58 ∷ []) (cell ++ (rest ++ end)))
    ∙ ap (λ (xs : List ℕ). sign ∷ (name ++ 58 ∷ (cell ++ xs))) e
    ∙ ap (λ (xs : List ℕ). sign ∷ (name ++ 58 ∷ xs)) (sym (append_assoc cell rest' end'))
    ∙ ap (λ (xs : List ℕ). sign ∷ xs) (sym (append_assoc name (58 ∷ (cell ++ rest')) end'))

more_json : (doc : List ℕ) (texts : Bool) (names : List (List ℕ)) (row : List (Option Span)) →
    cells_text doc texts (more_members names) row ++ 125 ∷ 10 ∷ [] ≡ members_text true (json_members doc texts names row) ++ 10 ∷ []
more_json doc texts [] row = refl
more_json doc texts (name ∷ names) [] = refl
more_json doc texts (name ∷ names) (span ∷ row) =
    member_text 44 (compact_text (string name)) (compact_text (json_cell doc texts span)) (cells_text doc texts (more_members names) row) (125 ∷ 10 ∷ [])
    (members_text true (json_members doc texts names row)) (10 ∷ []) (more_json doc texts names row)

-- the line that is written in place is the compact text of the object of a row
pub kept_json : (names : List (List ℕ)) (row : List (Option Span)) (doc : List ℕ) (texts : Bool) → length row ≡ length names → kept_text (json_kept names) row doc texts ≡ json_text names row doc texts
kept_json [] row doc texts e = refl
kept_json (name ∷ names) [] doc texts e = absurd (omega arith)
kept_json (name ∷ names) (span ∷ row) doc texts e =
    member_text 123 (compact_text (string name)) (compact_text (json_cell doc texts span)) (cells_text doc texts (more_members names) row) (125 ∷ 10 ∷ [])
    (members_text true (json_members doc texts names row)) (10 ∷ []) (more_json doc texts names row)

-- as many heads as names
more_names_length : (names : List (List ℕ)) → length (more_names names) ≡ length names
more_names_length [] = refl
more_names_length (name ∷ names) = let e = more_names_length names in omega arith

pub spans_heads_length : (names : List (List ℕ)) → length (spans_heads names) ≡ length names
spans_heads_length [] = refl
spans_heads_length (name ∷ names) = let e = more_names_length names in omega arith

more_tabs_length : (names : List (List ℕ)) → length (more_tabs names) ≡ length names
more_tabs_length [] = refl
more_tabs_length (name ∷ names) = let e = more_tabs_length names in omega arith

pub table_heads_length : (names : List (List ℕ)) → length (table_heads names) ≡ length names
table_heads_length [] = refl
table_heads_length (name ∷ names) = let e = more_tabs_length names in omega arith

more_members_length : (names : List (List ℕ)) → length (more_members names) ≡ length names
more_members_length [] = refl
more_members_length (name ∷ names) = let e = more_members_length names in omega arith

pub json_heads_length : (names : List (List ℕ)) → length (json_heads names) ≡ length names
json_heads_length [] = refl
json_heads_length (name ∷ names) = let e = more_members_length names in omega arith

-- no text has no room
no_quote : (s : Style) (span : Option Span) → quote_room s false span ≡ 0
no_quote s None = refl
no_quote style.Plain (Some span) = refl
no_quote style.Json (Some span) = refl

-- without texts each field has the same room
pub bare_room : (texts : Bool) (heads : List Head) (row : List (Option Span)) → texts ≡ false → length row ≡ length heads → 64 * (length row + 1) ≡ line_room texts heads row
bare_room true heads row e l = absurd (cc)
bare_room false [] [] e l = refl
bare_room false [] (span ∷ row) e l = absurd (omega arith)
bare_room false (head ∷ heads) [] e l = absurd (omega arith)
bare_room false (head ∷ heads) (span ∷ row) e l = let r = bare_room false heads row refl (omega arith) in let none = no_quote head.style span in omega (arith, r, none)
