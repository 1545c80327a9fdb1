-- The line of a row is the line that is open at a span's end, with the number of that end.
use Rattle.std.proofs.Common.{◌≡◌, ℕ, zero, suc, ◌+◌, ◌<◌, ◌≤◌, List, [], ◌∷◌, ◌++◌, length, take, set, slice_get, Option, Some, None, false, refl, sym, ap, ap₂, ◌∙◌, append_assoc, arith}
use Rattle.std.specs.Fmt.{decimal}
use Rattle.span_core.specs.declared.span.Span.{Span}
use Rattle.row_writer.specs.declared.style.Style.{Style}
use Rattle.row_writer.specs.declared.style.Style.TheVariants as style
use Rattle.row_writer.specs.Kept.{Head, Line, cells_text, line_end, styled_cell, text_under}
use Rattle.row_writer.specs.KeptField.{opening, numbers, sign, span_rest}
use Rattle.row_writer.specs.Open.{IsOpenAt, before_end, behind_end, open_at}
use Rattle.row_writer.proofs.Keeping.{front_written}

-- a cell without its text
styled_parts : (s : Style) (doc : List ℕ) (b : Span) → styled_cell s doc false (Some b) ≡ (opening s ++ numbers s b) ++ span_rest s doc false b
styled_parts style.Plain doc b = refl
styled_parts style.Json doc b = ap (λ (xs : List ℕ). 91 ∷ xs) (sym (append_assoc (decimal b.start) (44 ∷ decimal b.end) (93 ∷ [])))

-- which has nothing of the span behind its numbers
rest_same : (s : Style) (doc : List ℕ) (a b : Span) → span_rest s doc false a ≡ span_rest s doc false b
rest_same style.Plain doc a b = refl
rest_same style.Json doc a b = refl

-- five pieces, and where they are joined
pieces : (h o d e r c : List ℕ) (g : ℕ) → h ++ (((o ++ (d ++ g ∷ e)) ++ r) ++ c) ≡ (h ++ (o ++ (d ++ g ∷ []))) ++ (e ++ (r ++ c))
pieces h o d e r c g =
    let inner : d ++ g ∷ e ≡ (d ++ g ∷ []) ++ e = sym (append_assoc d (g ∷ []) e) in
    ap (λ (xs : List ℕ). h ++ xs) (append_assoc (o ++ (d ++ g ∷ e)) r c ∙ append_assoc o (d ++ g ∷ e) (r ++ c)
    ∙ ap (λ (xs : List ℕ). o ++ (xs ++ (r ++ c))) inner ∙ ap (λ (xs : List ℕ). o ++ xs) (append_assoc (d ++ g ∷ []) e (r ++ c)) ∙ sym (append_assoc o (d ++ g ∷ []) (e ++ (r ++ c))))
    ∙ sym (append_assoc h (o ++ (d ++ g ∷ [])) (e ++ (r ++ c)))

cells_opened : (doc : List ℕ) (heads : List Head) (row : List (Option Span)) (k : ℕ) (s b : Span) → length row ≡ length heads → slice_get row k ≡ Some (Some s) → b.start ≡ s.start
    → cells_text doc false heads (set row k (Some b)) ≡ before_end doc heads row k s.start ++ (decimal b.end ++ behind_end doc heads row k)
cells_opened doc [] [] k s b len is start = cc
cells_opened doc [] (x ∷ row) k s b len is start = absurd (omega (arith, len))
cells_opened doc (head ∷ heads) [] k s b len is start = cc
cells_opened doc (head ∷ heads) (None ∷ row) zero s b len is start = cc
cells_opened doc (head ∷ heads) (Some a ∷ row) zero s b len is start =
    let rest = cells_text doc false heads row in
    ap (λ (xs : List ℕ). head.before ++ (xs ++ rest)) (styled_parts head.style doc b)
    ∙ pieces head.before (opening head.style) (decimal b.start) (decimal b.end) (span_rest head.style doc false b) rest (sign head.style)
    ∙ ap₂ (λ (n : ℕ) (xs : List ℕ). (head.before ++ (opening head.style ++ (decimal n ++ sign head.style ∷ []))) ++ (decimal b.end ++ (xs ++ rest))) start (rest_same head.style doc b a)
cells_opened doc (head ∷ heads) (x ∷ row) (suc k) s b len is start =
    let cell = styled_cell head.style doc false x in
    let t = cells_opened doc heads row k s b (omega (arith, len)) is start in
    let back = decimal b.end ++ behind_end doc heads row k in
    ap (λ (xs : List ℕ). head.before ++ (cell ++ xs)) t
    ∙ ap (λ (xs : List ℕ). head.before ++ xs) (sym (append_assoc cell (before_end doc heads row k s.start) back))
    ∙ sym (append_assoc head.before (cell ++ before_end doc heads row k s.start) back)

some_heads : (s : Style) (heads : List Head) (row : List (Option Span)) (doc : List ℕ) → 0 < length heads → text_under s heads row doc false ≡ cells_text doc false heads row ++ line_end s
some_heads s [] row doc l = absurd (omega (arith, l))
some_heads s (head ∷ heads) row doc l = refl

within : (row : List (Option Span)) (k : ℕ) (s : Span) → slice_get row k ≡ Some (Some s) → 0 < length row
within [] k s is = cc
within (x ∷ row) k s is = omega arith

pub line_opened : (kept : Line) (row : List (Option Span)) (k start : ℕ) (doc : List ℕ) → length row ≡ length kept.heads → ((s : Span) → slice_get row k ≡ Some (Some s) → start ≡ s.start)
    → IsOpenAt kept row k doc (open_at kept row k start doc)
line_opened kept row k start doc len at s b is from =
    let some = within row k s is in
    let front = before_end doc kept.heads row k s.start in
    let back = behind_end doc kept.heads row k in
    some_heads kept.style kept.heads (set row k (Some b)) doc (omega (arith, some, len))
    ∙ ap (λ (xs : List ℕ). xs ++ line_end kept.style) (cells_opened doc kept.heads row k s b len is from)
    ∙ append_assoc front (decimal b.end ++ back) (line_end kept.style)
    ∙ ap (λ (xs : List ℕ). front ++ xs) (append_assoc (decimal b.end) back (line_end kept.style))
    ∙ ap (λ (n : ℕ). before_end doc kept.heads row k n ++ (decimal b.end ++ (back ++ line_end kept.style))) (sym (at s is))

-- three pieces that are written one behind another
pub pieces_written : (at f l end : ℕ) (b0 b1 b2 b3 front back digits : List ℕ) (r1 r3 : ℕ) → at ≤ length b0 → f ≤ length front → at + f ≤ r1 → end ≤ length b2 → end + l ≤ r3
    → take r1 b1 ≡ take at b0 ++ front → take end b2 ≡ take (at + f) b1 ++ digits → take r3 b3 ≡ take end b2 ++ back
    → take (end + l) b3 ≡ take at b0 ++ (take f front ++ (digits ++ take l back))
pieces_written at f l end b0 b1 b2 b3 front back digits r1 r3 in0 inf below in2 last one two three =
    let a = front_written at f r1 b0 b1 front (take f front) in0 below one refl in
    let c = front_written end l r3 b2 b3 back (take l back) in2 last three refl in
    c ∙ ap (λ (xs : List ℕ). xs ++ take l back) (two ∙ ap (λ (xs : List ℕ). xs ++ digits) a)
    ∙ append_assoc (take at b0 ++ take f front) digits (take l back) ∙ append_assoc (take at b0) (take f front) (digits ++ take l back)
