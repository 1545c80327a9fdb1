-- The parts of a line round the end of a span.
use Rattle.std.proofs.Common.{◌≡◌, ℕ, zero, suc, ◌+◌, ◌-◌, ◌*◌, ◌<◌, ◌≤◌, Bool, true, false, List, [], ◌∷◌, ◌++◌, length, take, drop, set, slice_get, Option, Some, None}
use Rattle.std.proofs.Common.{refl, sym, ap, ap₂, ◌∙◌, append_assoc, arith, subst}
use Rattle.std.specs.Fmt.{decimal}
use Rattle.std.specs.Prelude.{IfSome}
use Rattle.std.specs.List.{list_all}
use Rattle.std.proofs.lemmas.Bool.{and_parts}
use Rattle.std.proofs.lemmas.List.{drop-take, length-take-le, take-append-drop}
use Rattle.std.proofs.lemmas.List.Folds.{list_all-append}
use Rattle.std.proofs.lemmas.Option.{IfSome_then}
use Rattle.std.proofs.Math.Seq.{drop-append_seam, take-append_seam}
use Rattle.span_core.specs.declared.span.Span.{Span}
use Rattle.row_writer.specs.declared.style.Style.{Style}
use Rattle.row_writer.specs.declared.style.Style.TheVariants as style
use Rattle.row_writer.specs.Kept.{Head, Line, cells_text, kept_text, line_end, line_room, quote_room, styled_cell, text_under}
use Rattle.row_writer.specs.KeptField.{opening, sign, span_rest}
use Rattle.row_writer.specs.Open.{Open, open_text, open_with, IsBeside, IsOpenAt, IsRun, before_end, behind_end, open_at}
use Rattle.row_writer.proofs.Keeping.{front_kept, rises}
use Rattle.row_writer.proofs.Opened.{line_opened}

-- ---- room without texts

pub no_quote : (s : Style) (span : Option Span) → quote_room s false span ≡ 0
no_quote style.Plain None = refl
no_quote style.Plain (Some x) = refl
no_quote style.Json None = refl
no_quote style.Json (Some x) = refl

pub room_bare : (heads : List Head) (row : List (Option Span)) → length row ≡ length heads → line_room false heads row ≡ 64 * length row + 64
room_bare [] [] e = refl
room_bare [] (x ∷ row) e = absurd (omega (arith, e))
room_bare (head ∷ heads) [] e = absurd (omega (arith, e))
room_bare (head ∷ heads) (x ∷ row) e = omega (arith, no_quote head.style x, room_bare heads row (omega (arith, e)))

pub no_cells : (doc : List ℕ) (heads : List Head) → cells_text doc false heads [] ≡ []
no_cells doc [] = refl
no_cells doc (head ∷ heads) = refl

pub all_front : (p : Option Span → Bool) (row : List (Option Span)) (k : ℕ) → list_all p row ≡ true → list_all p (take k row) ≡ true
all_front p row k all =
    let e = sym (ap (list_all p) (take-append-drop k row)) in
    (and_parts (list_all p (take k row)) (list_all p (drop k row)) (sym (list_all-append p (take k row) (drop k row)) ∙ sym e ∙ all)).0

-- ---- the document is not read

cell_free : (s : Style) (doc : List ℕ) (span : Option Span) → styled_cell s doc false span ≡ styled_cell s [] false span
cell_free style.Plain doc None = refl
cell_free style.Plain doc (Some x) = refl
cell_free style.Json doc None = refl
cell_free style.Json doc (Some x) = refl

cells_free : (doc : List ℕ) (heads : List Head) (row : List (Option Span)) → cells_text doc false heads row ≡ cells_text [] false heads row
cells_free doc [] row = refl
cells_free doc (head ∷ heads) [] = refl
cells_free doc (head ∷ heads) (x ∷ row) = ap₂ (λ (xs ys : List ℕ). head.before ++ (xs ++ ys)) (cell_free head.style doc x) (cells_free doc heads row)

under_free : (s : Style) (heads : List Head) (row : List (Option Span)) (doc : List ℕ) → text_under s heads row doc false ≡ text_under s heads row [] false
under_free s [] row doc = refl
under_free s (head ∷ heads) row doc = ap (λ (xs : List ℕ). xs ++ line_end s) (cells_free doc (head ∷ heads) row)

pub doc_free : (kept : Line) (row : List (Option Span)) (doc : List ℕ) → kept_text kept row doc false ≡ kept_text kept row [] false
doc_free kept row doc = under_free kept.style kept.heads row doc

pub open_free : (kept : Line) (row : List (Option Span)) (k : ℕ) (doc : List ℕ) (o : Open) → IsOpenAt kept row k doc o → IsOpenAt kept row k [] o
open_free kept row k doc o h s b is from = sym (doc_free kept (set row k (Some b)) doc) ∙ h s b is from

-- ---- the parts

first_same : {X : Type 0} (x y : X) (xs ys : List X) → x ∷ xs ≡ y ∷ ys → x ≡ y
first_same x y xs ys e = cc

pub front_parts : (doc : List ℕ) (heads : List Head) (row : List (Option Span)) (k start : ℕ) (head : Head) (more : List Head) → drop k heads ≡ head ∷ more → k < length row
    → before_end doc heads row k start ≡ cells_text doc false heads (take k row) ++ (head.before ++ (opening head.style ++ (decimal start ++ sign head.style ∷ [])))
front_parts doc [] row zero start head more e l = absurd cc
front_parts doc [] row (suc k) start head more e l = absurd cc
front_parts doc (h ∷ heads) [] k start head more e l = absurd (omega (arith, l))
front_parts doc (h ∷ heads) (x ∷ row) zero start head more e l = ap (λ (g : Head). g.before ++ (opening g.style ++ (decimal start ++ sign g.style ∷ []))) (first_same h head heads more e)
front_parts doc (h ∷ heads) (x ∷ row) (suc k) start head more e l =
    let cell = styled_cell h.style doc false x in
    let rest = cells_text doc false heads (take k row) in
    let half = head.before ++ (opening head.style ++ (decimal start ++ sign head.style ∷ [])) in
    ap (λ (xs : List ℕ). h.before ++ (cell ++ xs)) (front_parts doc heads row k start head more e (omega (arith, l)))
    ∙ ap (λ (xs : List ℕ). h.before ++ xs) (sym (append_assoc cell rest half)) ∙ sym (append_assoc h.before (cell ++ rest) half)

pub back_parts : (doc : List ℕ) (heads : List Head) (row : List (Option Span)) (k : ℕ) (s : Span) (head : Head) (more : List Head) → drop k heads ≡ head ∷ more → slice_get row k ≡ Some (Some s)
    → behind_end doc heads row k ≡ span_rest head.style doc false s ++ cells_text doc false more (drop (k + 1) row)
back_parts doc [] row zero s head more e is = absurd cc
back_parts doc [] row (suc k) s head more e is = absurd cc
back_parts doc (h ∷ heads) [] k s head more e is = absurd cc
back_parts doc (h ∷ heads) (None ∷ row) zero s head more e is = absurd cc
back_parts doc (h ∷ heads) (Some a ∷ row) zero s head more e is =
    let same : a ≡ s = cc in
    let own : h ≡ head = cc in
    let others : heads ≡ more = cc in
    ap₂ (λ (g : Head) (t : Span). span_rest g.style doc false t ++ cells_text doc false heads row) own same
    ∙ ap (λ (hs : List Head). span_rest head.style doc false s ++ cells_text doc false hs row) others
back_parts doc (h ∷ heads) (x ∷ row) (suc k) s head more e is =
    let next : suc k + 1 ≡ suc (k + 1) = omega arith in
    rw next (back_parts doc heads row k s head more e is)

-- ---- where they are written

-- three pieces were written one behind the other: the bytes up to f stay, the digits end at n, and the rest and the cells end at e
pub record Pieces (f n e : ℕ) (b1 b4 digits rest cells : List ℕ) : Type 0 where
  pub between : f ≤ n
  pub behind : n ≤ e
  pub front : take f b4 ≡ take f b1
  pub number : take n b4 ≡ take f b4 ++ digits
  pub back : take e b4 ≡ take n b4 ++ (rest ++ cells)

-- each piece that is written keeps what stands before it
pub parts_written : (r : ℕ) (b2 b3 : List ℕ) {f n e : ℕ} {b1 b4 digits rest cells : List ℕ}
    → take n b2 ≡ take f b1 ++ digits → take r b3 ≡ take n b2 ++ rest → take e b4 ≡ take r b3 ++ cells
    → f ≤ length b1 → n ≤ length b2 → r ≤ length b3 → Pieces f n e b1 b4 digits rest cells
parts_written r b2 b3 {f} {n} {e} {b1} {b4} {digits} {rest} {cells} one two three inf inn inr =
    let fn : f ≤ n = rises b1 b2 digits one inf in
    let nr : n ≤ r = rises b2 b3 rest two inn in
    let re : r ≤ e = rises b3 b4 cells three inr in
    let self : f ≤ f = omega arith in
    let own : n ≤ n = omega arith in
    let fr : f ≤ r = omega (arith, fn, nr) in
    let front : take f b4 ≡ take f b1 = front_kept f r e b3 b4 cells fr re inr three ∙ front_kept f n r b2 b3 rest fn nr inn two ∙ front_kept f f n b1 b2 digits self fn inf one in
    let number : take n b4 ≡ take n b2 = front_kept n r e b3 b4 cells nr re inr three ∙ front_kept n n r b2 b3 rest own nr inn two in
    record {
      between = fn;
      behind = omega (arith, nr, re);
      front = front;
      number = number ∙ one ∙ ap (λ (xs : List ℕ). xs ++ digits) (sym front);
      back = three ∙ ap (λ (xs : List ℕ). xs ++ cells) two ∙ append_assoc (take n b2) rest cells ∙ ap (λ (xs : List ℕ). xs ++ (rest ++ cells)) (sym number);
    }

-- what stands between two places
pub piece_of : (at e : ℕ) (old new text : List ℕ) → at ≤ length old → at ≤ e → take e new ≡ take at old ++ text → take (e - at) (drop at new) ≡ text
piece_of at e old new text inside low is =
    let n : at + (e - at) ≡ e = omega (arith, low) in
    let len : length (take at old) ≡ at = length-take-le at old inside in
    sym (drop-take at (e - at) new) ∙ ap (λ k. drop at (take k new)) n ∙ ap (drop at) is
    ∙ ap (λ k. drop k (take at old ++ text)) (sym len) ∙ drop-append_seam (take at old) text

set_now : (row : List (Option Span)) (k : ℕ) (x : Option Span) → slice_get row k ≡ Some x → set row k x ≡ row
set_now [] k x is = refl
set_now (y ∷ row) zero x is = ap (λ (z : Option Span). z ∷ row) (cc)
set_now (y ∷ row) (suc k) x is = ap (λ (zs : List (Option Span)). y ∷ zs) (set_now row k x is)

starts_there : (row : List (Option Span)) (k : ℕ) (b s : Span) → slice_get row k ≡ Some (Some b) → slice_get row k ≡ Some (Some s) → b.start ≡ s.start
starts_there row k b s is at =
    let same : b ≡ s = cc in
    ap (λ (x : Span). x.start) same

-- the line of a row is that which is open at one of its spans, with that span's end
pub text_opened : (kept : Line) (row : List (Option Span)) (k : ℕ) (doc : List ℕ) (b : Span) → length row ≡ length kept.heads → slice_get row k ≡ Some (Some b)
    → (kept_text kept row doc false ≡ open_text (open_at kept row k b.start doc) b.end) × IsOpenAt kept row k [] (open_at kept row k b.start doc)
text_opened kept row k doc b len is =
    let law = line_opened kept row k b.start doc len (λ s at. starts_there row k b s is at) in
    (ap (λ (r : List (Option Span)). kept_text kept r doc false) (sym (set_now row k (Some b) is)) ∙ law b b is refl, open_free kept row k doc (open_at kept row k b.start doc) law)

-- the line of a row that is beside the last one is that which is open where they differ
pub beside_text : (kept : Line) (last row : List (Option Span)) (k place : ℕ) (doc : List ℕ) (o : Open) (b : Span) → k ≡ place → IsBeside last row k b → IsOpenAt kept last place [] o
    → kept_text kept row doc false ≡ open_text o b.end
beside_text kept last row k place doc o b same h at =
    let here : IsOpenAt kept last k [] o = subst (λ j. IsOpenAt kept last j [] o) (sym same) at in
    doc_free kept row doc ∙ ap (λ (r : List (Option Span)). kept_text kept r [] false) h.others ∙ here h.before b h.was h.start

-- what the parts of a line and its end come to, and what stands before the number and behind it
pub record Opening (at f n z : ℕ) (b0 b5 front digits back : List ℕ) : Type 0 where
  pub whole : take z b5 ≡ take at b0 ++ (front ++ (digits ++ back))
  pub low : at ≤ f
  pub last : n ≤ z
  pub before : take (f - at) (drop at b5) ≡ front
  pub behind : take (z - n) (drop n b5) ≡ back

pub line_parted : (e : ℕ) (b4 back end : List ℕ) {at f n z : ℕ} {b0 b5 front digits : List ℕ}
    → take f b4 ≡ take at b0 ++ front → take n b4 ≡ take f b4 ++ digits → take e b4 ≡ take n b4 ++ back → take z b5 ≡ take e b4 ++ end
    → at ≤ length b0 → f ≤ n → n ≤ e → e ≤ length b4 → Opening at f n z b0 b5 front digits (back ++ end)
line_parted e b4 back end {at} {f} {n} {z} {b0} {b5} {front} {digits} one two three four inside fn ne ine =
    let low : at ≤ f = rises b0 b4 front one inside in
    let ez : e ≤ z = rises b4 b5 end four ine in
    let fe : f ≤ e = omega (arith, fn, ne) in
    let nz : n ≤ z = omega (arith, ne, ez) in
    let inn : n ≤ length b4 = omega (arith, ne, ine) in
    let behind : take z b5 ≡ take n b4 ++ (back ++ end) = four ∙ ap (λ (xs : List ℕ). xs ++ end) three ∙ append_assoc (take n b4) back end in
    record {
      whole = behind ∙ ap (λ (xs : List ℕ). xs ++ (back ++ end)) (two ∙ ap (λ (xs : List ℕ). xs ++ digits) one)
          ∙ append_assoc (take at b0 ++ front) digits (back ++ end) ∙ append_assoc (take at b0) front (digits ++ (back ++ end));
      low = low;
      last = nz;
      before = piece_of at f b0 b5 front inside low (front_kept f e z b4 b5 end fe ez ine four ∙ one);
      behind = piece_of n z b4 b5 (back ++ end) inn nz behind;
    }

-- the run that begins with a row whose line was written in parts
pub run_begun : (kept : Line) (row last : List (Option Span)) (k : ℕ) (doc : List ℕ) (b : Span) (line : Option Open) (before behind : List ℕ)
    → length row ≡ length kept.heads → slice_get row k ≡ Some (Some b) → last ≡ row
    → IfSome line (λ o. o ≡ open_with before behind) → before ≡ before_end doc kept.heads row k b.start → behind ≡ behind_end doc kept.heads row k ++ line_end kept.style → IsRun kept last k line
run_begun kept row last k doc b line before behind len is copy made front back =
    let law = (text_opened kept row k doc b len is).1 in
    let begun : IsRun kept row k line = record {
      lengths = len;
      opened = IfSome_then line made (λ o e. subst (λ (p : Open). IsOpenAt kept row k [] p) (sym (e ∙ ap₂ open_with front back)) law);
    } in
    subst (λ (r : List (Option Span)). IsRun kept r k line) (sym copy) begun

-- what is written back over all elements of a vector
pub written_back : {X : Type 0} (n : ℕ) (new old : List X) → n ≡ length new → take n (new ++ drop (length new) old) ≡ new
written_back n new old e = ap (λ k. take k (new ++ drop (length new) old)) e ∙ take-append_seam new (drop (length new) old)
