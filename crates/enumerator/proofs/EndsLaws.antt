-- Rows that differ in the end of one span, one after another.
use Rattle.std.proofs.Common.{◌≡◌, ℕ, ◌+◌, ◌-◌, ◌*◌, ◌^◌, ◌<◌, ◌≤◌, List, [], ◌∷◌, ◌++◌, map, length, get_or, set, take, Option, Some, None, refl, sym, ap, ap₂, ◌∙◌, subst, append_assoc, arith}
use Rattle.std.specs.Int.Bits.{bit_or}
use Rattle.std.proofs.lemmas.List.{length-take, map-append, take_more_set}
use Rattle.node_arena.specs.declared.row.Entry.{Entry}
use Rattle.node_arena.specs.declared.row.Entry.TheVariants.{Done, Row}
use Rattle.node_arena.specs.Rows.{NamedRow, rows, row_at}
use Rattle.output_graph.specs.RowLists.{AreMade}
use Rattle.output_graph.proofs.RowLaws.{rows_done}
use Rattle.span_core.specs.declared.span.Span.{Span}
use Rattle.span_core.specs.Block.{closing_bit}
use Rattle.enumerator.specs.declared.stack.Waiting.{Waiting}
use Rattle.enumerator.specs.Enumeration.{SpanRow}
use Rattle.enumerator.specs.Rows.{Positions, put, row_of, row_under, span_between, waiting_rows}
use Rattle.enumerator.specs.Waiting.{frame, IsNew, IsWaiting, AreBelow, AreStacked, waited}
use Rattle.enumerator.specs.Ends.{AreTaken, AreEnds, AreFrom, last_of, row_to, rows_to, span_to}
use Rattle.enumerator.proofs.Walk.{cell_rows_under, cell_new, next_waits}
use Rattle.enumerator.proofs.RowLaws.{below_few, rows_agree, put_kept, waiting_kept, waited_rows, waited_stacked}
use Rattle.enumerator.proofs.Ending.{span_ended_any, span_there, row_ended}

last_push : {A : Type 0} (x y : A) (xs : List A) → last_of x (xs ++ y ∷ []) ≡ y
last_push x y [] = refl
last_push x y (z ∷ xs) = last_push z y xs

from_push : (start at : ℕ) (xs : List ℕ) → AreFrom start xs → start ≤ at → AreFrom start (xs ++ at ∷ [])
from_push start at [] from le = (le, tt)
from_push start at (x ∷ xs) from le = (from.0, from_push start at xs from.1 le)

-- one cell more
pub taken_more : (store : List NamedRow) (made : AreMade store) (v m marks start : ℕ) (entry : Entry) (ends : List ℕ) (n last k : ℕ) (r : NamedRow)
    → AreTaken store v m marks start entry (take n ends) last (Row k) → row_at store k ≡ Some r → r.child ≡ Done → r.marks ≡ marks → start ≤ r.at → n < length ends
    → AreTaken store v m marks start entry (take (n + 1) (set ends n r.at)) r.at r.next
taken_more store made v m marks start entry ends n last k r t is done same le lt =
    let waits : IsWaiting store v (frame m (Row k)) = t.waits (λ e. cc) in
    let row : Positions → ℕ → SpanRow = λ P at. row_of v (bit_or m marks) (put P (at, marks)) in
    let own : (P : Positions) → map (row_under v m P) (rows store (Row k)) ≡ row P r.at ∷ map (row_under v m P) (rows store r.next) =
    λ P. cell_rows_under store made v m k r is waits P
    ∙ ap (λ (e : Entry). map (row_under v (bit_or m r.marks) (put P (r.at, r.marks))) (rows store e) ++ map (row_under v m P) (rows store r.next)) done
    ∙ ap (λ ws. map (row_under v (bit_or m r.marks) (put P (r.at, r.marks))) ws ++ map (row_under v m P) (rows store r.next)) (rows_done store)
    ∙ ap (λ n. row_of v (bit_or m n) (put P (r.at, n)) ∷ map (row_under v m P) (rows store r.next)) same in
    rw (take_more_set ends n r.at lt) (record {
      rows_are = λ P. t.rows_are P ∙ ap (λ xs. map (row P) (take n ends) ++ xs) (own P)
          ∙ sym (append_assoc (map (row P) (take n ends)) (row P r.at ∷ []) (map (row_under v m P) (rows store r.next)))
          ∙ ap (λ xs. xs ++ map (row_under v m P) (rows store r.next)) (sym (map-append (row P) (take n ends) (r.at ∷ [])));
      waits = next_waits store made v m k r is waits;
      from = from_push start r.at (take n ends) t.from le;
      last_is = last_push start r.at (take n ends);
    })

-- ---- what waits, once the first rows of what is on top are taken

later_kept : (store : List NamedRow) (v m : ℕ) (x : ℕ × ℕ) (P : Positions) (later : Entry) (fs : List Waiting) → IsNew v m x.1 → AreBelow store v m fs
    → map (row_under v m P) (rows store later) ++ waiting_rows store v P fs ≡ waiting_rows store v (put P x) (waited m later fs)
later_kept store v m x P later fs new below =
    ap₂ (λ (xs ys : List SpanRow). xs ++ ys)
    (rows_agree store v P (put P x) (frame m later) (put_kept v m m x P new (λ bit h. h)))
    (waiting_kept store v m m x P fs new (λ bit h. h) below)
    ∙ sym (waited_rows store v m (put P x) later fs)

module _ (store : List NamedRow) (v : ℕ) (P : Positions) (all fs : List Waiting) (f : Waiting) (top : all ≡ f ∷ fs) (stacked : AreStacked store v all)
    (made : AreMade store) (k : ℕ) (r : NamedRow) (is : row_at store k ≡ Some r) (here : f.entry ≡ Row k)
    (start : ℕ) (ends : List ℕ) (last : ℕ) (later : Entry) (t : AreTaken store v f.settled r.marks start (Row k) ends last later) where
  abbrev both : IsWaiting store v f × AreBelow store v f.settled fs
  both = subst (AreStacked store v) top stacked

  abbrev new_block : IsNew v f.settled r.marks
  new_block = cell_new store made v f.settled k r is (rw (← here) both.0)

  abbrev row_at_end : ℕ → SpanRow
  row_at_end at = row_of v (bit_or f.settled r.marks) (put P (at, r.marks))

  pub top_taken : waiting_rows store v P all ≡ map row_at_end ends ++ waiting_rows store v (put P (last, r.marks)) (waited f.settled later fs)
  top_taken =
      ap (waiting_rows store v P) top
      ∙ ap (λ (e : Entry). map (row_under v f.settled P) (rows store e) ++ waiting_rows store v P fs) here
      ∙ ap (λ xs. xs ++ waiting_rows store v P fs) (t.rows_are P)
      ∙ append_assoc (map row_at_end ends) (map (row_under v f.settled P) (rows store later)) (waiting_rows store v P fs)
      ∙ ap (λ xs. map row_at_end ends ++ xs) (later_kept store v f.settled (last, r.marks) P later fs new_block both.1)

  pub taken_stacked : AreStacked store v (waited f.settled later fs)
  taken_stacked = waited_stacked store v f.settled later fs both.1 t.waits

-- a row with another end
pub row_ended_to : (v n h marks : ℕ) (P : Positions) (row : SpanRow) (s : Span) → h < v → marks ≡ 2 ^ (2 * h) → row ≡ row_of v n P → get_or row (v - 1 - h) None ≡ Some s
    → (at : ℕ) → row_of v n (put P (at, marks)) ≡ row_to row (v - 1 - h) at
row_ended_to v n h marks P row s l alone is there at =
    let k : ℕ = v - 1 - h in
    let lk : k < v = omega (arith, l) in
    let bit_is : 2 * h ≡ closing_bit v k = omega (arith, l) in
    let marks_is : marks ≡ 2 ^ closing_bit v k = alone ∙ ap (λ n. 2 ^ n) bit_is in
    let was = span_there v n k at P lk row s is there in
    let now = span_ended_any v n k at P lk s was in
    ap (λ x. row_of v n (put P (at, x))) marks_is
    ∙ sym (row_ended v n k at P lk row (span_between s.start at) is now)
    ∙ ap (λ (o : Option Span). set row k (span_to o at)) (sym there)

pub rows_ended_to : (v n h marks : ℕ) (P : Positions) (row : SpanRow) (s : Span) → h < v → marks ≡ 2 ^ (2 * h) → row ≡ row_of v n P → get_or row (v - 1 - h) None ≡ Some s
    → (ends : List ℕ) → map (λ at. row_of v n (put P (at, marks))) ends ≡ rows_to row (v - 1 - h) ends
rows_ended_to v n h marks P row s l alone is there ends =
    let same : (λ at. row_of v n (put P (at, marks))) ≡ row_to row (v - 1 - h) = λ i at. row_ended_to v n h marks P row s l alone is there at i in
    ap (λ (f : ℕ → SpanRow). map f ends) same

-- the last of them
last_mapped : (row : SpanRow) (k : ℕ) (x : ℕ) (ends : List ℕ) → last_of (row_to row k x) (map (row_to row k) ends) ≡ row_to row k (last_of x ends)
last_mapped row k x [] = refl
last_mapped row k x (y ∷ ends) = last_mapped row k y ends

pub last_ended : (row : SpanRow) (k start last : ℕ) (ends : List ℕ) → 0 < length ends → last_of start ends ≡ last → last_of row (rows_to row k ends) ≡ row_to row k last
last_ended row k start last [] l e = absurd (omega (arith, l))
last_ended row k start last (x ∷ ends) l e = last_mapped row k x ends ∙ ap (row_to row k) e

-- so few wait that one more has room
pub popped_few : (store : List NamedRow) (v : ℕ) (all fs : List Waiting) (f : Waiting) → all ≡ f ∷ fs → AreStacked store v all → length fs ≤ 2 * v
popped_few store v all fs f top stacked =
    let t : IsWaiting store v f × AreBelow store v f.settled fs = subst (AreStacked store v) top stacked in
    let a = below_few store v f.settled fs t.1 in
    omega arith

pub long_taken : (n : ℕ) (xs : List ℕ) → 0 < n → n ≤ length xs → 0 < length (take n xs)
long_taken n xs some le = let e = length-take n xs in omega arith

pub are_ends : (row : SpanRow) (k start : ℕ) (s : Span) (ends : List ℕ) → get_or row k None ≡ Some s → s.start ≡ start → AreFrom start ends → AreEnds row k ends
are_ends row k start s [] there starts from = tt
are_ends row k start s (x ∷ ends) there starts from = (s, there, subst (λ n. AreFrom n (x ∷ ends)) (sym starts) from)
