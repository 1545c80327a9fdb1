-- Rows that differ from one row in the end of one span.
use Rattle.std.proofs.Common.{◌≡◌, ℕ, zero, suc, ◌≤◌, List, [], ◌∷◌, ◌++◌, map, get_or, set, slice_get, Option, Some, None, inl, inr, refl, sym, ap, ◌∙◌, subst, arith, get_or-set_same}
use Rattle.std.proofs.lemmas.List.{set-set}
use Rattle.std.proofs.lemmas.Option.{slice_get_within}
use Rattle.span_core.specs.declared.span.Span.{Span}
use Rattle.span_core.specs.Lists.{Has}
use Rattle.span_core.proofs.HasLaws.{Has-map, Has-slice_get}
use Rattle.spanner_model.specs.Answers.{SpanRow, page_end}
use Rattle.enumerator.specs.Ends.{AreEnds, AreFrom, last_of, row_to, rows_to, span_to}
use Rattle.enumerator.specs.Rows.{span_between}
use Rattle.enumerator.proofs.EndsLaws.{last_ended}
use Rattle.spanner_engine.specs.Fitting.{AllFit}
use Rattle.rematch_program.proofs.EndLines.{row_to_is}

pub get_of : (row : SpanRow) (k : ℕ) (s : Span) → get_or row k None ≡ Some s → slice_get row k ≡ Some (Some s)
get_of [] k s e = absurd (cc)
get_of (x ∷ row) zero s e = ap (λ (o : Option Span). Some o) e
get_of (x ∷ row) (suc k) s e = get_of row k s e

from_last : (start at : ℕ) (ends : List ℕ) → AreFrom start (at ∷ ends) → start ≤ last_of at ends
from_last start at [] from = from.0
from_last start at (next ∷ ends) from = from_last start next ends from.1

from_has : (start : ℕ) (ends : List ℕ) (at : ℕ) → AreFrom start ends → Has ends at → start ≤ at
from_has start [] at from h = absurd h
from_has start (x ∷ ends) at from (inl e) = omega (arith, e, from.0)
from_has start (x ∷ ends) at from (inr h) = from_has start ends at from.1 h

module _ (row : SpanRow) (k : ℕ) (s : Span) (there : get_or row k None ≡ Some s) (at : ℕ) (le : s.start ≤ at) where
  -- the span with another end
  abbrev ended : Span
  ended = record { start = s.start; end = at; ordered = le }

  row_ended : row_to row k at ≡ set row k (Some ended)
  row_ended = row_to_is row k s (get_of row k s there) ended at refl refl

  there_ended : get_or (row_to row k at) k None ≡ Some ended
  there_ended =
      ap (λ (r : SpanRow). get_or r k None) row_ended
      ∙ get_or-set_same row k (Some ended) None (slice_get_within row k (Some s) (get_of row k s there))

  -- of a row with another end the row with a third one is that of the row
  again : (next : ℕ) → row_to (row_to row k at) k next ≡ row_to row k next
  again next =
      ap (λ (o : Option Span). set (row_to row k at) k (span_to o next)) there_ended
      ∙ ap (λ (r : SpanRow). set r k (span_between s.start next)) row_ended
      ∙ set-set row k (Some ended) (span_between s.start next)
      ∙ ap (λ (o : Option Span). set row k (span_to o next)) (sym there)

last_is : (row : SpanRow) (k at : ℕ) (ends : List ℕ) → last_of row (rows_to row k (at ∷ ends)) ≡ row_to row k (last_of at ends)
last_is row k at ends = last_ended row k at (last_of at ends) (at ∷ ends) (omega arith) refl

-- the rows with these ends are those of the last of them
pub rows_again : (row : SpanRow) (k : ℕ) (ends : List ℕ) → AreEnds row k ends → rows_to (last_of row (rows_to row k ends)) k ends ≡ rows_to row k ends
rows_again row k [] are = refl
rows_again row k (at ∷ ends) (s, there, from) =
    let same : row_to (row_to row k (last_of at ends)) k ≡ row_to row k = λ i next. again row k s there (last_of at ends) (from_last s.start at ends from) next i in
    ap (λ (r : SpanRow). rows_to r k (at ∷ ends)) (last_is row k at ends) ∙ ap (λ (f : ℕ → SpanRow). map f (at ∷ ends)) same

pub ends_again : (row : SpanRow) (k : ℕ) (ends : List ℕ) → AreEnds row k ends → AreEnds (last_of row (rows_to row k ends)) k ends
ends_again row k [] are = tt
ends_again row k (at ∷ ends) (s, there, from) =
    let last = last_of at ends in
    let le = from_last s.start at ends from in
    subst (λ (r : SpanRow). AreEnds r k (at ∷ ends)) (sym (last_is row k at ends)) (ended row k s there last le, there_ended row k s there last le, from)

-- where the rows fit a document, no end stands past it
pub ends_fit : (width n : ℕ) (row : SpanRow) (k : ℕ) (ends : List ℕ) → AreEnds row k ends → AllFit width n (rows_to row k ends) → (at : ℕ) → Has ends at → at ≤ n
ends_fit width n row k [] are fit at h = absurd h
ends_fit width n row k (x ∷ ends) (s, there, from) fit at h =
    let le = from_has s.start (x ∷ ends) at from h in
    let fits = fit (row_to row k at) (Has-map (row_to row k) (x ∷ ends) at h) in
    let b = ended row k s there at le in
    fits.inside b (Has-slice_get (row_to row k at) k (Some b) (get_of (row_to row k at) k b (there_ended row k s there at le)))

-- ---- the last of some rows

-- what holds of a row and of those behind it holds of the last
pub of_last : (P : SpanRow → Type 0) (row : SpanRow) (rows : List SpanRow) → P row → ((r : SpanRow) → Has rows r → P r) → P (last_of row rows)
of_last P row [] here all = here
of_last P row (x ∷ rows) here all = of_last P x rows (all x (inl refl)) (λ r h. all r (inr h))

pub last_append : (row : SpanRow) (xs ys : List SpanRow) → last_of (last_of row xs) ys ≡ last_of row (xs ++ ys)
last_append row [] ys = refl
last_append row (x ∷ xs) ys = last_append x xs ys

pub end_append : (row : SpanRow) (xs ys : List SpanRow) → page_end (xs ++ ys) (Some row) ≡ page_end ys (Some (last_of row xs))
end_append row [] ys = refl
end_append row (x ∷ xs) ys = end_append x xs ys
