-- The lines of a row with each of some ends of one span, row by row.
use Rattle.std.proofs.Common.{◌≡◌, ℕ, zero, suc, ◌+◌, ◌*◌, ◌<◌, ◌≤◌, true, false, List, [], ◌∷◌, ◌++◌, length, take, drop, get_or, set, slice_get, Option, Some, None, refl, sym, ap, ◌∙◌, arith, length-set}
use Rattle.std.specs.List.{flat_map, list_all}
use Rattle.std.proofs.lemmas.List.{drop_more}
use Rattle.std.proofs.lemmas.List.Concat.{flat_map-cons}
use Rattle.std.proofs.lemmas.List.Elements.{All-set}
use Rattle.std.proofs.lemmas.List.Sums.{AllPass-from_list_all, list_all-from_AllPass}
use Rattle.std.proofs.lemmas.Option.{get_or_from_slice_get}
use Rattle.span_core.specs.declared.span.Span.{Span}
use Rattle.spanner_model.specs.Answers.{SpanRow}
use Rattle.enumerator.specs.Ends.{AreFrom, row_to, span_to}
use Rattle.enumerator.proofs.Spans.{span_between_is}
use Rattle.cell_text.specs.Cells.{ends_by}
use Rattle.row_writer.specs.Kept.{Head, line_room}
use Rattle.row_writer.proofs.LineParts.{room_bare}

-- no end stands before the start
pub end_from : (start : ℕ) (ends : List ℕ) (i : ℕ) → AreFrom start ends → i < length ends → start ≤ get_or ends i 0
end_from start [] i from l = absurd (omega (arith, l))
end_from start (at ∷ ends) zero from l = from.0
end_from start (at ∷ ends) (suc i) from l = end_from start ends i from.1 (omega (arith, l))

-- the line of one end is the first of those that are left
pub ends_next : (text : ℕ → List ℕ) (ends : List ℕ) (i : ℕ) → i < length ends → flat_map text (drop i ends) ≡ text (get_or ends i 0) ++ flat_map text (drop (i + 1) ends)
ends_next text ends i l = ap (flat_map text) (drop_more ends i 0 l) ∙ flat_map-cons text (get_or ends i 0) (drop (i + 1) ends)

pub take_set : (n : ℕ) (row : SpanRow) (k : ℕ) (x : Option Span) → take n (set row k x) ≡ set (take n row) k x
take_set zero row k x = refl
take_set (suc n) [] k x = refl
take_set (suc n) (y ∷ row) zero x = refl
take_set (suc n) (y ∷ row) (suc k) x = ap (λ (xs : SpanRow). y ∷ xs) (take_set n row k x)

ends_within : (n : ℕ) (s : Span) → s.end ≤ n → ends_by n (Some s) ≡ true
ends_within n s le = grind arith

module _ (row : SpanRow) (k : ℕ) (s : Span) (there : slice_get row k ≡ Some (Some s)) (b : Span) (at : ℕ) (start : b.start ≡ s.start) (end : b.end ≡ at) where
  -- the row with another end has another span
  pub row_to_is : row_to row k at ≡ set row k (Some b)
  row_to_is =
      ap (λ (x : Option Span). set row k (span_to x at)) (get_or_from_slice_get row k (Some s) None there)
      ∙ ap (λ (x : Option Span). set row k x) (span_between_is b s.start at (sym start) (sym end))

  -- it is the front of a longer row
  pub front_to : (wide : SpanRow) → ((x : Option Span) → set (take (length row) wide) k x ≡ set row k x) → take (length row) (set wide k (Some b)) ≡ row_to row k at
  front_to wide same = take_set (length row) wide k (Some b) ∙ same (Some b) ∙ sym row_to_is

  pub inside_to : (n : ℕ) → at ≤ n → list_all (ends_by n) row ≡ true → list_all (ends_by n) (row_to row k at) ≡ true
  inside_to n le all =
      ap (list_all (ends_by n)) row_to_is
      ∙ list_all-from_AllPass (ends_by n) (set row k (Some b))
      (All-set (λ x. ends_by n x ≡ true) row k (Some b) (ends_within n b (omega (arith, end, le))) (AllPass-from_list_all (ends_by n) row all))

-- it takes the same room
pub room_to : (heads : List Head) (row : SpanRow) (k at : ℕ) → length row ≡ length heads → line_room false heads (row_to row k at) ≡ line_room false heads row
room_to heads row k at e =
    let same : length (row_to row k at) ≡ length row = length-set row k (span_to (get_or row k None) at) in
    room_bare heads (row_to row k at) (same ∙ e) ∙ ap (λ (n : ℕ). 64 * n + 64) same ∙ sym (room_bare heads row e)
