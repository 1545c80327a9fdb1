-- Spans that end past the document.
use Rattle.std.proofs.Common.{◌≡◌, ℕ, ◌<◌, ◌≤◌, length, Some, arith}
use Rattle.std.specs.Prelude.{slice_get}
use Rattle.span_core.specs.declared.span.Span.{Span}
use Rattle.span_core.proofs.HasLaws.{Has-slice_get, place_of-Has}
use Rattle.spanner_model.specs.Answers.{SpanRow}
use Rattle.spanner_engine.specs.Begun.{EndsPast}

-- none of the first m spans ends past n
abbrev pub AreAtomsWithin : ℕ → ℕ → SpanRow → Type 0
AreAtomsWithin n m row = (k : ℕ) (s : Span) → k < m → slice_get row k ≡ Some (Some s) → s.end ≤ n

pub past_here : (n k : ℕ) (row : SpanRow) (s : Span) → slice_get row k ≡ Some (Some s) → n < s.end → EndsPast n row
past_here n k row s at past = (s, Has-slice_get row k (Some s) at, past)

pub none_past : (n : ℕ) (row : SpanRow) → AreAtomsWithin n (length row) row → EndsPast n row → ⊥
none_past n row within past =
    let place = place_of-Has row (Some past.0) past.1 in
    let low : past.0.end ≤ n = within place.0 past.0 place.1 place.2 in
    let high : n < past.0.end = past.2 in
    omega (arith, low, high)
