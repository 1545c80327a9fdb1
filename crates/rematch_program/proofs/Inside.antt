-- The rows of answers fit the page of their document.
use Rattle.std.proofs.Common.{◌≡◌, ℕ, ◌≤◌, List, [], ◌∷◌, length, map, Option, Some, None, true, refl, arith}
use Rattle.std.specs.List.{list_all}
use Rattle.std.proofs.lemmas.List.{length-map}
use Rattle.span_core.specs.declared.span.Span.{Span}
use Rattle.span_core.specs.Lists.{Has}
use Rattle.spanner_model.specs.Captures.{VarName, Mapping, row_of}
use Rattle.spanner_model.specs.Expression.{QueryTree}
use Rattle.spanner_model.specs.Answers.{SpanRow, AreAnswers}
use Rattle.spanner_model.proofs.Ends.{EndsBy, query_ends}
use Rattle.cell_text.specs.Cells.{ends_by}
use Rattle.spanner_engine.specs.Fitting.{FitsRow}
use Rattle.cell_text.proofs.EndLaws.{all_inside}
use Rattle.rematch_program.specs.Pages.{FitsPage}

pub span_inside : (n : ℕ) (o : Option Span) → ((s : Span) → o ≡ Some s → s.end ≤ n) → ends_by n o ≡ true
span_inside n None h = refl
span_inside n (Some s) h = let le = h s refl in grind arith

row_inside : (n : ℕ) (names : List VarName) (m : Mapping) → EndsBy n m → list_all (ends_by n) (map m names) ≡ true
row_inside n [] m h = refl
row_inside n (x ∷ names) m h =
    let here = span_inside n (m x) (h x) in
    let later = row_inside n names m h in
    simp (here, later) refl

pub answers_fit : (q : QueryTree) (d : List ℕ) (names : List VarName) (rows : List SpanRow) → AreAnswers q d names rows → (row : SpanRow) → Has rows row → FitsPage (length names) (length d) row
answers_fit q d names rows a row h =
    let g = a.each_answers row h in
    let fits : FitsPage (length names) (length d) (row_of names g.0) = record { lengths = length-map names g.0; inside = row_inside (length d) names g.0 (query_ends q d g.0 g.1) } in
    rw g.2 fits

pub fits_of : (width n : ℕ) (row : SpanRow) → FitsRow width n row → FitsPage width n row
fits_of width n row f = record { lengths = f.lengths; inside = all_inside n row f.inside }
