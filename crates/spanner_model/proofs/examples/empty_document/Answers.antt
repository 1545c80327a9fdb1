use Rattle.std.proofs.Common.{◌≡◌, [], ◌∷◌, Some, inl, inr, sym, ap, ◌∙◌, subst, arith}
use Rattle.span_core.specs.OrderLaws.{span_eq}
use Rattle.spanner_model.specs.Tree.{cap}
use Rattle.spanner_model.specs.Captures.{Captures, span_of}
use Rattle.spanner_model.specs.Fit.{Fit}
use Rattle.spanner_model.specs.Expression.{QueryTree}
use Rattle.spanner_model.specs.Answers.{SpanRow, IsAnswerRow}
use Rattle.spanner_model.specs.Examples.{a, star, x, span, free, query, row1}
use Rattle.spanner_model.proofs.FitLaws.{fit_le}
use Rattle.spanner_model.proofs.ExampleLaws.{fits_cap, no_times, fits_rep, answers_free}
use Rattle.spanner_model.proofs.examples.empty_document.Goals as goal

abbrev q : QueryTree
q = query (free (cap x (star a)))

here : IsAnswerRow q [] (x ∷ []) (row1 (span 0 0))
here = answers_free (cap x (star a)) [] 0 0 ((x, span 0 0) ∷ []) (x ∷ []) (fits_cap x (star a) [] 0 0 [] (fits_rep a 0 0 [] 0 0 (omega arith) (no_times (Fit a []) 0)) (λ n. n)) (omega arith)

alone : (row : SpanRow) → IsAnswerRow q [] (x ∷ []) row → row ≡ row1 (span 0 0)
alone row (m, h, e) =
    let fits = h.3 in
    let starts : fits.0.start ≡ 0 = omega (arith, fits.2, h.4, fit_le (cap x (star a)) [] h.0 h.1 h.2 h.3) in
    let ends : fits.0.end ≡ 0 = omega (arith, fits.3, h.4) in
    let same : fits.0 ≡ span 0 0 = span_eq fits.0 (span 0 0) starts ends in
    let is : m x ≡ Some fits.0 = h.7 x ∙ ap (λ (k : Captures). span_of k x) fits.6 in
    e ∙ ap (λ s. s ∷ []) (is ∙ ap Some same)

pub returns : goal.returns
returns args = record {
  in_order = (tt, tt);
  each_answers = λ row h. elim h as (λ _. IsAnswerRow q [] (x ∷ []) row) [ inl e ↦ subst (IsAnswerRow q [] (x ∷ [])) e here | inr n ↦ absurd n ];
  all_there = λ row h. inl (sym (alone row h));
}
