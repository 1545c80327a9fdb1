use Rattle.std.proofs.Common.{◌≡◌, ℕ, true, List, [], ◌∷◌, Some, refl, sym, ap, ◌∙◌, arith}
use Rattle.std.specs.Prelude.{codes}
use Rattle.span_core.specs.declared.span.Span.{Span}
use Rattle.spanner_model.specs.Tree.{cap}
use Rattle.spanner_model.specs.Captures.{Captures, span_of}
use Rattle.spanner_model.specs.Fit.{Fit, Times}
use Rattle.spanner_model.specs.Expression.{atom, tied}
use Rattle.spanner_model.specs.Answers.{IsAnswerRow}
use Rattle.spanner_model.specs.Examples.{a, star, x, span, query, row1}
use Rattle.spanner_model.proofs.ExampleLaws.{fits_byte, fits_cap, no_times, more_times, fits_rep}
use Rattle.spanner_model.proofs.examples.tied.Goals as goal

abbrev d : List ℕ
d = codes "aa"

abbrev all_x : Captures
all_x = (x, span 0 2) ∷ []

run : Times (Fit a d) 2 0 2 []
run = more_times (Fit a d) 1 0 1 2 (fits_byte 97 d 0 refl) (more_times (Fit a d) 0 1 2 2 (fits_byte 97 d 1 refl) (no_times (Fit a d) 2))

fit : Fit (cap x (star a)) d 0 2 all_x
fit = fits_cap x (star a) d 0 2 [] (fits_rep a 0 2 d 0 2 (omega arith) run) (λ n. n)

no_less : IsAnswerRow (query (atom (tied (cap x (star a))))) d (x ∷ []) (row1 (span 0 1)) → ⊥
no_less (m, h, e) =
    let fits = h.3 in
    let ends : h.1 ≡ 2 = h.6 refl in
    let is : m x ≡ Some fits.0 = h.7 x ∙ ap (λ (k : Captures). span_of k x) fits.6 in
    let row : m x ≡ Some (span 0 1) = (let f : row1 (span 0 1) ≡ m x ∷ [] = e in cc) in
    let same : fits.0 ≡ span 0 1 = (let f : Some fits.0 ≡ Some (span 0 1) = sym is ∙ row in cc) in
    omega (arith, ends, fits.3, ap (λ (s : Span). s.end) same)

pub returns : goal.returns
returns args = ((span_of all_x, (0, 2, all_x, fit, omega arith, λ t. refl, λ t. refl, λ z. refl), refl), no_less)
