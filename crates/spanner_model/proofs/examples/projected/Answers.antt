use Rattle.std.proofs.Common.{◌≡◌, ℕ, List, [], ◌∷◌, refl, inl, inr, subst, arith}
use Rattle.std.specs.Prelude.{codes}
use Rattle.span_core.specs.Lists.{Has}
use Rattle.spanner_model.specs.Tree.{cat, cat_end, cat_all, cap}
use Rattle.spanner_model.specs.Captures.{VarName, Captures, span_of}
use Rattle.spanner_model.specs.Fit.{Fit}
use Rattle.spanner_model.specs.Answer.{IsRestriction}
use Rattle.spanner_model.specs.Examples.{a, b, star, x, y, span}
use Rattle.spanner_model.proofs.AnswerLaws.{span_of-absent}
use Rattle.spanner_model.proofs.ExampleLaws.{fits_byte, fits_end, fits_cat, fits_cap, no_times, fits_rep, apart_none, apart_xy, x_alone}
use Rattle.spanner_model.proofs.examples.projected.Goals as goal

abbrev d : List ℕ
d = codes "abb"

abbrev one_x : Captures
one_x = (x, span 0 1) ∷ []

abbrev one_y : Captures
one_y = (y, span 1 0) ∷ []

abbrev both : Captures
both = (x, span 0 1) ∷ ((y, span 1 0) ∷ [])

fit : Fit (cat_all (cap x a ∷ (cap y (star b) ∷ []))) d 0 1 both
fit =
    let right = fits_cat (cap y (star b)) cat_end d 1 1 1 one_y []
    (fits_cap y (star b) d 1 0 [] (fits_rep b 0 0 d 1 1 (omega arith) (no_times (Fit b d) 1)) (λ n. n)) (fits_end d 1) (apart_none one_y) in
    fits_cat (cap x a) (cat (cap y (star b)) cat_end) d 0 1 1 one_x one_y (fits_cap x a d 0 1 [] (fits_byte 97 d 0 refl) (λ n. n)) right (apart_xy (span 0 1) (span 1 0))

kept : IsRestriction (Has (x ∷ [])) (span_of both) (span_of one_x)
kept z = (
  λ h. elim h as (λ _. span_of one_x z ≡ span_of both z) [ inl e ↦ subst (λ (w : VarName). span_of one_x w ≡ span_of both w) e refl | inr n ↦ absurd n ],
  λ out. span_of-absent one_x z (λ h. out (inl (x_alone (span 0 1) z h))),
)

pub returns : goal.returns
returns args = (span_of one_x, (span_of both, (0, 1, both, fit, omega arith, λ t. absurd (cc), λ t. absurd (cc), λ z. refl), kept), refl)
