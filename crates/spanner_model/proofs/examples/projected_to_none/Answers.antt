use Rattle.std.proofs.Common.{ℕ, List, [], ◌∷◌, None, refl, arith}
use Rattle.std.specs.Prelude.{codes}
use Rattle.spanner_model.specs.Captures.{Captures, span_of}
use Rattle.spanner_model.specs.Examples.{a, x, span}
use Rattle.spanner_model.proofs.ExampleLaws.{fits_byte, fits_cap}
use Rattle.spanner_model.proofs.examples.projected_to_none.Goals as goal

abbrev d : List ℕ
d = codes "aa"

abbrev one_x : Captures
one_x = (x, span 0 1) ∷ []

pub returns : goal.returns
returns args = (
  λ z. None,
  (
    span_of one_x,
    (
      0,
      1,
      one_x,
      fits_cap x a d 0 1 [] (fits_byte 97 d 0 refl) (λ n. n),
      omega arith,
      λ t. absurd (cc),
      λ t. absurd (cc),
      λ z. refl,
    ),
    λ z. (λ n. absurd n, λ out. refl),
  ),
  refl,
)
