-- Several rows are taken at once.
use Rattle.std.proofs.Common.{◌≡◌, ℕ, zero, suc, ◌-◌, ◌≤◌, List, [], ◌∷◌, ◌++◌, length, take, ap, ◌∙◌, arith}
use Rattle.spanner_model.specs.Answers.{SpanRow}

take_part : (r : ℕ) (xs more : List SpanRow) → length xs ≤ r → take r (xs ++ more) ≡ xs ++ take (r - length xs) more
take_part r [] more l = let e : r ≡ r - 0 = omega arith in ap (λ k. take k more) e
take_part zero (x ∷ xs) more l = absurd (omega (arith, l))
take_part (suc r) (x ∷ xs) more l =
    let e : r - length xs ≡ suc r - suc (length xs) = omega arith in
    ap (λ (ys : List SpanRow). x ∷ ys) (take_part r xs more (omega (arith, l)) ∙ ap (λ k. xs ++ take k more) e)

pub several_taken : (r count : ℕ) → count ≤ r → (rows more : List SpanRow) → length rows ≡ count → take r (rows ++ more) ≡ rows ++ take (r - count) more
several_taken r count le rows more is =
    take_part r rows more (omega (arith, le, is)) ∙ ap (λ k. rows ++ take (r - k) more) is
