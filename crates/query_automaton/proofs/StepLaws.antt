-- How many steps compiling takes.
use Rattle.std.proofs.Common.{◌≡◌, ℕ, zero, suc, ◌+◌, ◌*◌, ◌≤◌, List, [], ◌∷◌, ◌++◌, length, take, Some, inl, inr, ap, arith, ◌∙◌}
use Rattle.std.specs.Prelude.{slice_get}
use Rattle.std.proofs.lemmas.Nat.{mul-le}
use Rattle.span_core.specs.Lists.{Has}
use Rattle.spanner_model.specs.Captures.{VarName}
use Rattle.spanner_model.specs.Expression.{ExprTree}
use Rattle.spanner_model.proofs.TreeLaws.{take_at_more}
use Rattle.marked_automaton.specs.Automaton.{Marked, size}
use Rattle.query_automaton.specs.QueryAutomaton.{of_join, of_minus, of_union}
use Rattle.query_automaton.specs.Steps.{join_steps, minus_steps, minus_steps_of, steps_of, steps_of_lets, steps_within, union_steps}
use Rattle.query_automaton.proofs.Combining.{Operation, Union, Join, all_of}

-- ---- sums of steps

pub step_le : (before after a b n : ℕ) → before ≤ after + a → after ≤ b → a + b ≤ n → before ≤ n
step_le before after a b n first second few = omega (arith, first, second, few)

pub step_more : (before middle after a b n : ℕ) → before ≤ middle + a → middle ≤ after + b → a + b ≤ n → before ≤ after + n
step_more before middle after a b n first second few = omega (arith, first, second, few)

-- ---- steps of parts

module _ (most : ℕ) where
  pub steps_part : (o : Operation) (es : List ExprTree) (e : ExprTree) → Has es e → steps_of most + steps_within most e ≤ steps_within most (all_of o es)
  steps_part o [] e h = absurd h
  steps_part Union (x ∷ es) e (inl i) = omega (arith, ap (steps_within most) i)
  steps_part Join (x ∷ es) e (inl i) = omega (arith, ap (steps_within most) i)
  steps_part Union (x ∷ es) e (inr h) = omega (arith, steps_part Union es e h)
  steps_part Join (x ∷ es) e (inr h) = omega (arith, steps_part Join es e h)

  pub steps_first : (o : Operation) (k : ℕ) (es : List ExprTree) → steps_within most (all_of o (take k es)) ≤ steps_within most (all_of o es)
  steps_first Union zero es = omega arith
  steps_first Join zero es = omega arith
  steps_first Union (suc k) [] = omega arith
  steps_first Join (suc k) [] = omega arith
  steps_first Union (suc k) (x ∷ es) = omega (arith, steps_first Union k es)
  steps_first Join (suc k) (x ∷ es) = omega (arith, steps_first Join k es)

  steps_push : (o : Operation) (xs : List ExprTree) (y : ExprTree) → steps_within most (all_of o (xs ++ y ∷ [])) ≡ steps_within most (all_of o xs) + (steps_of most + steps_within most y)
  steps_push Union [] y = omega arith
  steps_push Join [] y = omega arith
  steps_push Union (x ∷ xs) y = omega (arith, steps_push Union xs y)
  steps_push Join (x ∷ xs) y = omega (arith, steps_push Join xs y)

  pub steps_more : (o : Operation) (es : List ExprTree) (k : ℕ) (y : ExprTree) → slice_get es k ≡ Some y →
      steps_within most (all_of o (take (k + 1) es)) ≡ steps_within most (all_of o (take k es)) + (steps_of most + steps_within most y)
  steps_more o es k y at = ap (λ (zs : List ExprTree). steps_within most (all_of o zs)) (take_at_more es k y at) ∙ steps_push o (take k es) y

  pub steps_next : (o : Operation) (es : List ExprTree) (k : ℕ) (y : ExprTree) → slice_get es k ≡ Some y →
      steps_within most (all_of o (take k es)) + (steps_of most + steps_within most y) ≤ steps_within most (all_of o es)
  steps_next o es k y at = omega (arith, steps_more o es k y at, steps_first o (k + 1) es)

-- ---- what an operation takes, where all is within a number

pub made_cost : (n most : ℕ) → n ≤ most → 64 * n ≤ steps_of most
made_cost n most le = omega (arith, le)

pub union_cost : (A B : Marked) (most : ℕ) → size B.graph ≤ most → size (of_union A B).graph ≤ most → union_steps A B ≤ steps_of most
union_cost A B most part both = sum (size B.graph) (size (of_union A B).graph) part both
  where
    sum : (b u : ℕ) → b ≤ most → u ≤ most → 64 * b + 64 * u ≤ steps_of most
    sum b u l m = omega (arith, l, m)

pub join_cost : (A B : Marked) (most : ℕ) → size A.graph ≤ most → size B.graph ≤ most → size (of_join A B).graph ≤ most → join_steps A B ≤ steps_of most
join_cost A B most one two both =
    sum A.graph.states B.graph.states (length A.graph.ways) (length B.graph.ways) (length A.graph.stops) (length B.graph.stops) (size (of_join A B).graph) one two both
  where
    sum : (s1 s2 w1 w2 e1 e2 j : ℕ) → s1 + w1 + e1 ≤ most → s2 + w2 + e2 ≤ most → j ≤ most → s1 + s2 + (3 * (w1 * w2) + e1 * e2) + 64 * j ≤ steps_of most
    sum s1 s2 w1 w2 e1 e2 j l m k = omega (arith, l, m, k, mul-le (w1 + e1) (w2 + e2) most most (omega (arith, l)) (omega (arith, m)))

pub minus_cost : (A B : Marked) (most : ℕ) → size A.graph ≤ most → size B.graph ≤ most → size (of_minus A B).graph ≤ most → minus_steps A B ≤ minus_steps_of most
minus_cost A B most one two both =
    let D = (of_minus A B).graph in
    sum A.graph.states B.graph.states (length B.graph.ways) (length A.graph.stops) (length B.graph.stops) D.states (length D.ways) (length D.stops)
    (omega (arith, one)) (omega (arith, one)) (omega (arith, two)) (omega (arith, both))
  where
    sums : (1 + most) * (26000 + 6500 * most) + most * (most * (1 + most)) + 100 * (1 + most) ≡ minus_steps_of most
    sums = omega arith

    parts : (t f d u : ℕ) → t ≤ 2 * most → f ≤ (1 + most) * (26000 + 6500 * most) → d ≤ most * (most * (1 + most)) → u ≤ most → t + (f + d) + 64 * u ≤ minus_steps_of most
    parts t f d u a b c g = omega (arith, a, b, c, g, sums)

    sum : (s1 s2 w2 e1 e2 s w e : ℕ) → s1 ≤ most → e1 ≤ most → s2 + w2 + e2 ≤ most → s + w + e ≤ most →
        s1 + s2 + ((1 + w) * (26000 + 6500 * s2 + 260 * w2) + s * (e1 * (1 + e2))) + 64 * (s + w + e) ≤ minus_steps_of most
    sum s1 s2 w2 e1 e2 s w e l k m n =
        let follow = mul-le (1 + w) (26000 + 6500 * s2 + 260 * w2) (1 + most) (26000 + 6500 * most) (omega (arith, n)) (omega (arith, m)) in
        let tried = mul-le e1 (1 + e2) most (1 + most) k (omega (arith, m)) in
        let ends = mul-le s (e1 * (1 + e2)) most (most * (1 + most)) (omega (arith, n)) tried in
        parts (s1 + s2) ((1 + w) * (26000 + 6500 * s2 + 260 * w2)) (s * (e1 * (1 + e2))) (s + w + e) (omega (arith, l, m)) follow ends n

-- ---- lets

module _ (most : ℕ) where
  lets_push : (lets : List (VarName × ExprTree)) (l : VarName × ExprTree) → steps_of_lets most (lets ++ l ∷ []) ≡ steps_of_lets most lets + steps_within most l.1
  lets_push [] l = omega arith
  lets_push (x ∷ lets) l = omega (arith, lets_push lets l)

  pub lets_more : (lets : List (VarName × ExprTree)) (k : ℕ) (l : VarName × ExprTree) → slice_get lets k ≡ Some l →
      steps_of_lets most (take (k + 1) lets) ≡ steps_of_lets most (take k lets) + steps_within most l.1
  lets_more lets k l at = ap (steps_of_lets most) (take_at_more lets k l at) ∙ lets_push (take k lets) l

  pub lets_first : (k : ℕ) (lets : List (VarName × ExprTree)) → steps_of_lets most (take k lets) ≤ steps_of_lets most lets
  lets_first zero lets = omega arith
  lets_first (suc k) [] = omega arith
  lets_first (suc k) (x ∷ lets) = omega (arith, lets_first k lets)
