-- Parts of unions and joins.
use Rattle.std.proofs.Common.{◌≡◌, ℕ, List, [], ◌∷◌, ◌++◌, inl, inr, refl}
use Rattle.span_core.specs.Lists.{Has}
use Rattle.spanner_model.specs.Expression.{ExprTree, union_all, join_all}
use Rattle.marked_automaton.specs.declared.fault.SizeFault.{SizeFault}
use Rattle.marked_automaton.specs.declared.fault.SizeFault.TheVariants.{States, Ways, OutOfMemory}
use Rattle.marked_automaton.specs.Automaton.{Marked}
use Rattle.query_automaton.specs.Parts.{PartNumbers, HasPart, HasUnionStep, HasJoinStep, HasLargePartOf, numbers_of}
use Rattle.query_automaton.specs.QueryAutomaton.{of_union, of_join, automaton_of, united, together}

module _ (L : ℕ → Marked) where
  -- the automata of parts are joined one after another
  united_push : (xs : List ExprTree) (A : Marked) (y : ExprTree) → united L A (union_all (xs ++ y ∷ [])) ≡ of_union (united L A (union_all xs)) (automaton_of L y)
  united_push [] A y = refl
  united_push (x ∷ xs) A y = united_push xs (of_union A (automaton_of L x)) y

  pub union_push : (x : ExprTree) (xs : List ExprTree) (y : ExprTree) →
      automaton_of L (union_all (x ∷ xs ++ y ∷ [])) ≡ of_union (automaton_of L (union_all (x ∷ xs))) (automaton_of L y)
  union_push x xs y = united_push xs (automaton_of L x) y

  together_push : (xs : List ExprTree) (A : Marked) (y : ExprTree) → together L A (join_all (xs ++ y ∷ [])) ≡ of_join (together L A (join_all xs)) (automaton_of L y)
  together_push [] A y = refl
  together_push (x ∷ xs) A y = together_push xs (of_join A (automaton_of L x)) y

  pub join_push : (x : ExprTree) (xs : List ExprTree) (y : ExprTree) →
      automaton_of L (join_all (x ∷ xs ++ y ∷ [])) ≡ of_join (automaton_of L (join_all (x ∷ xs))) (automaton_of L y)
  join_push x xs y = together_push xs (automaton_of L x) y

  -- a part of a part
  union_step_part : (xs : List ExprTree) (A : Marked) (e : ExprTree) (n : PartNumbers) → Has xs e → HasPart L e n → HasUnionStep L A (union_all xs) n
  union_step_part [] A e n h p = absurd h
  union_step_part (x ∷ xs) A e n (inl i) p = inl (rw i p)
  union_step_part (x ∷ xs) A e n (inr h) p = inr (inr (union_step_part xs (of_union A (automaton_of L x)) e n h p))

  pub union_part_of : (es : List ExprTree) (e : ExprTree) (n : PartNumbers) → Has es e → HasPart L e n → HasPart L (union_all es) n
  union_part_of [] e n h p = absurd h
  union_part_of (x ∷ es) e n (inl i) p = inl (rw i p)
  union_part_of (x ∷ es) e n (inr h) p = inr (union_step_part es (automaton_of L x) e n h p)

  join_step_part : (xs : List ExprTree) (A : Marked) (e : ExprTree) (n : PartNumbers) → Has xs e → HasPart L e n → HasJoinStep L A (join_all xs) n
  join_step_part [] A e n h p = absurd h
  join_step_part (x ∷ xs) A e n (inl i) p = inl (rw i p)
  join_step_part (x ∷ xs) A e n (inr h) p = inr (inr (join_step_part xs (of_join A (automaton_of L x)) e n h p))

  pub join_part_of : (es : List ExprTree) (e : ExprTree) (n : PartNumbers) → Has es e → HasPart L e n → HasPart L (join_all es) n
  join_part_of [] e n h p = absurd h
  join_part_of (x ∷ es) e n (inl i) p = inl (rw i p)
  join_part_of (x ∷ es) e n (inr h) p = inr (join_step_part es (automaton_of L x) e n h p)

  -- a step is a part
  union_step_is : (xs : List ExprTree) (A : Marked) (y : ExprTree) (ys : List ExprTree) →
      HasUnionStep L A (union_all (xs ++ y ∷ ys)) (numbers_of (of_union (united L A (union_all xs)) (automaton_of L y)))
  union_step_is [] A y ys = inr (inl refl)
  union_step_is (x ∷ xs) A y ys = inr (inr (union_step_is xs (of_union A (automaton_of L x)) y ys))

  pub union_step : (x : ExprTree) (xs : List ExprTree) (y : ExprTree) (ys : List ExprTree) →
      HasPart L (union_all (x ∷ xs ++ y ∷ ys)) (numbers_of (of_union (automaton_of L (union_all (x ∷ xs))) (automaton_of L y)))
  union_step x xs y ys = inr (union_step_is xs (automaton_of L x) y ys)

  join_step_is : (xs : List ExprTree) (A : Marked) (y : ExprTree) (ys : List ExprTree) →
      HasJoinStep L A (join_all (xs ++ y ∷ ys)) (numbers_of (of_join (together L A (join_all xs)) (automaton_of L y)))
  join_step_is [] A y ys = inr (inl refl)
  join_step_is (x ∷ xs) A y ys = inr (inr (join_step_is xs (of_join A (automaton_of L x)) y ys))

  pub join_step : (x : ExprTree) (xs : List ExprTree) (y : ExprTree) (ys : List ExprTree) →
      HasPart L (join_all (x ∷ xs ++ y ∷ ys)) (numbers_of (of_join (automaton_of L (join_all (x ∷ xs))) (automaton_of L y)))
  join_step x xs y ys = inr (join_step_is xs (automaton_of L x) y ys)

  -- what is too large in a part is too large in the whole
  pub large_part : (e w : ExprTree) (fault : SizeFault) → ((n : PartNumbers) → HasPart L e n → HasPart L w n) → HasLargePartOf L e fault → HasLargePartOf L w fault
  large_part e w (States count) up h = (h.0, (h.1.0, up h.1.0 h.1.1, h.1.2))
  large_part e w (Ways count) up h = (h.0, (h.1.0, up h.1.0 h.1.1, h.1.2))
  large_part e w OutOfMemory up h = h
