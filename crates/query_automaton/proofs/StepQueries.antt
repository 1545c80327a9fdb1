-- How many steps the parts of unions and joins take.
use Rattle.std.proofs.Common.{◌≡◌, ℕ, ◌+◌, ◌*◌, ◌≤◌, List, length, take, Some, sym, subst, arith}
use Rattle.std.specs.Prelude.{slice_get}
use Rattle.span_core.proofs.HasLaws.{Has-slice_get}
use Rattle.spanner_model.specs.Expression.{ExprTree}
use Rattle.spanner_model.specs.ExprView.{query_of}
use Rattle.marked_automaton.specs.Automaton.{IsMarked, Marked, size}
use Rattle.query_automaton.specs.declared.fault.CompileFault.{CompileFault}
use Rattle.query_automaton.specs.declared.fault.CompileFault.TheVariants.{Spent}
use Rattle.query_automaton.specs.BegunQuery.{BegunQuery, CanCompile, HasCauseIn, IsCompiledIn, TakesIn}
use Rattle.query_automaton.specs.Held.{ArePartsWithin}
use Rattle.marked_automaton.specs.Reduct.{ReducesMarked}
use Rattle.query_automaton.specs.Steps.{join_steps, steps_of, steps_within, union_steps}
use Rattle.query_automaton.specs.Told.{IsTold}
use Rattle.query_automaton.proofs.Combining.{AreTooLarge, HaveFewNames, Operation, Union, Join, all_of, of_two}
use Rattle.query_automaton.proofs.CompileLaws.{SoFar, combine, so_far_first, so_far_next, too_large, two_size}
use Rattle.query_automaton.proofs.HeldLaws.{TakesFirst, cause_of_two, lets_of, compiled_size, part_of_one, so_far_size}
use Rattle.query_automaton.proofs.StepLaws.{join_cost, made_cost, step_le, step_more, steps_more, steps_next, union_cost}

abbrev pub two_steps : Operation → Marked → Marked → ℕ
two_steps Union A B = union_steps A B
two_steps Join A B = join_steps A B

cost_of_two : (o : Operation) (a p : Marked) (most : ℕ) → size a.graph ≤ most → size p.graph ≤ most → size (of_two o a p).graph ≤ most → two_steps o a p ≤ steps_of most
cost_of_two Union a p most one two both = union_cost a p most two both
cost_of_two Join a p most one two both = join_cost a p most one two both

no_steps : (most : ℕ) (o : Operation) (es : List ExprTree) → steps_within most (all_of o (take 0 es)) ≡ 0
no_steps most Union es = omega arith
no_steps most Join es = omega arith

-- ---- the first part

-- the first of these parts is compiled, and so many steps are left before and after it
pub record IsFirst (b : BegunQuery) (o : Operation) (es : List ExprTree) (y : ExprTree) (a : Marked) (before middle : ℕ) : Type 0 where
  pub can : CanCompile b (all_of o es)
  pub at : slice_get es 0 ≡ Some y
  pub made : IsCompiledIn b y a
  pub takes : TakesIn b y before middle

module _ {b : BegunQuery} {o : Operation} {es : List ExprTree} {y : ExprTree} {a : Marked} {before middle : ℕ} (first : IsFirst b o es y a before middle) where
  first_parts : (most : ℕ) → ArePartsWithin (lets_of b) (all_of o es) most → ArePartsWithin (lets_of b) y most
  first_parts most within n p = within n (part_of_one (lets_of b) o es y n (Has-slice_get es 0 y first.at) p)

  first_cost : (own : Marked) → own ≡ a → IsMarked own → (most : ℕ) → ArePartsWithin (lets_of b) (all_of o es) most → 64 * size own.graph ≤ steps_of most
  first_cost own same marked most within =
      made_cost (size own.graph) most (compiled_size (subst (IsCompiledIn b y) (sym same) first.made) marked most (first_parts most within))

  takes_after : (after cost : ℕ) → middle ≤ after + cost → ((most : ℕ) → ArePartsWithin (lets_of b) (all_of o es) most → cost ≤ steps_of most) → TakesFirst (lets_of b) o es 1 before after
  takes_after after cost spent few most within =
      step_more before middle after (steps_within most y) (steps_of most) (steps_within most (all_of o (take 1 es))) (first.takes most (first_parts most within))
      (omega (arith, spent, few most within)) (omega (arith, steps_more most o es 0 y first.at, no_steps most o es))

  pub first_so_far : SoFar (query_of b.query) (length b.lets) o es 1 a
  first_so_far = so_far_first first.can.known first.at first.made

  -- where nothing is taken after it
  pub first_takes : TakesFirst (lets_of b) o es 1 before middle
  first_takes = takes_after middle 0 (omega arith) (λ most within. omega arith)

  -- where its automaton is gone through after it
  module _ {own : Marked} (same : own ≡ a) (marked : IsMarked own) where
    pub first_spends : (after : ℕ) → middle ≤ after + 64 * size own.graph → TakesFirst (lets_of b) o es 1 before after
    first_spends after spent = takes_after after (64 * size own.graph) spent (first_cost own same marked)

    pub first_spent : middle ≤ 64 * size own.graph → (fault : CompileFault) → fault ≡ Spent → HasCauseIn b before (all_of o es) fault
    first_spent spent fault is =
        subst (HasCauseIn b before (all_of o es)) (sym is)
        (λ most within. step_le before middle (steps_within most y) (steps_of most) (steps_within most (all_of o es)) (first.takes most (first_parts most within))
        (omega (arith, spent, first_cost own same marked most within)) (omega (arith, steps_next most o es 0 y first.at, no_steps most o es)))

-- ---- the first parts, and the next

-- the first k of these parts are compiled, and the next, and so many steps are left before, between and after them
pub record AreNext (b : BegunQuery) (o : Operation) (es : List ExprTree) (k : ℕ) (y : ExprTree) (a p : Marked) (before middle after : ℕ) : Type 0 where
  pub can : CanCompile b (all_of o es)
  pub begun : 1 ≤ k
  pub at : slice_get es k ≡ Some y
  pub so_far : SoFar (query_of b.query) (length b.lets) o es k a
  pub part : IsCompiledIn b y p
  pub first : TakesFirst (lets_of b) o es k before middle
  pub takes : TakesIn b y middle after

module _ {b : BegunQuery} {o : Operation} {es : List ExprTree} {k : ℕ} {y : ExprTree} {a p : Marked} {before middle after : ℕ} (next : AreNext b o es k y a p before middle after) where
  pub next_names : HaveFewNames a p
  next_names = combine next.can.known next.can.asked next.begun next.at next.so_far next.part

  module _ (marked : IsMarked a × IsMarked p) where
    next_parts : (most : ℕ) → ArePartsWithin (lets_of b) (all_of o es) most → ArePartsWithin (lets_of b) y most
    next_parts most within n h = within n (part_of_one (lets_of b) o es y n (Has-slice_get es k y next.at) h)

    next_size : (most : ℕ) → ArePartsWithin (lets_of b) (all_of o es) most → size (of_two o a p).graph ≤ most
    next_size most within = two_size next.can.known next.can.asked next.begun next.at next.so_far next.part marked most within

    next_cost : (most : ℕ) → ArePartsWithin (lets_of b) (all_of o es) most → two_steps o a p ≤ steps_of most
    next_cost most within =
        cost_of_two o a p most (so_far_size next.so_far marked.0 most within) (compiled_size next.part marked.1 most (next_parts most within)) (next_size most within)

    both_take : (most : ℕ) → ArePartsWithin (lets_of b) (all_of o es) most → before ≤ after + (steps_within most (all_of o (take k es)) + steps_within most y)
    both_take most within =
        step_more before middle after (steps_within most (all_of o (take k es))) (steps_within most y) (steps_within most (all_of o (take k es)) + steps_within most y)
        (next.first most within) (next.takes most (next_parts most within)) (omega arith)

    pub next_so_far : {c : Marked} → ReducesMarked c (of_two o a p) → SoFar (query_of b.query) (length b.lets) o es (k + 1) c
    next_so_far {c} made = so_far_next next.can.known next.can.asked next.begun next.at next.so_far next.part marked c made

    -- where the operation on the two is refused
    pub next_fault : (fault : CompileFault) → IsTold (AreTooLarge o a p) (length (of_two o a p).graph.stops) after (two_steps o a p) fault → HasCauseIn b before (all_of o es) fault
    next_fault fault h =
        cause_of_two (lets_of b) (AreTooLarge o a p) b.held before after (two_steps o a p) (length (of_two o a p).graph.stops) o es k y next.at
        (λ f g. too_large next.can.known next.can.asked next.begun next.at next.so_far next.part marked f g)
        (λ most within. omega (arith, next_size most within)) next_cost both_take fault h

    pub next_takes : (last : ℕ) → after ≤ last + two_steps o a p → TakesFirst (lets_of b) o es (k + 1) before last
    next_takes last spent most within =
        step_more before after last (steps_within most (all_of o (take k es)) + steps_within most y) (steps_of most) (steps_within most (all_of o (take (k + 1) es))) (both_take most within)
        (omega (arith, spent, next_cost most within)) (omega (arith, steps_more most o es k y next.at))
