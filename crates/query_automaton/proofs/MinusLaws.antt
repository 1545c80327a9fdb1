-- What is made of differences when they are compiled.
use Rattle.std.proofs.Common.{◌≡◌, ℕ, ◌+◌, ◌≤◌, Box, Global, length, inl, inr, refl, sym, ap, arith, ◌∙◌}
use Rattle.spanner_model.specs.Expression.{ExprTree, QueryTree, minus}
use Rattle.spanner_model.specs.ExprView.{expr_of, query_of}
use Rattle.spanner_model.specs.declared.expression.Expr.{Expr}
use Rattle.spanner_model.specs.declared.expression.Expr.TheVariants.{Minus}
use Rattle.spanner_model.proofs.ExprTrees.{expr_of-Minus}
use Rattle.spanner_model.proofs.NameLaws.{same_names}
use Rattle.marked_automaton.specs.declared.fault.SizeFault.{SizeFault}
use Rattle.marked_automaton.specs.declared.fault.SizeFault.TheVariants.{States, Ways, OutOfMemory}
use Rattle.marked_automaton.specs.Automaton.{IsMarked, Marked}
use Rattle.marked_automaton.specs.Faults.{IsSizeFaultWithin}
use Rattle.marked_automaton.specs.Reduct.{ReducesMarked}
use Rattle.marked_automaton.proofs.Reducts.{reduct_of_reduct}
use Rattle.marked_automaton.proofs.Sizes.{reduct_is_no_larger}
use Rattle.algebra_minus.specs.DifferenceOf.{difference_of}
use Rattle.algebra_minus.proofs.Alike.{ways_have_bytes}
use Rattle.algebra_minus.proofs.DifferenceMade.{difference_made}
use Rattle.algebra_minus.proofs.Reducts.{reduct_of_difference}
use Rattle.query_automaton.specs.BegunQuery.{BegunQuery, CanCompile, HasCauseIn, HasLargePartIn, IsCompiledIn, TakesIn}
use Rattle.query_automaton.specs.Compiling.{IsAsked}
use Rattle.query_automaton.specs.declared.fault.CompileFault.{CompileFault}
use Rattle.query_automaton.specs.Told.{IsTold}
use Rattle.query_automaton.specs.Held.{ArePartsWithin}
use Rattle.query_automaton.specs.Steps.{minus_steps, minus_steps_of}
use Rattle.query_automaton.specs.Parts.{numbers_of}
use Rattle.query_automaton.specs.QueryAutomaton.{automaton_of, of_lets, of_minus}
use Rattle.query_automaton.proofs.CompileLaws.{shape}
use Rattle.query_automaton.proofs.HeldLaws.{cause_minus, compiled_size, takes_minus}
use Rattle.query_automaton.proofs.StepLaws.{minus_cost}

-- the expression is the difference of what is in the two boxes
pub minus_of : {x y z : Expr} {left right : Box Expr Global} → x ≡ Minus left right → y ≡ left.value → z ≡ right.value → expr_of x ≡ minus (expr_of y) (expr_of z)
minus_of {left = left} {right = right} is first second =
    ap expr_of is ∙ (expr_of-Minus left right ∙ (λ i. minus (expr_of (sym first i)) (expr_of (sym second i))))

asked_left : {q : QueryTree} {n : ℕ} {e g : ExprTree} → IsAsked q n (minus e g) → IsAsked q n e
asked_left a = record { sound = a.sound; sound_expr = a.sound_expr.0; named = λ x v. a.named x (inl v) }

asked_right : {q : QueryTree} {n : ℕ} {e g : ExprTree} → IsAsked q n (minus e g) → IsAsked q n g
asked_right a = record { sound = a.sound; sound_expr = a.sound_expr.1; named = λ x v. a.named x (inr v) }

-- the right side can be compiled where the difference can
pub right_can : {b : BegunQuery} {e g : ExprTree} → CanCompile b (minus e g) → CanCompile b g
right_can can = record { known = can.known; asked = asked_right can.asked }

-- an expression is a difference whose two sides are compiled, one after the other, and so many steps are left before,
-- between and after them
pub record AreSides (b : BegunQuery) (x e g : ExprTree) (a p : Marked) (before middle after : ℕ) : Type 0 where
  pub is : x ≡ minus e g
  pub can : CanCompile b (minus e g)
  pub left : IsCompiledIn b e a
  pub right : IsCompiledIn b g p
  pub first : TakesIn b e before middle
  pub second : TakesIn b g middle after

module _ {b : BegunQuery} {x e g : ExprTree} {a p : Marked} {before middle after : ℕ} (sides : AreSides b x e g a p before middle after) where
  abbrev L : ℕ → Marked
  L = of_lets (query_of b.query).lets (length b.lets)

  abbrev A : Marked
  A = automaton_of L e

  abbrev B : Marked
  B = automaton_of L g

  pub names_agree : a.names ≡ p.names
  names_agree =
      let s = shape sides.can.known (asked_left sides.can.asked) in
      let t = shape sides.can.known (asked_right sides.can.asked) in
      let same = sides.can.asked.sound_expr.2 in
      let names : A.names ≡ B.names =
      same_names A.names B.names s.ascending t.ascending (λ x h. (t.names x).1 ((same x).0 ((s.names x).0 h))) (λ x h. (s.names x).1 ((same x).1 ((t.names x).0 h))) in
      sides.left.reduces.0 ∙ (names ∙ sym sides.right.reduces.0)

  module _ (marked : IsMarked a × IsMarked p) where
    reduce : ReducesMarked (of_minus a p) (of_minus A B)
    reduce =
        let s = shape sides.can.known (asked_left sides.can.asked) in
        let t = shape sides.can.known (asked_right sides.can.asked) in (
          sides.left.reduces.0,
          reduct_of_difference a.graph A.graph p.graph B.graph (difference_of a.graph p.graph) (difference_of A.graph B.graph) sides.left.reduces.1 sides.right.reduces.1
              (difference_made a.graph p.graph marked.0.whole marked.1.whole) (difference_made A.graph B.graph s.whole t.whole),
        )

    pub differed : {c : Marked} → ReducesMarked c (of_minus a p) → IsCompiledIn b x c
    differed {c} r =
        rw sides.is
        (record {
          reduces = (r.0 ∙ reduce.0, reduct_of_reduct c.graph (of_minus a p).graph (of_minus A B).graph r.1 reduce.1);
          small = (sides.left.small, sides.right.small);
        })

    no_larger : ((of_minus a p).graph.states ≤ (of_minus A B).graph.states) × (length (of_minus a p).graph.ways ≤ length (of_minus A B).graph.ways)
    no_larger =
        let made = difference_made a.graph p.graph marked.0.whole marked.1.whole in
        let less = reduct_is_no_larger (of_minus a p).graph (of_minus A B).graph made.4.whole (ways_have_bytes a.graph p.graph (difference_of a.graph p.graph) made) reduce.1 in
        (less.0, less.1)

    minus_too_large : (fault : SizeFault) → IsSizeFaultWithin (of_minus a p).graph.states (length (of_minus a p).graph.ways) fault → HasLargePartIn b (minus e g) fault
    minus_too_large (States count) h = (h.0, (numbers_of (of_minus A B), inr (inr refl), omega (arith, h.1, no_larger.0)))
    minus_too_large (Ways count) h = (h.0, (numbers_of (of_minus A B), inr (inr refl), omega (arith, h.1, no_larger.1)))
    minus_too_large OutOfMemory h = tt

    -- what the difference takes, where each part is within a number
    minus_within : (most : ℕ) → ArePartsWithin L (minus e g) most → minus_steps a p ≤ minus_steps_of most
    minus_within most within =
        let made = difference_made a.graph p.graph marked.0.whole marked.1.whole in
        let less = reduct_is_no_larger (of_minus a p).graph (of_minus A B).graph made.4.whole (ways_have_bytes a.graph p.graph (difference_of a.graph p.graph) made) reduce.1 in
        let both = within (numbers_of (of_minus A B)) (inr (inr refl)) in
        minus_cost a p most (compiled_size sides.left marked.0 most (λ n h. within n (inl h))) (compiled_size sides.right marked.1 most (λ n h. within n (inr (inl h))))
        (omega (arith, less.0, less.1, less.2, both))

    -- where it is refused
    pub differing_fault : (fault : CompileFault) → IsTold (IsSizeFaultWithin (of_minus a p).graph.states (length (of_minus a p).graph.ways)) 0 after (minus_steps a p) fault →
        HasCauseIn b before x fault
    differing_fault fault h = rw sides.is (cause_minus L _ b.held before middle after (minus_steps a p) e g sides.first sides.second minus_within minus_too_large fault h)

    pub differing_takes : (last : ℕ) → after ≤ last + minus_steps a p → TakesIn b x before last
    differing_takes last spent = rw sides.is (takes_minus L before middle after last (minus_steps a p) e g sides.first sides.second minus_within spent)
