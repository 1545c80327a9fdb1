-- What holds of unions and of joins alike.
use Rattle.std.proofs.Common.{◌≡◌, ℕ, zero, suc, ◌+◌, ◌<◌, ◌≤◌, List, [], ◌∷◌, ◌++◌, length, length-append, map, take, drop, Some, inl, refl, sym, ap, subst, arith, ◌∙◌}
use Rattle.std.specs.Prelude.{slice_get}
use Rattle.std.proofs.lemmas.List.{length-map}
use Rattle.std.proofs.lemmas.Option.{slice_get_within}
use Rattle.span_core.specs.Lists.{Has}
use Rattle.spanner_model.specs.Captures.{VarName}
use Rattle.spanner_model.specs.Expression.{ExprTree}
use Rattle.spanner_model.specs.Sound.{IsSoundExpr}
use Rattle.span_core.proofs.HasLaws.{Has-slice_get}
use Rattle.spanner_model.proofs.Nodes.{expr_nodes}
use Rattle.spanner_model.proofs.ExprLaws.{union_size, part_size, union_part, join_part, union_two, join_two}
use Rattle.spanner_model.proofs.TreeLaws.{take_at_more}
use Rattle.marked_automaton.specs.declared.fault.SizeFault.{SizeFault}
use Rattle.marked_automaton.specs.declared.fault.SizeFault.TheVariants.{States, Ways, OutOfMemory}
use Rattle.marked_automaton.specs.Automaton.{Marked}
use Rattle.marked_automaton.specs.Faults.{IsSizeFaultOf}
use Rattle.marked_automaton.specs.Reduct.{Reduces, ReducesMarked}
use Rattle.marked_automaton.specs.Marks.{left_of, remarked_way}
use Rattle.algebra.specs.JoinedNames.{all_names}
use Rattle.algebra.specs.Operations.{moved_way}
use Rattle.algebra.specs.Uniting.{union_over}
use Rattle.query_automaton.specs.Parts.{HasPart, numbers_of}
use Rattle.query_automaton.specs.QueryAutomaton.{automaton_of, of_union}
use Rattle.query_automaton.proofs.Combining.{AreTooLarge, Operation, Union, Join, all_of, of_two}
use Rattle.query_automaton.proofs.PartLaws.{union_push, join_push, union_step, join_step}

-- ---- lists of parts

-- a list, taken apart at a place
pub at_place : {X : Type 0} (xs : List X) (k : ℕ) (x : X) → slice_get xs k ≡ Some x → xs ≡ take k xs ++ x ∷ drop (suc k) xs
at_place [] k x e = absurd (cc)
at_place (y ∷ xs) zero x e = let same : y ≡ x = cc in ap (λ z. z ∷ xs) same
at_place (y ∷ xs) (suc k) x e = ap (λ zs. y ∷ zs) (at_place xs k x e)

-- of a list with a first element
pub first_taken : {X : Type 0} (xs : List X) (k : ℕ) → 1 ≤ k → 1 ≤ length xs → (x : X) × (rest : List X) × (take k xs ≡ x ∷ rest) × Has xs x
first_taken [] k l m = absurd (omega (arith, m))
first_taken (x ∷ xs) zero l m = absurd (omega (arith, l))
first_taken (x ∷ xs) (suc k) l m = (x, take k xs, refl, inl refl)

-- ---- parts

-- a part has fewer nodes than the whole, and is sound where the whole is
pub part_at : (V S : ℕ → VarName → Type 0) (n : ℕ) (o : Operation) (es : List ExprTree) (k : ℕ) (e : ExprTree) → slice_get es k ≡ Some e → IsSoundExpr V S n (all_of o es) →
    (expr_nodes e < expr_nodes (all_of o es)) × IsSoundExpr V S n e
part_at V S n Union es k e at sound = let h = Has-slice_get es k e at in (omega (arith, part_size es e h, union_size es), union_part V S n es e sound h)
part_at V S n Join es k e at sound = let h = Has-slice_get es k e at in (part_size es e h, join_part V S n es e sound h)

pub two_parts : (V S : ℕ → VarName → Type 0) (n : ℕ) (o : Operation) (es : List ExprTree) → IsSoundExpr V S n (all_of o es) → 2 ≤ length es
two_parts V S n Union es sound = union_two V S n es sound
two_parts V S n Join es sound = join_two V S n es sound

-- ---- the automata of the first parts

pub alone : (L : ℕ → Marked) (o : Operation) (e : ExprTree) → automaton_of L (all_of o (e ∷ [])) ≡ automaton_of L e
alone L Union e = refl
alone L Join e = refl

pub pushed : (L : ℕ → Marked) (o : Operation) (x : ExprTree) (xs : List ExprTree) (y : ExprTree) →
    automaton_of L (all_of o (x ∷ xs ++ y ∷ [])) ≡ of_two o (automaton_of L (all_of o (x ∷ xs))) (automaton_of L y)
pushed L Union x xs y = union_push L x xs y
pushed L Join x xs y = join_push L x xs y

-- one part more
pub grown : (L : ℕ → Marked) (o : Operation) (es : List ExprTree) (k : ℕ) (y : ExprTree) → 1 ≤ k → slice_get es k ≡ Some y →
    automaton_of L (all_of o (take (k + 1) es)) ≡ of_two o (automaton_of L (all_of o (take k es))) (automaton_of L y)
grown L o es k y l at =
    let f = first_taken es k l (omega (arith, slice_get_within es k y at)) in
    ap (λ (zs : List ExprTree). automaton_of L (all_of o zs)) (take_at_more es k y at)
    ∙ (ap (λ (zs : List ExprTree). automaton_of L (all_of o (zs ++ y ∷ []))) f.2
    ∙ (pushed L o f.0 f.1 y ∙ ap (λ (zs : List ExprTree). of_two o (automaton_of L (all_of o zs)) (automaton_of L y)) (sym f.2)))

step_of : (L : ℕ → Marked) (o : Operation) (x : ExprTree) (xs : List ExprTree) (y : ExprTree) (ys : List ExprTree) →
    HasPart L (all_of o (x ∷ xs ++ y ∷ ys)) (numbers_of (of_two o (automaton_of L (all_of o (x ∷ xs))) (automaton_of L y)))
step_of L Union x xs y ys = union_step L x xs y ys
step_of L Join x xs y ys = join_step L x xs y ys

-- the automaton of the first parts, with one more, is that of a part
pub step_is_part : (L : ℕ → Marked) (o : Operation) (es : List ExprTree) (k : ℕ) (y : ExprTree) → 1 ≤ k → slice_get es k ≡ Some y →
    HasPart L (all_of o es) (numbers_of (of_two o (automaton_of L (all_of o (take k es))) (automaton_of L y)))
step_is_part L o es k y l at =
    let f = first_taken es k l (omega (arith, slice_get_within es k y at)) in
    subst (λ (zs : List ExprTree). HasPart L (all_of o zs) (numbers_of (of_two o (automaton_of L (all_of o (take k es))) (automaton_of L y)))) (sym (at_place es k y at))
    (subst (λ (zs : List ExprTree). HasPart L (all_of o (zs ++ y ∷ drop (suc k) es)) (numbers_of (of_two o (automaton_of L (all_of o zs)) (automaton_of L y)))) (sym f.2)
    (step_of L o f.0 f.1 y (drop (suc k) es)))

-- ---- what a union answers

pub united_made : (A B u : Marked) → u.names ≡ all_names A.names B.names → Reduces u.graph (union_over A B u.names) → ReducesMarked u (of_union A B)
united_made A B u names reduct = (names, rw (← names) reduct)

united_ways : (A B : Marked) → length (of_union A B).graph.ways ≡ length A.graph.ways + length B.graph.ways
united_ways A B =
    let all = all_names A.names B.names in
    let first = map (remarked_way (left_of A.names all)) A.graph.ways in
    let second = map (remarked_way (left_of B.names all)) B.graph.ways in
    omega (
      arith,
      length-append first (map (moved_way A.graph.states) second),
      length-map second (moved_way A.graph.states),
      length-map A.graph.ways (remarked_way (left_of A.names all)),
      length-map B.graph.ways (remarked_way (left_of B.names all)),
    )

-- the count that is told is the number
pub union_too_large : (A B : Marked) (e : SizeFault) → IsSizeFaultOf (A.graph.states + B.graph.states) (length A.graph.ways + length B.graph.ways) e → AreTooLarge Union A B e
union_too_large A B (States count) h = (omega (arith, h.0, h.1), omega (arith, h.1))
union_too_large A B (Ways count) h = (omega (arith, h.1, h.2), omega (arith, h.2, united_ways A B))
union_too_large A B OutOfMemory h = tt
