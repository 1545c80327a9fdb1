-- What is held when the lets and the body of a query are compiled.
use Rattle.std.proofs.Common.{◌≡◌, ℕ, ◌+◌, ◌*◌, ◌≤◌, ◌↔◌, Some, length, take, refl, sym, subst, arith}
use Rattle.std.specs.Prelude.{slice_get}
use Rattle.std.proofs.lemmas.Option.{slice_get_within}
use Rattle.spanner_model.specs.Captures.{VarName}
use Rattle.span_core.specs.Lists.{Has}
use Rattle.span_core.specs.NameSets.{Ascending}
use Rattle.spanner_model.specs.Expression.{AtomTree, ExprTree, QueryTree, atom}
use Rattle.spanner_model.specs.Sequential.{HasVar}
use Rattle.spanner_model.specs.declared.query.Query.{Query}
use Rattle.spanner_model.specs.ExprView.{query_of}
use Rattle.marked_automaton.specs.Automaton.{IsMarked, Marked, size}
use Rattle.marked_automaton.specs.declared.fault.SizeFault.{SizeFault}
use Rattle.marked_automaton.specs.Faults.{IsSizeFaultWithin}
use Rattle.marked_automaton.specs.Reduct.{Reduces}
use Rattle.place_automaton.specs.Words.{atom_automaton}
use Rattle.algebra.specs.declared.fault.JoinFault.TheVariants as join
use Rattle.algebra_minus.specs.declared.fault.MinusFault.{MinusFault}
use Rattle.algebra_minus.specs.declared.fault.MinusFault.TheVariants as minus
use Rattle.algebra_minus.specs.Steps.{IsMinusRefusal, IsRefusedWithin}
use Rattle.algebra.specs.Joining.{IsJoinOf}
use Rattle.algebra.specs.JoinedNames.{all_names}
use Rattle.algebra.specs.Uniting.{union_over}
use Rattle.query_automaton.proofs.Combined.{united_made}
use Rattle.query_automaton.specs.declared.effort.TheConstants.{MOST_STEPS}
use Rattle.query_automaton.specs.declared.fault.CompileFault.{CompileFault}
use Rattle.query_automaton.specs.declared.fault.CompileFault.TheVariants.{Size, Held, Ends, Spent}
use Rattle.query_automaton.specs.BegunQuery.{BegunQuery, HasCauseIn, IsCompiledIn, TakesIn}
use Rattle.query_automaton.specs.Compiling.{AreCompiled, IsCompiledFrom}
use Rattle.query_automaton.specs.Held.{ArePartsWithin, HasCause, HasCauseOf, IsHoldFault, IsWithin, Takes}
use Rattle.query_automaton.specs.QueryAutomaton.{of_atom, of_join, of_minus, of_union}
use Rattle.query_automaton.specs.Steps.{minus_steps, steps_of_lets, steps_of_query, steps_within}
use Rattle.query_automaton.specs.Parts.{HasSmallAtoms}
use Rattle.query_automaton.specs.Told.{IsTold, atom_fault_of, minus_fault}
use Rattle.place_automaton.specs.declared.TheConstants as place
use Rattle.place_automaton.specs.declared.fault.AtomFault.{AtomFault}
use Rattle.place_automaton.specs.declared.fault.AtomFault.TheVariants as of
use Rattle.place_automaton.specs.Counts.{count_states, count_ways}
use Rattle.place_automaton.specs.Refusals.{IsAtomRefusal, count_ends}
use Rattle.algebra.specs.declared.TheConstants.{MOST_ENDS}
use Rattle.query_automaton.proofs.StepLaws.{lets_first, lets_more, made_cost, step_le, step_more}
use Rattle.query_automaton.proofs.HeldLaws.{held_more, held_of_body, held_of_let, kept_fault, part_size, reduced_size}
use Rattle.query_automaton.proofs.PieceLaws.{atom_fault, atom_names, body_fault, let_fault}

-- the steps of the first lets
abbrev pub TakesLets : QueryTree → ℕ → ℕ → Type 0
TakesLets q k effort = (most : ℕ) → IsWithin q most → MOST_STEPS ≤ effort + steps_of_lets most (take k q.lets)

-- ---- the next let

module _ (first b : BegunQuery) (same : b.query ≡ first.query) (k : ℕ) (long : length b.lets ≡ k) (known : AreCompiled (query_of first.query) b.lets) (l : VarName × ExprTree)
    (at : slice_get (query_of first.query).lets k ≡ Some l) (so_far : (most : ℕ) → IsWithin (query_of first.query) most → b.held ≤ k * most) (effort : ℕ)
    (takes : TakesLets (query_of first.query) k effort) where
  abbrev Q : QueryTree
  Q = query_of first.query

  few : k ≤ length Q.lets
  few = omega (arith, slice_get_within Q.lets k l at)

  pub let_cause : (fault : CompileFault) → HasCauseIn b effort l.1 fault → HasCause Q fault
  let_cause (Size fault) h = let_fault first b same k long known l at fault h
  let_cause (Held count) h =
      let here = rw same at h in
      held_of_let Q b.held effort k few so_far l at count (rw long at here)
  let_cause (Ends count) h =
      let here = rw same at h in
      let one = rw long at here in
      (one.0, λ most within. one.1 most (within.0 k l at))
  let_cause Spent h = λ most within.
      let here = rw same at h in
      let one = rw long at here in
      step_le MOST_STEPS effort (steps_of_lets most (take k Q.lets)) (steps_within most l.1) (steps_of_query most Q) (takes most within) (one most (within.0 k l at))
      (omega (arith, lets_more most Q.lets k l at, lets_first most (k + 1) Q.lets))

  -- after the let
  pub let_takes : (after : ℕ) → TakesIn b l.1 effort after → TakesLets Q (k + 1) after
  let_takes after h most within =
      let here = rw same at h in
      let one = rw long at here in
      step_more MOST_STEPS effort after (steps_of_lets most (take k Q.lets)) (steps_within most l.1) (steps_of_lets most (take (k + 1) Q.lets)) (takes most within)
      (one most (within.0 k l at)) (omega (arith, lets_more most Q.lets k l at))

  module _ (a : Marked) (made : IsCompiledIn b l.1 a) (marked : IsMarked a) where
    made_here : IsCompiledFrom Q k l.1 a
    made_here = rw (← long) (rw (← same) made)

    pub let_kept : (fault : CompileFault) → IsHoldFault (b.held + size a.graph) fault → HasCause Q fault
    let_kept fault h = kept_fault Q b.held effort k few so_far l at a made_here marked fault h

    pub let_held : (new : ℕ) → new ≤ b.held + size a.graph → (most : ℕ) → IsWithin Q most → new ≤ (k + 1) * most
    let_held new le most within = held_more Q b.held effort k few so_far l at a made_here marked new le most within

-- ---- the body

module _ (q : Query) (b : BegunQuery) (same : b.query ≡ q) (long : length b.lets ≡ length (query_of q).lets)
    (so_far : (most : ℕ) → IsWithin (query_of q) most → b.held ≤ length (query_of q).lets * most) (effort : ℕ)
    (takes : (most : ℕ) → IsWithin (query_of q) most → MOST_STEPS ≤ effort + steps_of_lets most (query_of q).lets) where
  abbrev N : ℕ
  N = length (query_of q).lets

  pub body_cause : (fault : CompileFault) → HasCauseIn b effort (query_of q).body fault → HasCause (query_of q) fault
  body_cause (Size fault) h = body_fault q b same long fault h
  body_cause (Held count) h =
      let here = rw same at h in
      held_of_body (query_of q) b.held effort N (omega arith) so_far refl count (rw long at here)
  body_cause (Ends count) h =
      let here = rw same at h in
      let one = rw long at here in
      (one.0, λ most within. one.1 most within.1)
  body_cause Spent h = λ most within.
      let here = rw same at h in
      let one = rw long at here in
      step_le MOST_STEPS effort (steps_of_lets most (query_of q).lets) (steps_within most (query_of q).body) (steps_of_query most (query_of q)) (takes most within)
      (one most within.1) (omega arith)

-- ---- an atom

-- what is made of an atom is no larger than its part may be
pub atom_within : (L : ℕ → Marked) (u : AtomTree) (whole : Marked) → Ascending whole.names → ((x : VarName) → Has whole.names x ↔ HasVar u.formula x) →
    Reduces whole.graph (atom_automaton whole.names u) → IsMarked whole → HasSmallAtoms (atom u) → (most : ℕ) → ArePartsWithin L (atom u) most → size whole.graph ≤ most
atom_within L u whole up all reduces marked small most within =
    let same = atom_names u whole.names up all in
    let made : Reduces whole.graph (of_atom u).graph = rw (← same) reduces in
    omega (arith, reduced_size whole (of_atom u) marked made, part_size L most (atom u) within small)

pub atom_takes : (L : ℕ → Marked) (u : AtomTree) (before after cost : ℕ) → before ≤ after + 64 * cost → ((most : ℕ) → ArePartsWithin L (atom u) most → cost ≤ most) → Takes L (atom u) before after
atom_takes L u before after cost spent few most within = omega (arith, spent, few most within, made_cost cost most (few most within))

pub atom_spent : (L : ℕ → Marked) (u : AtomTree) (held before cost : ℕ) → before ≤ 64 * cost → ((most : ℕ) → ArePartsWithin L (atom u) most → cost ≤ most) → (fault : CompileFault) →
    fault ≡ Spent → HasCauseOf L held before (atom u) fault
atom_spent L u held before cost spent few fault is =
    subst (HasCauseOf L held before (atom u)) (sym is) (λ most within. omega (arith, spent, made_cost cost most (few most within)))

-- a refusal of an atom
pub atom_cause : (L : ℕ → Marked) (u : AtomTree) (held effort : ℕ) (fault : AtomFault) → IsAtomRefusal u fault → HasCauseOf L held effort (atom u) (atom_fault_of fault)
atom_cause L u held effort (of.Size fault) h = atom_fault u L fault h
atom_cause L u held effort (of.Ends count) h =
    let most_ends : place.MOST_ENDS ≡ 8000000 = refl in
    let most_here : MOST_ENDS ≡ 8000000 = refl in
    (omega (arith, h.1, most_ends, most_here), λ most within. omega (arith, h.2, within (record { states = count_states u; ways = count_ways u; ends = count_ends u }) refl))

-- ---- a join

pub joined_size : (A B J : Marked) → IsJoinOf A B J → IsMarked J → size J.graph ≤ size (of_join A B).graph
joined_size A B J of marked =
    reduced_size J (of_join A B) marked (rw (← of.names) of.reduct)

-- ---- a difference

pub minus_refused : (A B : Marked) (before after : ℕ) → before ≤ after + (A.graph.states + B.graph.states) → (fault : MinusFault) →
    IsRefusedWithin (of_minus A B).graph.states (length (of_minus A B).graph.ways) fault → IsMinusRefusal A.graph B.graph after fault →
    IsTold (IsSizeFaultWithin (of_minus A B).graph.states (length (of_minus A B).graph.ways)) 0 before (minus_steps A B) (minus_fault fault)
minus_refused A B before after le (minus.Size fault) within cause = within
minus_refused A B before after le minus.Spent within cause = omega (arith, le, cause)

-- ---- a union

pub united_size : (A B taken u : Marked) → taken ≡ A → u.names ≡ all_names taken.names B.names → Reduces u.graph (union_over taken B u.names) → IsMarked u →
    size u.graph ≤ size (of_union A B).graph
united_size A B taken u is names reduct marked =
    reduced_size u (of_union A B) marked (rw (← is) (united_made taken B u names reduct).1)

-- what is left where an operation is refused for want of steps
pub told_spent : (P : SizeFault → Type 0) (ends before most : ℕ) → before ≤ most → (fault : CompileFault) → fault ≡ Spent → IsTold P ends before most fault
told_spent P ends before most le fault is = subst (IsTold P ends before most) (sym is) le
