-- Results of joins, by cases.
use Rattle.std.proofs.Common.{◌≡◌, ℕ, ◌<◌, ◌≤◌, List, arith, ◌∙◌}
use Rattle.std.specs.Prelude.{IfOk}
use Rattle.std.specs.declared.result.Result.{Result}
use Rattle.std.specs.declared.result.Result.TheVariants.{Ok, Err}
use Rattle.spanner_model.specs.Captures.{VarName}
use Rattle.marked_automaton.specs.declared.fault.SizeFault.{SizeFault}
use Rattle.marked_automaton.specs.declared.fault.SizeFault.TheVariants.{States, Ways, OutOfMemory}
use Rattle.marked_automaton.specs.Automaton.{Automaton, Marked}
use Rattle.marked_automaton.specs.Faults.{IsSizeFaultWithin}
use Rattle.marked_automaton.specs.Reduct.{IsReached, Reduces}
use Rattle.algebra.specs.declared.fault.JoinFault.{JoinFault}
use Rattle.algebra.specs.declared.fault.JoinFault.TheVariants.{Size, Ends, Spent}
use Rattle.algebra.specs.JoinedNames.{all_names}
use Rattle.algebra.specs.Joining.{IsJoinFaultWithin, IsJoinOf, join_over}

-- a refusal by fewer states and ways
pub within_more : (n m v w : ℕ) (e : SizeFault) → n ≤ m → v ≤ w → IsSizeFaultWithin n v e → IsSizeFaultWithin m w e
within_more n m v w (States count) l k h = (h.0, omega (arith, h.1, l))
within_more n m v w (Ways count) l k h = (h.0, omega (arith, h.1, k))
within_more n m v w OutOfMemory l k h = tt

pub faults_more : (n m v w u t : ℕ) (e : JoinFault) → n ≤ m → v ≤ w → u ≤ t → IsJoinFaultWithin n v u e → IsJoinFaultWithin m w t e
faults_more n m v w u t (Size fault) l k j h = within_more n m v w fault l k h
faults_more n m v w u t (Ends count) l k j h = (h.0, omega (arith, h.1, j))
faults_more n m v w u t Spent l k j h = tt

-- what an automaton of these names is, from what its graph is
pub join_by : (A B : Marked) (all : List VarName) → all ≡ all_names A.names B.names → (r : Result Marked JoinFault) (P : Automaton → Type 0) →
    ((C : Automaton) → P C → Reduces C (join_over A B all)) → ((C : Automaton) → P C → (p : ℕ) → p < C.states → IsReached C p) →
    IfOk r (λ (j : Marked). j.names ≡ all) → IfOk r (λ (j : Marked). P j.graph) → IfOk r (IsJoinOf A B)
join_by A B all is (Ok j) P h g names made = record {
  names = names ∙ is;
  reduct = rw names (h j.graph made);
  reached = g j.graph made;
}
join_by A B all is (Err e) P h g names made = tt

-- what a join is, by its clauses
module _ (A B : Marked) where
  pub names_of : (r : Result Marked JoinFault) → IfOk r (IsJoinOf A B) → IfOk r (λ (j : Marked). j.names ≡ all_names A.names B.names)
  names_of (Ok j) h = h.names
  names_of (Err e) h = tt

  pub reduct_of : (r : Result Marked JoinFault) → IfOk r (IsJoinOf A B) → IfOk r (λ (j : Marked). Reduces j.graph (join_over A B j.names))
  reduct_of (Ok j) h = h.reduct
  reduct_of (Err e) h = tt

  pub reached_of : (r : Result Marked JoinFault) → IfOk r (IsJoinOf A B) → IfOk r (λ (j : Marked). (p : ℕ) → p < j.graph.states → IsReached j.graph p)
  reached_of (Ok j) h = h.reached
  reached_of (Err e) h = tt
