-- Joins of automata that reduce others.
use Rattle.std.proofs.Common.{◌≡◌, ℕ, ◌*◌, Bool, true, List, length, map, refl, sym, ap, ◌∙◌}
use Rattle.std.specs.Prelude.{IfErr, IfOk}
use Rattle.std.specs.List.{filter}
use Rattle.std.specs.declared.result.Result.{Result}
use Rattle.std.proofs.lemmas.Bool.{true≢false}
use Rattle.std.proofs.lemmas.Result.{IfOk-weaker, IfErr-weaker}
use Rattle.spanner_model.specs.Captures.{VarName}
use Rattle.span_core.proofs.HasLaws.{Has-map_cases}
use Rattle.marked_automaton.specs.declared.way.Way.{Way}
use Rattle.marked_automaton.specs.Automaton.{Automaton, IsMarked, Marked}
use Rattle.marked_automaton.specs.Laws.{WaysHaveBytes}
use Rattle.marked_automaton.specs.Reduct.{Reduces}
use Rattle.marked_automaton.proofs.Passing.{filter_cases, flat_map_cases, right_true}
use Rattle.marked_automaton.proofs.Rearranged.{reduct_of_itself}
use Rattle.marked_automaton.proofs.Reducts.{reduct_of_reduct}
use Rattle.marked_automaton.proofs.Sizes.{reduct_is_no_larger}
use Rattle.algebra.specs.declared.fault.JoinFault.{JoinFault}
use Rattle.algebra.specs.JoinedMarks.{agree_on, joined}
use Rattle.algebra.specs.JoinedNames.{all_names}
use Rattle.algebra.specs.Joining.{IsGroupedOf, IsJoinFault, IsJoinFaultWithin, IsJoinOf, join_over}
use Rattle.algebra.specs.Operations.{goes_with, has_some, join_of, meet, pair_way}
use Rattle.algebra.proofs.Followed.{no_bytes}
use Rattle.algebra.proofs.JoinResults.{faults_more}
use Rattle.algebra.proofs.ReductJoins.{reduct_of_join}
use Rattle.algebra.proofs.Whole.{join_whole}

-- each way of a join has some byte
pub join_bytes : (agree : ℕ → ℕ → Bool) (both : ℕ → ℕ → ℕ) (A B : Automaton) → WaysHaveBytes (join_of agree both A B)
join_bytes agree both A B y h e =
    let r = flat_map_cases (λ x. map (pair_way agree both B.states x) (filter (goes_with agree both x) B.ways)) A.ways y h in
    let s = Has-map_cases (pair_way agree both B.states r.0) (filter (goes_with agree both r.0) B.ways) y r.2 in
    let t = filter_cases (goes_with agree both r.0) B.ways s.0 s.1 in
    let bytes = meet r.0.bytes s.0.bytes in
    let some : has_some bytes ≡ true = right_true (agree r.0.marks s.0.marks) (has_some bytes) t.1 in
    true≢false (sym some ∙ no_bytes bytes (ap (λ (y : Way). y.bytes) s.2 ∙ e))

module _ (A1 A2 B1 B2 : Marked) (a1 : IsMarked A1) (a2 : IsMarked A2) (b1 : IsMarked B1) (b2 : IsMarked B2)
    (e1 : A1.names ≡ B1.names) (e2 : A2.names ≡ B2.names) (first : Reduces A1.graph B1.graph) (second : Reduces A2.graph B2.graph) where
  over : (all : List VarName) → Reduces (join_over A1 A2 all) (join_over B1 B2 all)
  over all =
      let is : join_over A1 A2 all ≡ join_of (agree_on B1.names B2.names all) (joined B1.names B2.names all) A1.graph A2.graph =
      (λ i. join_of (agree_on (e1 i) (e2 i) all) (joined (e1 i) (e2 i) all) A1.graph A2.graph) in
      rw (← is) at (reduct_of_join (agree_on B1.names B2.names all) (joined B1.names B2.names all) A1.graph B1.graph A2.graph B2.graph a1.whole b1.whole a2.whole b2.whole first second)

  names_are : all_names A1.names A2.names ≡ all_names B1.names B2.names
  names_are = λ i. all_names (e1 i) (e2 i)

  join_more : (J : Marked) → IsJoinOf A1 A2 J → IsJoinOf B1 B2 J
  join_more J j = record {
    names = j.names ∙ names_are;
    reduct = reduct_of_reduct J.graph (join_over A1 A2 J.names) (join_over B1 B2 J.names) j.reduct (over J.names);
    reached = j.reached;
  }

  fault_more : (e : JoinFault) → IsJoinFault A1 A2 e → IsJoinFault B1 B2 e
  fault_more e h =
      let all = all_names B1.names B2.names in
      let agree = agree_on A1.names A2.names all in
      let both = joined A1.names A2.names all in
      let few = reduct_is_no_larger (join_over A1 A2 all) (join_over B1 B2 all) (join_whole A1.graph A2.graph a1.whole a2.whole agree both) (join_bytes agree both A1.graph A2.graph) (over all) in
      faults_more (A1.graph.states * A2.graph.states) (B1.graph.states * B2.graph.states) (length (join_over A1 A2 all).ways) (length (join_over B1 B2 all).ways) (length (join_over A1 A2 all).stops)
      (length (join_over B1 B2 all).stops) e few.0 few.1 few.2
      (rw (← names_are) h)

-- the join with a first, or a second, automaton that is grouped first
module _ (A B G : Marked) (r : Result Marked JoinFault) where
  pub first_join : IsMarked B → IsGroupedOf A G → IfOk r (IsJoinOf G B) → IfOk r (IsJoinOf A B)
  first_join b g = IfOk-weaker r (IsJoinOf G B) (IsJoinOf A B) (join_more G B A B g.new b g.old b g.names refl g.reduct (reduct_of_itself B.graph b.whole))

  pub first_fault : IsMarked B → IsGroupedOf A G → IfErr r (IsJoinFault G B) → IfErr r (IsJoinFault A B)
  first_fault b g = IfErr-weaker r (IsJoinFault G B) (IsJoinFault A B) (fault_more G B A B g.new b g.old b g.names refl g.reduct (reduct_of_itself B.graph b.whole))

  pub second_join : IsMarked A → IsGroupedOf B G → IfOk r (IsJoinOf A G) → IfOk r (IsJoinOf A B)
  second_join a g = IfOk-weaker r (IsJoinOf A G) (IsJoinOf A B) (join_more A G A B a g.new a g.old refl g.names (reduct_of_itself A.graph a.whole) g.reduct)

  pub second_fault : IsMarked A → IsGroupedOf B G → IfErr r (IsJoinFault A G) → IfErr r (IsJoinFault A B)
  second_fault a g = IfErr-weaker r (IsJoinFault A G) (IsJoinFault A B) (fault_more A G A B a g.new a g.old refl g.names (reduct_of_itself A.graph a.whole) g.reduct)
