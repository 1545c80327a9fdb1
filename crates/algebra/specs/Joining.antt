-- What a join gives, of automata that are grouped and of others.
use Rattle.std.specs.Prelude.{◌≡◌, ℕ, ◌+◌, ◌*◌, ◌<◌, ◌≤◌, List, length}
use Rattle.spanner_model.specs.Captures.{VarName}
use Rattle.marked_automaton.specs.Automaton.{AreGrouped, Automaton, IsMarked, Marked}
use Rattle.marked_automaton.specs.Faults.{IsSizeFaultWithin}
use Rattle.marked_automaton.specs.Reduct.{IsReached, Reduces}
use Rattle.algebra.specs.declared.TheConstants.{MOST_ENDS}
use Rattle.algebra.specs.declared.fault.JoinFault.{JoinFault}
use Rattle.algebra.specs.declared.fault.JoinFault.TheVariants.{Size, Ends, Spent}
use Rattle.algebra.specs.JoinedMarks.{agree_on, joined}
use Rattle.algebra.specs.JoinedNames.{all_names}
use Rattle.algebra.specs.Operations.{join_of}

-- the join over these names
abbrev pub join_over : Marked → Marked → List VarName → Automaton
join_over A B all = join_of (agree_on A.names B.names all) (joined A.names B.names all) A.graph B.graph

-- J is a reduct of the join, over the right names, and its states are reached
pub record IsJoinOf (A B J : Marked) : Type 0 where
  pub names : J.names ≡ all_names A.names B.names
  pub reduct : Reduces J.graph (join_over A B J.names)
  pub reached : (p : ℕ) → p < J.graph.states → IsReached J.graph p

-- only by these numbers of states, ways and ends: the count that is told passes its limit, and is no more than the number
abbrev pub IsJoinFaultWithin : ℕ → ℕ → ℕ → JoinFault → Type 0
IsJoinFaultWithin states ways ends (Size fault) = IsSizeFaultWithin states ways fault
IsJoinFaultWithin states ways ends (Ends count) = (MOST_ENDS < count) × (count ≤ ends)
IsJoinFaultWithin states ways ends Spent = Unit {0}

-- a refusal of the join
abbrev pub IsJoinFault : Marked → Marked → JoinFault → Type 0
IsJoinFault A B e =
    let J = join_over A B (all_names A.names B.names) in
    IsJoinFaultWithin (A.graph.states * B.graph.states) (length J.ways) (length J.stops) e

-- steps are wanting only where there were no more than so many
abbrev pub IsSpentOn : ℕ → ℕ → JoinFault → Type 0
IsSpentOn effort most (Size fault) = Unit {0}
IsSpentOn effort most (Ends count) = Unit {0}
IsSpentOn effort most Spent = effort ≤ most

-- a join takes no more steps than these: three for each pair of ways, and one for each pair of ends
abbrev pub most_steps : Marked → Marked → ℕ
most_steps A B = 3 * (length A.graph.ways * length B.graph.ways) + length A.graph.stops * length B.graph.stops

-- a join has no more ends than the product of the numbers of ends, and is not refused for them where that is within
-- the limit
abbrev pub JoinsOfFewEnds : Type 0
JoinsOfFewEnds =
    (A B : Marked) →
    ((all : List VarName) → length (join_over A B all).stops ≤ length A.graph.stops * length B.graph.stops)
    × (length A.graph.stops * length B.graph.stops ≤ MOST_ENDS → (count : ℕ) → ¬ IsJoinFault A B (Ends count))

-- the same automaton but for the order of its ways, which are grouped
pub record IsGroupedOf (A G : Marked) : Type 0 where
  pub names : G.names ≡ A.names
  pub old : IsMarked A
  pub new : IsMarked G
  pub reduct : Reduces G.graph A.graph
  pub grouped : AreGrouped G.graph.ways
