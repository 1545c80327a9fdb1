-- What unions and joins make of their parts, for both alike.
use Rattle.std.proofs.Common.{◌≤◌, List, length}
use Rattle.span_core.specs.declared.TheConstants.{MOST_VARIABLES}
use Rattle.spanner_model.specs.Expression.{ExprTree, union_all, join_all}
use Rattle.marked_automaton.specs.declared.fault.SizeFault.{SizeFault}
use Rattle.marked_automaton.specs.Automaton.{Marked}
use Rattle.marked_automaton.specs.Faults.{IsSizeFaultWithin}
use Rattle.algebra.specs.JoinedNames.{all_names}
use Rattle.query_automaton.specs.QueryAutomaton.{of_union, of_join}

pub data Operation : Type 0 where
  Union : Operation
  Join : Operation

-- the expression that an operation makes of parts
abbrev pub all_of : Operation → List ExprTree → ExprTree
all_of Union parts = union_all parts
all_of Join parts = join_all parts

-- the automaton that it makes of two
abbrev pub of_two : Operation → Marked → Marked → Marked
of_two Union A B = of_union A B
of_two Join A B = of_join A B

-- what is asked of the two
abbrev pub HaveFewNames : Marked → Marked → Type 0
HaveFewNames A B = length (all_names A.names B.names) ≤ MOST_VARIABLES

-- what it makes of the two is too large: the count passes the limit, and is no more than the number
abbrev pub AreTooLarge : Operation → Marked → Marked → SizeFault → Type 0
AreTooLarge o A B fault = IsSizeFaultWithin (of_two o A B).graph.states (length (of_two o A B).graph.ways) fault
