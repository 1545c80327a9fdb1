-- The numbers of states, ways and ends of all parts of a query: each step of a union or join counts as one.
use Rattle.std.specs.Prelude.{ℕ, ◌<◌, ◌≤◌, ◌≡◌, ◌⊎◌, Some, slice_get, length}
use Rattle.spanner_model.specs.Captures.{VarName}
use Rattle.span_core.specs.Lists.{Has}
use Rattle.spanner_model.specs.Expression.{ExprTree, QueryTree, atom, named, union_end, union, join_end, join, project, minus}
use Rattle.marked_automaton.specs.declared.TheConstants.{MOST_STATES, MOST_WAYS}
use Rattle.marked_automaton.specs.declared.fault.SizeFault.{SizeFault}
use Rattle.marked_automaton.specs.declared.fault.SizeFault.TheVariants.{States, Ways, OutOfMemory}
use Rattle.marked_automaton.specs.Automaton.{Marked}
use Rattle.place_automaton.specs.Counts.{count_states, count_ways}
use Rattle.place_automaton.specs.Refusals.{count_ends}
use Rattle.query_automaton.specs.QueryAutomaton.{of_union, of_join, automaton_of, of_lets}

pub record PartNumbers : Type 0 where
  pub states : ℕ
  pub ways : ℕ
  pub ends : ℕ

abbrev pub numbers_of : Marked → PartNumbers
numbers_of M = record { states = M.graph.states; ways = length M.graph.ways; ends = length M.graph.stops }

-- of a part of the expression these are the numbers: of an atom those that its formula is counted by, of another
-- part those of its automaton
module _ (L : ℕ → Marked) where
  abbrev mutual
    pub HasPart : ExprTree → PartNumbers → Type 0
    HasPart (atom a) n = n ≡ record { states = count_states a; ways = count_ways a; ends = count_ends a }
    HasPart (named k) n = n ≡ numbers_of (L k)
    HasPart union_end n = ⊥
    HasPart (union e rest) n = HasPart e n ⊎ HasUnionStep (automaton_of L e) rest n
    HasPart join_end n = ⊥
    HasPart (join e rest) n = HasPart e n ⊎ HasJoinStep (automaton_of L e) rest n
    HasPart (project names e) n = HasPart e n ⊎ (n ≡ numbers_of (automaton_of L (project names e)))
    HasPart (minus e g) n = HasPart e n ⊎ (HasPart g n ⊎ (n ≡ numbers_of (automaton_of L (minus e g))))

    pub HasUnionStep : Marked → ExprTree → PartNumbers → Type 0
    HasUnionStep A (union e rest) n =
        HasPart e n ⊎ ((n ≡ numbers_of (of_union A (automaton_of L e))) ⊎ HasUnionStep (of_union A (automaton_of L e)) rest n)
    HasUnionStep A _ n = ⊥

    pub HasJoinStep : Marked → ExprTree → PartNumbers → Type 0
    HasJoinStep A (join e rest) n =
        HasPart e n ⊎ ((n ≡ numbers_of (of_join A (automaton_of L e))) ⊎ HasJoinStep (of_join A (automaton_of L e)) rest n)
    HasJoinStep A _ n = ⊥

-- a size is refused only where some part of the expression passes it; the count passes the limit and is
-- no more than the part's number
abbrev pub HasLargePartOf : (ℕ → Marked) → ExprTree → SizeFault → Type 0
HasLargePartOf L e (States count) = (MOST_STATES < count) × ((n : PartNumbers) × HasPart L e n × (count ≤ n.states))
HasLargePartOf L e (Ways count) = (MOST_WAYS < count) × ((n : PartNumbers) × HasPart L e n × (count ≤ n.ways))
HasLargePartOf L e OutOfMemory = Unit {0}

-- the same of a query: of one of its lets, or of its body
abbrev pub HasLargePart : QueryTree → SizeFault → Type 0
HasLargePart q fault =
    ((k : ℕ) × (l : VarName × ExprTree) × (slice_get q.lets k ≡ Some l) × HasLargePartOf (of_lets q.lets k) l.1 fault)
    ⊎ HasLargePartOf (of_lets q.lets (length q.lets)) q.body fault

-- each atom of the expression is within the limits
abbrev pub HasSmallAtoms : ExprTree → Type 0
HasSmallAtoms (atom a) = (count_states a ≤ MOST_STATES) × (count_ways a ≤ MOST_WAYS)
HasSmallAtoms (named k) = Unit {0}
HasSmallAtoms union_end = Unit {0}
HasSmallAtoms (union e rest) = HasSmallAtoms e × HasSmallAtoms rest
HasSmallAtoms join_end = Unit {0}
HasSmallAtoms (join e rest) = HasSmallAtoms e × HasSmallAtoms rest
HasSmallAtoms (project names e) = HasSmallAtoms e
HasSmallAtoms (minus e g) = HasSmallAtoms e × HasSmallAtoms g

abbrev pub AtomsAreSmall : QueryTree → Type 0
AtomsAreSmall q = ((l : VarName × ExprTree) → Has q.lets l → HasSmallAtoms l.1) × HasSmallAtoms q.body
