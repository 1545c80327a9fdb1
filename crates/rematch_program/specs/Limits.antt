-- The limits that a query and a document may pass.
use Rattle.std.specs.Prelude.{◌≡◌, ◌≤◌, ◌⊎◌, ℕ, Some, length, slice_get}
use Rattle.spanner_model.specs.Captures.{VarName}
use Rattle.spanner_model.specs.Expression.{ExprTree, QueryTree}
use Rattle.marked_automaton.specs.declared.TheConstants.{MOST_STATES, MOST_WAYS}
use Rattle.query_automaton.specs.Parts.{HasPart, PartNumbers}
use Rattle.query_automaton.specs.QueryAutomaton.{of_lets}

-- of a part of a let, or of a part of the body, these are the numbers
abbrev pub IsPartOfQuery : QueryTree → PartNumbers → Type 0
IsPartOfQuery q n =
    ((k : ℕ) × (l : VarName × ExprTree) × (slice_get q.lets k ≡ Some l) × HasPart (of_lets q.lets k) l.1 n)
    ⊎ HasPart (of_lets q.lets (length q.lets)) q.body n

-- no part of the query is too large
abbrev pub PartsAreSmall : QueryTree → Type 0
PartsAreSmall q = (n : PartNumbers) → IsPartOfQuery q n → (n.states ≤ MOST_STATES) × (n.ways ≤ MOST_WAYS)
