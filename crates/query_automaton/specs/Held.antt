-- How much is held while a query is compiled, how many steps it takes, and when they are too many.
use Rattle.std.specs.Prelude.{◌≡◌, ℕ, ◌+◌, ◌*◌, ◌<◌, ◌≤◌, max, List, [], ◌∷◌, Some, slice_get, length}
use Rattle.spanner_model.specs.Captures.{VarName}
use Rattle.spanner_model.specs.Expression.{ExprTree, QueryTree, atom, named, union_end, union, join_end, join, project, minus}
use Rattle.marked_automaton.specs.declared.fault.SizeFault.TheVariants.{OutOfMemory}
use Rattle.marked_automaton.specs.Automaton.{Marked}
use Rattle.algebra.specs.declared.TheConstants.{MOST_ENDS}
use Rattle.query_automaton.specs.declared.effort.TheConstants.{MOST_HELD, MOST_STEPS}
use Rattle.query_automaton.specs.declared.fault.CompileFault.{CompileFault}
use Rattle.query_automaton.specs.declared.fault.CompileFault.TheVariants.{Size, Held, Ends, Spent}
use Rattle.query_automaton.specs.Parts.{HasLargePart, HasLargePartOf, HasPart, PartNumbers}
use Rattle.query_automaton.specs.QueryAutomaton.{of_lets}
use Rattle.query_automaton.specs.Steps.{steps_of_query, steps_within}

-- how many automata wait, at most, while the expression is compiled: for each union, join and difference that its innermost
-- part is in, what was made of the parts before
abbrev pub waits : ExprTree → ℕ
waits (atom a) = 0
waits (named k) = 0
waits union_end = 0
waits (union e rest) = max (1 + waits e) (waits rest)
waits join_end = 0
waits (join e rest) = max (1 + waits e) (waits rest)
waits (project names e) = waits e
waits (minus e g) = max (waits e) (1 + waits g)

abbrev pub waits_of_lets : List (VarName × ExprTree) → ℕ
waits_of_lets [] = 0
waits_of_lets (l ∷ lets) = max (waits l.1) (waits_of_lets lets)

-- how many automata are held at one time, at most: those of the lets, and those that wait
abbrev pub most_held : QueryTree → ℕ
most_held q = length q.lets + max (waits_of_lets q.lets) (waits q.body)

-- each part of the expression has at most so many states, ways and ends together
abbrev pub ArePartsWithin : (ℕ → Marked) → ExprTree → ℕ → Type 0
ArePartsWithin L e most = (n : PartNumbers) → HasPart L e n → n.states + n.ways + n.ends ≤ most

-- the same of a query: of its lets and of its body
abbrev pub IsWithin : QueryTree → ℕ → Type 0
IsWithin q most =
    ((k : ℕ) (l : VarName × ExprTree) → slice_get q.lets k ≡ Some l → ArePartsWithin (of_lets q.lets k) l.1 most)
    × ArePartsWithin (of_lets q.lets (length q.lets)) q.body most

-- a refusal where so much would be held
abbrev pub IsHoldFault : ℕ → CompileFault → Type 0
IsHoldFault all (Size fault) = fault ≡ OutOfMemory
IsHoldFault all (Held count) = (MOST_HELD < count) × (count ≤ all)
IsHoldFault all (Ends count) = ⊥
IsHoldFault all Spent = ⊥

-- an expression is refused, where so much is held before and so many steps are left, only for a part that is too large, or
-- because too much would be held, or one automaton would have too many ends, or too many steps would be taken. Where each
-- part is within a number, what is held is no more than the number for each automaton that waits, the ends are no more than
-- it, and the steps no more than it allows
abbrev pub HasCauseOf : (ℕ → Marked) → ℕ → ℕ → ExprTree → CompileFault → Type 0
HasCauseOf L held effort e (Size fault) = HasLargePartOf L e fault
HasCauseOf L held effort e (Held count) = (MOST_HELD < count) × ((most : ℕ) → ArePartsWithin L e most → count ≤ held + waits e * most)
HasCauseOf L held effort e (Ends count) = (MOST_ENDS < count) × ((most : ℕ) → ArePartsWithin L e most → count ≤ most)
HasCauseOf L held effort e Spent = (most : ℕ) → ArePartsWithin L e most → effort ≤ steps_within most e

-- and takes no more steps than that
abbrev pub Takes : (ℕ → Marked) → ExprTree → ℕ → ℕ → Type 0
Takes L e before after = (most : ℕ) → ArePartsWithin L e most → before ≤ after + steps_within most e

-- the same of a query
abbrev pub HasCause : QueryTree → CompileFault → Type 0
HasCause q (Size fault) = HasLargePart q fault
HasCause q (Held count) = (MOST_HELD < count) × ((most : ℕ) → IsWithin q most → count ≤ most_held q * most)
HasCause q (Ends count) = (MOST_ENDS < count) × ((most : ℕ) → IsWithin q most → count ≤ most)
HasCause q Spent = (most : ℕ) → IsWithin q most → MOST_STEPS ≤ steps_of_query most q

-- so a query is never refused for what it holds, where each part is within a number that is within the limit as often as
-- automata are held
abbrev pub QueriesOfSmallParts : Type 0
QueriesOfSmallParts = (q : QueryTree) (most count : ℕ) → IsWithin q most → most_held q * most ≤ MOST_HELD → ¬ HasCause q (Held count)

-- and never for its steps, where those that the number allows are fewer than the limit
abbrev pub QueriesOfFewSteps : Type 0
QueriesOfFewSteps = (q : QueryTree) (most : ℕ) → IsWithin q most → steps_of_query most q < MOST_STEPS → ¬ HasCause q Spent

-- nor is any query refused for the ends of one automaton, where each part is within a number that is within the limit
abbrev pub QueriesOfFewEnds : Type 0
QueriesOfFewEnds = (q : QueryTree) (most count : ℕ) → IsWithin q most → most ≤ MOST_ENDS → ¬ HasCause q (Ends count)
