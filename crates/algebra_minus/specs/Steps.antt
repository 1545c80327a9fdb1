-- How many steps making a difference takes at most.
use Rattle.std.specs.Prelude.{ℕ, ◌+◌, ◌*◌, ◌≤◌, List, length}
use Rattle.marked_automaton.specs.declared.way.Way.{Way}
use Rattle.marked_automaton.specs.Automaton.{Automaton}
use Rattle.marked_automaton.specs.Faults.{IsSizeFaultWithin}
use Rattle.algebra_minus.specs.declared.fault.MinusFault.{MinusFault}
use Rattle.algebra_minus.specs.declared.fault.MinusFault.TheVariants.{Size, Spent}
use Rattle.algebra_minus.specs.Counts.{HasPairs, HasWays, IsMinusFault}
use Rattle.algebra_minus.specs.DifferenceOf.{difference_of}

-- to follow one set with one block
abbrev pub partition_steps : Automaton → ℕ
partition_steps B = 26000 + 6500 * B.states + 260 * length B.ways

-- to find which states of the right side cover the next
abbrev pub covering_steps : Automaton → ℕ
covering_steps B = 32 * B.states + length B.ways

-- to try the ends of A at one pair
abbrev pub end_steps : Automaton → Automaton → ℕ
end_steps A B = length A.stops * (1 + length B.stops)

-- a difference of so many states and ways
abbrev pub steps_with : Automaton → Automaton → ℕ → ℕ → ℕ
steps_with A B states ways = (1 + ways) * partition_steps B + states * end_steps A B

abbrev pub most_steps : Automaton → Automaton → ℕ
most_steps A B = steps_with A B (difference_of A B).states (length (difference_of A B).ways)

-- a refusal: of a size that is too large, or where there were no more steps than the difference may take
abbrev pub IsMinusRefusal : Automaton → Automaton → ℕ → MinusFault → Type 0
IsMinusRefusal A B effort (Size fault) = IsMinusFault A B fault
IsMinusRefusal A B effort Spent = effort ≤ most_steps A B

-- by no other numbers of states and ways than these
abbrev pub IsRefusedWithin : ℕ → ℕ → MinusFault → Type 0
IsRefusedWithin states ways (Size fault) = IsSizeFaultWithin states ways fault
IsRefusedWithin states ways Spent = Unit {0}

-- ---- while it is made

-- there are no more pairs, and no more ways between them, than so many
abbrev pub HasAtMostPairs : Automaton → Automaton → ℕ → Type 0
HasAtMostPairs A B most = (n : ℕ) → HasPairs A B n → n ≤ most

abbrev pub HasAtMostWays : Automaton → Automaton → ℕ → Type 0
HasAtMostWays A B most = (n : ℕ) → HasWays A B n → n ≤ most

-- what one set and one block have of that: the rest is for the states that cover the next
abbrev pub partition_room : Automaton → ℕ
partition_room B = 26000 + 6468 * B.states + 259 * length B.ways

-- no more is taken than one partition costs for each way that is made
abbrev pub IsPaid : Automaton → ℕ → List Way → ℕ → List Way → Type 0
IsPaid B before old after new = before + length old * partition_room B ≤ after + length new * partition_room B

-- nor than for each way that there may be, and for one more
abbrev pub IsPaidOnce : Automaton → Automaton → ℕ → List Way → ℕ → Type 0
IsPaidOnce A B before old after =
    (most : ℕ) → HasAtMostWays A B most → before + length old * partition_room B ≤ after + (1 + most) * partition_room B
