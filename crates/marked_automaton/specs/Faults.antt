-- When a size is refused.
use Rattle.std.specs.Prelude.{◌≡◌, ℕ, ◌<◌, ◌≤◌}
use Rattle.marked_automaton.specs.declared.TheConstants.{MOST_STATES, MOST_WAYS}
use Rattle.marked_automaton.specs.declared.fault.SizeFault.{SizeFault}
use Rattle.marked_automaton.specs.declared.fault.SizeFault.TheVariants.{States, Ways, OutOfMemory}

-- exactly by these numbers of states and ways: States where the first passes its limit, and else Ways
-- where the second does; want of memory has no cause, but comes only where neither does
abbrev pub IsSizeFaultOf : ℕ → ℕ → SizeFault → Type 0
IsSizeFaultOf states ways (States count) = (MOST_STATES < states) × (count ≡ states)
IsSizeFaultOf states ways (Ways count) = (states ≤ MOST_STATES) × (MOST_WAYS < ways) × (count ≡ ways)
IsSizeFaultOf states ways OutOfMemory = (states ≤ MOST_STATES) × (ways ≤ MOST_WAYS)

-- only by these numbers: the count that is told passes the limit, and is no more than the number
abbrev pub IsSizeFaultWithin : ℕ → ℕ → SizeFault → Type 0
IsSizeFaultWithin states ways (States count) = (MOST_STATES < count) × (count ≤ states)
IsSizeFaultWithin states ways (Ways count) = (MOST_WAYS < count) × (count ≤ ways)
IsSizeFaultWithin states ways OutOfMemory = Unit {0}
