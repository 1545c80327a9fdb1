-- When an atom's automaton is refused.
use Rattle.std.specs.Prelude.{◌≡◌, ℕ, ◌<◌, ◌≤◌, [], length, true}
use Rattle.spanner_model.specs.Expression.{AtomTree}
use Rattle.marked_automaton.specs.declared.fault.SizeFault.{SizeFault}
use Rattle.marked_automaton.specs.declared.fault.SizeFault.TheVariants.{States, Ways, OutOfMemory}
use Rattle.marked_automaton.specs.Faults.{IsSizeFaultOf}
use Rattle.place_automaton.specs.declared.TheConstants.{MOST_ENDS}
use Rattle.place_automaton.specs.declared.fault.AtomFault.{AtomFault}
use Rattle.place_automaton.specs.declared.fault.AtomFault.TheVariants.{Size, Ends}
use Rattle.place_automaton.specs.Capped.{capped}
use Rattle.place_automaton.specs.Counts.{count_states, count_ways}
use Rattle.place_automaton.specs.Variables.{with_vars}
use Rattle.place_automaton.specs.Words.{atom_automaton}

-- how many ends the automaton of an atom has
abbrev pub count_ends : AtomTree → ℕ
count_ends a = length (atom_automaton (with_vars [] a.formula) a).stops

-- a number is told only where it passes its limit, the states before the ways; memory may be wanting before
-- the ways are known
abbrev pub IsRefusalOf : ℕ → ℕ → SizeFault → Type 0
IsRefusalOf states ways (States count) = IsSizeFaultOf states ways (States count)
IsRefusalOf states ways (Ways count) = IsSizeFaultOf states ways (Ways count)
IsRefusalOf states ways OutOfMemory = Unit {0}

-- so for an atom; and ends are refused only of an atom that is tied to the end of the document, and only where they
-- pass their limit: the count passes it too, and is no more than they are
abbrev pub IsAtomRefusal : AtomTree → AtomFault → Type 0
IsAtomRefusal a (Size fault) = IsRefusalOf (capped (count_states a)) (capped (count_ways a)) fault
IsAtomRefusal a (Ends count) = (a.to_end ≡ true) × (MOST_ENDS < count) × (count ≤ count_ends a)
