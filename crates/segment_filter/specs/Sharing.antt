-- Touched positions by the states that two readings share.
use Rattle.std.specs.Prelude.{ℕ, ◌≤◌, ◌↔◌, true, List}
use Rattle.spanner_model.specs.Captures.{VarName}
use Rattle.spanner_model.specs.Tree.{Tree}
use Rattle.spanner_model.specs.Expression.{AtomTree}
use Rattle.place_automaton.specs.Atom.{AreBytes}
use Rattle.place_automaton.specs.Places.{placed}
use Rattle.spanner_model.specs.Sequential.{IsSequential}
use Rattle.place_automaton.specs.Repeats.{HasOrderedRepeats}
use Rattle.place_automaton.specs.Words.{atom_automaton, closing_of, opening_of}
use Rattle.segment_filter.specs.Idling.{IsLed, LeadsOut}
use Rattle.segment_filter.specs.Touching.{IsTouchedBy}

-- how many places a formula has
abbrev pub formula_places : List VarName → Tree → ℕ
formula_places names f = (placed (opening_of names) (closing_of names) f 1).count

-- the atom tied to the document's start, whether it was or not
abbrev pub from_the_start : AtomTree → AtomTree
from_the_start a = record { from_start = true; to_end = a.to_end; formula = a.formula }

-- the bytes before the position lead to a place, or to Before, and from there those behind it lead to an
-- end with no further wait in Before: that is, by the automaton of the atom tied to the start
abbrev pub IsShared : List VarName → AtomTree → List ℕ → ℕ → Type 0
IsShared names a d i =
    (r : ℕ) × (r ≤ formula_places names a.formula) × IsLed (atom_automaton names a) d i r × LeadsOut (atom_automaton names (from_the_start a)) d i r

-- these are the positions that the atom touches
abbrev pub SharingLaw : Type 0
SharingLaw =
    (names : List VarName) (a : AtomTree) → IsSequential a.formula → HasOrderedRepeats a.formula →
    (d : List ℕ) → AreBytes d → (i : ℕ) → IsTouchedBy a d i ↔ IsShared names a d i
