-- The automaton of an atom, and what it accepts.
use Rattle.std.specs.Prelude.{◌≡◌, ℕ, suc, ◌+◌, ◌<◌, ◌≤◌, ◌↔◌, List, [], ◌∷◌, ◌++◌, length, map, slice_get, Some, Bool, if◌then◌else◌, IsTrue}
use Rattle.spanner_model.specs.Captures.{VarName, Captures}
use Rattle.spanner_model.specs.Fit.{Fit}
use Rattle.place_automaton.specs.Repeats.{HasOrderedRepeats}
use Rattle.spanner_model.specs.Expression.{AtomTree}
use Rattle.marked_automaton.specs.declared.way.Way.{Way}
use Rattle.marked_automaton.specs.declared.way.Stop.{Stop}
use Rattle.marked_automaton.specs.Automaton.{Automaton, Accepts, all_bytes, idle_way}
use Rattle.place_automaton.specs.declared.fragment.Entry.{Entry}
use Rattle.place_automaton.specs.Places.{Places, placed}
use Rattle.place_automaton.specs.Reads.{blocks}
use Rattle.spanner_model.specs.Sequential.{IsSequential}

abbrev pub way_from_first : Entry → Way
way_from_first e = record { from = 0; marks = e.marks; bytes = e.bytes; to = e.to }

-- an end that is passed in front of any byte
abbrev pub way_after : ℕ → Stop → Way
way_after after s = record { from = s.state; marks = s.marks; bytes = all_bytes; to = after }

abbrev pub stop_before : ℕ → Stop
stop_before m = record { state = 0; marks = m }

abbrev pub unless : {X : Type 0} → Bool → List X → List X
unless b xs = if b then [] else xs

-- the ends of the last places, and of Before
abbrev pub place_stops : Places → List Stop
place_stops P = P.last ++ map stop_before P.null

abbrev pub after_ways : ℕ → Places → List Way
after_ways after P = idle_way after ∷ map (way_after after) (place_stops P)

-- the automaton of an atom: Before is 0, the places stand from 1 on, After comes last
abbrev pub automaton_of_places : Bool → Bool → Places → Automaton
automaton_of_places from_start to_end P = record {
  states = 1 + P.count + (if to_end then 0 else 1);
  starts = 0 ∷ [];
  ways = P.follow ++ (map way_from_first P.first ++ (unless from_start (idle_way 0 ∷ []) ++ unless to_end (after_ways (suc P.count) P)));
  stops = place_stops P ++ unless to_end (record { state = suc P.count; marks = 0 } ∷ []);
  idle = unless from_start (0 ∷ []) ++ unless to_end (suc P.count ∷ []);
}

abbrev pub automaton_of_atom : (VarName → ℕ) → (VarName → ℕ) → AtomTree → Automaton
automaton_of_atom opening closing a = automaton_of_places a.from_start a.to_end (placed opening closing a.formula 1)

abbrev pub AreBytes : List ℕ → Type 0
AreBytes d = (i b : ℕ) → slice_get d i ≡ Some b → b < 256

-- the formula fits a part, tied as the atom says, and w gives each position the block of the captures
abbrev pub FitsWithBlocks : (VarName → ℕ) → (VarName → ℕ) → AtomTree → List ℕ → (ℕ → ℕ) → Type 0
FitsWithBlocks opening closing a d w =
    (i : ℕ) × (j : ℕ) × (c : Captures) × Fit a.formula d i j c × (j ≤ length d)
    × (IsTrue a.from_start → i ≡ 0) × (IsTrue a.to_end → j ≡ length d)
    × ((p : ℕ) → p ≤ length d → w p ≡ blocks opening closing c p)

-- the automaton of an atom accepts exactly the words of its answers
abbrev pub AtomLaw : Type 0
AtomLaw =
    (opening closing : VarName → ℕ) (a : AtomTree) → IsSequential a.formula → HasOrderedRepeats a.formula →
    (d : List ℕ) → AreBytes d → (w : ℕ → ℕ) →
    Accepts (automaton_of_atom opening closing a) d w ↔ FitsWithBlocks opening closing a d w
