-- Documents read by the sets of a table.
use Rattle.std.specs.Prelude.{◌≡◌, ℕ, ◌+◌, ◌-◌, ◌<◌, ◌≤◌, List, length, slice_get, reverse, ◌↔◌, false, Some}
use Rattle.span_core.specs.Lists.{Has, IsInOrder}
use Rattle.marked_automaton.specs.declared.way.Way.{Way}
use Rattle.marked_automaton.specs.Automaton.{Automaton}
use Rattle.segment_filter.specs.declared.fault.FilterFault.{FilterFault}
use Rattle.segment_filter.specs.declared.fault.FilterFault.TheVariants.{Full, OutOfMemory}
use Rattle.segment_filter.specs.Idling.{IsLed}
use Rattle.spanner_model.specs.Expression.{AtomTree}
use Rattle.place_automaton.specs.Atom.{AreBytes}
use Rattle.segment_filter.specs.Touching.{IsTouchedBy}
use Rattle.automaton_reading.specs.Reading.{LookUp}
use Rattle.set_table.specs.Tabled.{Tabled, asked_first, was_asked, weight}
use Rattle.numbered_lists.specs.Numbered.{set_at}

-- no way takes markers, so that a set has one edge at most on a byte
abbrev pub TakesNone : Automaton → Type 0
TakesNone A = (y : Way) → Has A.ways y → y.marks ≡ 0

-- the sets are there under their numbers
abbrev pub Extends : List (List ℕ) → List (List ℕ) → Type 0
Extends new old = (length old ≤ length new) × ((k : ℕ) → k < length old → set_at new k ≡ set_at old k)

-- the same automaton, and these sets
pub record Grows (new old : Tabled) : Type 0 where
  pub graph : new.graph ≡ old.graph
  pub sets : Extends new.sets old.sets

-- the table is full: it was not asked this before, and would weigh so much with it, which is more than its limit
abbrev pub IsFullBy : Tabled → LookUp → FilterFault → Type 0
IsFullBy t r (Full w) = (was_asked t r ≡ false) × (t.limit < w) × (w ≡ weight (asked_first t r))
IsFullBy t r OutOfMemory = Unit {0}

-- the set with this number is that of all states that the first k bytes lead to
abbrev pub IsAt : Tabled → List ℕ → ℕ → ℕ → Type 0
IsAt t d k j = (j < length t.sets) × IsInOrder ◌<◌ (set_at t.sets j) × ((q : ℕ) → Has (set_at t.sets j) q ↔ IsLed t.graph d k q)

-- the sets with these numbers are those that the bytes lead to, from none of them on: all of them, so that
-- where they end the bytes lead to no state
pub record ReadsAll (t : Tabled) (d : List ℕ) (numbers : List ℕ) : Type 0 where
  pub few : length numbers ≤ length d + 1
  pub led : (k j : ℕ) → slice_get numbers k ≡ Some j → IsAt t d k j
  pub rest : (k p : ℕ) → length numbers ≤ k → k ≤ length d → IsLed t.graph d k p → ⊥

-- two sets share a state that is at most `most`
abbrev pub HaveShared : ℕ → List ℕ → List ℕ → Type 0
HaveShared most set other = (r : ℕ) × Has set r × Has other r × (r ≤ most)

-- the bytes of the document lead to a state up to the position i, and those behind it lead back to it; it
-- is no more than `most`
abbrev pub MeetAt : Automaton → Automaton → ℕ → List ℕ → ℕ → Type 0
MeetAt F R most d i = (r : ℕ) × IsLed F d i r × IsLed R (reverse d) (length d - i) r × (r ≤ most)

-- two readings whose meetings are the positions that an atom touches
pub record AreReadingsOf (a : AtomTree) (F R : Automaton) (most : ℕ) : Type 0 where
  pub forward : TakesNone F
  pub backward : TakesNone R
  pub meet : (d : List ℕ) → AreBytes d → (i : ℕ) → ((i ≤ length d) × MeetAt F R most d i) ↔ IsTouchedBy a d i
