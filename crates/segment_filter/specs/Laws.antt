-- Laws of reading a document at some of its positions alone.
use Rattle.std.specs.Prelude.{ℕ, ◌↔◌, Bool, true, List}
use Rattle.spanner_model.specs.Captures.{VarName}
use Rattle.spanner_model.specs.Expression.{AtomTree}
use Rattle.marked_automaton.specs.Automaton.{Automaton}
use Rattle.automaton_reading.specs.Chosen.{IsReadWith}
use Rattle.place_automaton.specs.Atom.{AreBytes}
use Rattle.spanner_model.specs.Sequential.{IsSequential}
use Rattle.place_automaton.specs.Repeats.{HasOrderedRepeats}
use Rattle.place_automaton.specs.Words.{atom_automaton}
use Rattle.segment_filter.specs.Idling.{HasIdleWays, WaitsOutside}
use Rattle.segment_filter.specs.Touching.{Contains, IsSetOf, IsTouchedBy}

-- reading at the positions of K, and by idle states alone at the others, finds all accepted words and no others
abbrev pub ReadsTheSame : Automaton → List ℕ → (ℕ → Bool) → Type 0
ReadsTheSame A d K = (w : ℕ → ℕ) → IsReadWith A K d w ↔ IsReadWith A (λ i. true) d w

-- it does where the automaton only waits outside of K
abbrev pub WaitingLaw : Type 0
WaitingLaw =
    (A : Automaton) → HasIdleWays A → (d : List ℕ) → AreBytes d → (K : ℕ → Bool) → WaitsOutside A d K → ReadsTheSame A d K

-- the automaton of an atom, at the positions that the atom touches
abbrev pub AtomAtTouched : Type 0
AtomAtTouched =
    (names : List VarName) (a : AtomTree) → IsSequential a.formula → HasOrderedRepeats a.formula →
    (d : List ℕ) → AreBytes d → (K : ℕ → Bool) → IsSetOf K (IsTouchedBy a d) → ReadsTheSame (atom_automaton names a) d K

-- and at these and any others
abbrev pub AtomAtMore : Type 0
AtomAtMore =
    (names : List VarName) (a : AtomTree) → IsSequential a.formula → HasOrderedRepeats a.formula →
    (d : List ℕ) → AreBytes d → (K : ℕ → Bool) → Contains K (IsTouchedBy a d) → ReadsTheSame (atom_automaton names a) d K

-- it only waits outside of them
abbrev pub AtomWaits : Type 0
AtomWaits =
    (names : List VarName) (a : AtomTree) → IsSequential a.formula → HasOrderedRepeats a.formula →
    (d : List ℕ) (K : ℕ → Bool) → Contains K (IsTouchedBy a d) → WaitsOutside (atom_automaton names a) d K
