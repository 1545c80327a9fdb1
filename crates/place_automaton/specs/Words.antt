-- The words of rows.
use Rattle.std.specs.Prelude.{◌≡◌, ℕ, ◌+◌, ◌*◌, ◌^◌, ◌≤◌, ◌↔◌, List, [], ◌∷◌, length, if◌then◌else◌}
use Rattle.std.specs.Str.{bytes_eq}
use Rattle.spanner_model.specs.Answer.{FitsSomewhere}
use Rattle.spanner_model.specs.Captures.{VarName, Mapping, row_of}
use Rattle.spanner_model.specs.Sequential.{HasVar, IsSequential}
use Rattle.place_automaton.specs.Repeats.{HasOrderedRepeats}
use Rattle.span_core.specs.Lists.{Has, AreDistinct}
use Rattle.span_core.specs.Block.{block}
use Rattle.spanner_model.specs.Answers.{SpanRow}
use Rattle.spanner_model.specs.Expression.{AtomTree}
use Rattle.place_automaton.specs.Atom.{automaton_of_atom, AreBytes}
use Rattle.marked_automaton.specs.Automaton.{Automaton, Accepts, IsWhole}

-- the bit of a variable's opening, and of its closing
abbrev pub opening_of : List VarName → VarName → ℕ
opening_of [] x = 0
opening_of (y ∷ ys) x = if bytes_eq y x then 2 ^ (2 * length ys + 1) else opening_of ys x

abbrev pub closing_of : List VarName → VarName → ℕ
closing_of [] x = 0
closing_of (y ∷ ys) x = if bytes_eq y x then 2 ^ (2 * length ys) else closing_of ys x

-- w gives each position of the document the block of the row there
abbrev pub IsWordOf : SpanRow → List ℕ → (ℕ → ℕ) → Type 0
IsWordOf row d w = (p : ℕ) → p ≤ length d → w p ≡ block row p

-- w is the word of the row of an answer
abbrev pub IsAnswerWord : List VarName → AtomTree → List ℕ → (ℕ → ℕ) → Type 0
IsAnswerWord names a d w =
    (m : Mapping) × FitsSomewhere a d m × IsWordOf (row_of names m) d w

abbrev pub atom_automaton : List VarName → AtomTree → Automaton
atom_automaton names a = automaton_of_atom (opening_of names) (closing_of names) a

abbrev pub AtomRowLaw : Type 0
AtomRowLaw =
    (names : List VarName) (a : AtomTree) → AreDistinct names → ((x : VarName) → HasVar a.formula x → Has names x) →
    IsSequential a.formula → HasOrderedRepeats a.formula → (d : List ℕ) → AreBytes d → (w : ℕ → ℕ) →
    Accepts (atom_automaton names a) d w ↔ IsAnswerWord names a d w

-- the automaton of an atom has no state outside of its states
abbrev pub WholeLaw : Type 0
WholeLaw = (names : List VarName) (a : AtomTree) → IsWhole (atom_automaton names a)
