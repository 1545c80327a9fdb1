-- What the grammar and the faults have in common.
use Rattle.std.specs.Prelude.{◌≡◌, ℕ, ◌⊎◌, ◌↔◌, List}
use Rattle.spanner_model.specs.Expression.{AtomTree}
use Rattle.formula_parser.specs.declared.fault.FormulaFault.{FormulaFault}
use Rattle.formula_parser.specs.Spells.{IsAtomAt, IsAtomOver}
use Rattle.formula_parser.specs.Faults.{HasFault, HasFaultOver}
use Rattle.formula_parser.specs.Alphabet.{of_bytes}
use Rattle.formula_parser.specs.Signs.{HasNoSign}

-- no text has two trees
abbrev pub HasOneTree : Type 0
HasOneTree = (text : List ℕ) (from : ℕ) (x y : AtomTree × ℕ) → IsAtomAt text from x → IsAtomAt text from y → x ≡ y

-- no text has a tree and a fault
abbrev pub HasNoTreeWithFault : Type 0
HasNoTreeWithFault = (text : List ℕ) (from : ℕ) (x : AtomTree × ℕ) (e : FormulaFault) → IsAtomAt text from x → HasFault text from e → ⊥

-- no text has two faults
abbrev pub HasOneFault : Type 0
HasOneFault = (text : List ℕ) (from : ℕ) (e d : FormulaFault) → HasFault text from e → HasFault text from d → e ≡ d

-- each text has a tree or a fault
abbrev pub HasTreeOrFault : Type 0
HasTreeOrFault = (text : List ℕ) (from : ℕ) → ((x : AtomTree × ℕ) × IsAtomAt text from x) ⊎ ((e : FormulaFault) × HasFault text from e)

-- over a text without the sign nothing else is an atom, or a fault, than over bytes
pub record KeepsBytes : Type 0 where
  pub trees : (text : List ℕ) (from : ℕ) (x : AtomTree × ℕ) → HasNoSign text from → IsAtomAt text from x ↔ IsAtomOver of_bytes text from x
  pub faults : (text : List ℕ) (from : ℕ) (e : FormulaFault) → HasNoSign text from → HasFault text from e ↔ HasFaultOver of_bytes text from e
