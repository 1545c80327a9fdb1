-- What the printed forms and the grammar have in common.
use Rattle.std.specs.Prelude.{◌≡◌, ℕ, ◌+◌, ◌≤◌, false, List, ◌++◌, length}
use Rattle.spanner_model.specs.Tree.{Tree}
use Rattle.spanner_model.specs.WellBuilt.{IsWellBuilt}
use Rattle.spanner_model.specs.Expression.{AtomTree, untied}
use Rattle.formula_parser.specs.Alphabet.{of_bytes}
use Rattle.formula_parser.specs.Signs.{is_sign}
use Rattle.formula_parser.specs.Spells.{Spells, IsAtomAt}
use Rattle.query_printer.specs.PrintedFormula.{printed, most_open, tied_text, atom_text}

-- within the limit of what may be open at once, the printed form of a formula spells it
abbrev pub FormulasSpell : Type 0
FormulasSpell =
    (f : Tree) (after : List ℕ) → IsWellBuilt f → most_open f ≤ 100 →
    Spells of_bytes (printed f) (untied f) after

-- with its ties it spells the atom
abbrev pub AtomsSpell : Type 0
AtomsSpell = (a : AtomTree) (after : List ℕ) → IsWellBuilt a.formula → most_open a.formula ≤ 100 → Spells of_bytes (tied_text a) a after

-- and between slashes, wherever it stands in a text, it is that atom, unless the sign of formulas over characters follows
abbrev pub AtomsStand : Type 0
AtomsStand =
    (before after : List ℕ) (a : AtomTree) → is_sign after ≡ false → IsWellBuilt a.formula → most_open a.formula ≤ 100 →
    IsAtomAt (before ++ (atom_text a ++ after)) (length before) (a, length before + length (atom_text a))
