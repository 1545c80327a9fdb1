-- What the reader's answer stands for.
use Rattle.std.specs.Prelude.{ℕ, Result, Ok, Err}
use Rattle.spanner_model.specs.declared.formula.Atom.{Atom}
use Rattle.spanner_model.specs.Expression.{AtomTree}
use Rattle.spanner_model.specs.View.{atom_of}
use Rattle.formula_parser.specs.declared.fault.FormulaFault.{FormulaFault}
use Rattle.formula_parser.specs.declared.fault.FormulaFault.TheVariants.{OutOfMemory}

-- P of the answer, unless memory ran out
abbrev pub Answers : Result (Atom × ℕ) FormulaFault → (Result (AtomTree × ℕ) FormulaFault → Type 0) → Type 0
Answers (Ok x) P = P (Ok (atom_of x.0, x.1))
Answers (Err OutOfMemory) P = Unit {0}
Answers (Err fault) P = P (Err fault)
