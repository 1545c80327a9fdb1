-- What a turn of the code says of a step, and what the code answers.
use Rattle.std.specs.Prelude.{◌≡◌, ℕ, Result, Ok, Err}
use Rattle.spanner_model.specs.View.{tree_of}
use Rattle.spanner_model.specs.declared.formula.Atom.{Atom}
use Rattle.formula_parser.specs.declared.fault.FormulaFault.{FormulaFault}
use Rattle.formula_parser.specs.declared.fault.FormulaFault.TheVariants.{OutOfMemory}
use Rattle.formula_parser.specs.declared.reader.Turn.{Turn}
use Rattle.formula_parser.specs.declared.reader.Turn.TheVariants.{Took, Done}
use Rattle.formula_parser.specs.Nest.{Nest}
use Rattle.formula_parser.specs.Step.{Body, Next, goes, stops}

-- the code did this step and left this open, or memory ran out
abbrev pub IsStep : Result Turn FormulaFault → Next → Nest → Type 0
IsStep (Ok (Took len)) next n = next ≡ goes len n
IsStep (Ok (Done f tied)) next n = next ≡ stops (Ok (tree_of f, tied))
IsStep (Err OutOfMemory) next n = Unit {0}
IsStep (Err fault) next n = next ≡ stops (Err fault)

-- P of what was read after the slash, where memory lasts
abbrev pub AnswersBody : Result (Atom × ℕ) FormulaFault → (Result (Body × ℕ) FormulaFault → Type 0) → Type 0
AnswersBody (Ok x) P = P (Ok ((tree_of x.0.formula, x.0.to_end), x.1))
AnswersBody (Err OutOfMemory) P = Unit {0}
AnswersBody (Err fault) P = P (Err fault)
