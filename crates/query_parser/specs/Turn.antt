-- What a turn of the code says of a step.
use Rattle.std.specs.Prelude.{◌≡◌, ◌⊎◌, ◌+◌, ℕ, Bool, List, drop, Result, Ok, Err}
use Rattle.spanner_model.specs.declared.query.Query.{Query}
use Rattle.spanner_model.specs.ExprView.{query_of}
use Rattle.spanner_model.specs.Expression.{AtomTree, atom}
use Rattle.formula_parser.specs.declared.fault.FormulaFault.{FormulaFault}
use Rattle.formula_parser.specs.Spells.{IsAtomAt}
use Rattle.formula_parser.specs.Faults.{HasFault as HasAtomFault}
use Rattle.query_parser.specs.declared.fault.QueryFault.{QueryFault}
use Rattle.query_parser.specs.declared.fault.QueryFault.TheVariants.{Formula, OutOfMemory}
use Rattle.query_parser.specs.Nest.{Nest, Body, with_unit}
use Rattle.query_parser.specs.Step.{Next, goes, reads_atom, stops, step}

-- the code did this step, of so many bytes, and left this open, or memory ran out
abbrev pub IsStep : Result ℕ QueryFault → Next → Nest → Type 0
IsStep (Ok len) next n = next ≡ goes len n
IsStep (Err OutOfMemory) next n = Unit {0}
IsStep (Err fault) next n = next ≡ stops (Err fault)

-- the code read the atom at the place, and left this open, or memory ran out
abbrev pub ReadAtom : Result ℕ QueryFault → List ℕ → ℕ → Nest → Nest → Type 0
ReadAtom (Ok len) text at n m =
    (a : AtomTree) × IsAtomAt text at (a, at + len) × (m ≡ with_unit (atom a) n)
ReadAtom (Err OutOfMemory) text at n m = Unit {0}
ReadAtom (Err fault) text at n m = (e : FormulaFault) × HasAtomFault text at e × (fault ≡ Formula e)

-- the code did the step at the place, or where an atom is due read it
abbrev pub IsTurn : Result ℕ QueryFault → List ℕ → ℕ → Nest → Nest → Type 0
IsTurn result text at n m =
    IsStep result (step at (drop at text) n) m ⊎ ((step at (drop at text) n ≡ reads_atom) × ReadAtom result text at n m)

-- the code did the step at the text's end
abbrev pub IsEnd : Result (Query × Bool) QueryFault → Next → Type 0
IsEnd (Ok x) next = next ≡ stops (Ok (query_of x.0, x.1))
IsEnd (Err OutOfMemory) next = Unit {0}
IsEnd (Err fault) next = next ≡ stops (Err fault)

-- P of the answer of reading, where memory lasts
abbrev pub AnswersBody : Result (Query × Bool) QueryFault → (Result Body QueryFault → Type 0) → Type 0
AnswersBody (Ok x) P = P (Ok (query_of x.0, x.1))
AnswersBody (Err OutOfMemory) P = Unit {0}
AnswersBody (Err fault) P = P (Err fault)
