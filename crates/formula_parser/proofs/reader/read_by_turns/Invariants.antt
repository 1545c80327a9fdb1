use Rattle.std.proofs.Common.{◌≡◌, ℕ, ◌≤◌, ◌-◌, length, drop, Result}
use Rattle.formula_parser.specs.declared.fault.FormulaFault.{FormulaFault}
use Rattle.formula_parser.specs.View.{nest_of, alphabet_seen}
use Rattle.formula_parser.specs.Dialect.{Dialect, Speaks, alphabet_of}
use Rattle.formula_parser.specs.Step.{Body, Ends}
use Rattle.formula_parser.proofs.reader.read_by_turns.Given as goal

abbrev pub invariant-loop-len : goal.invariant-loop-len
invariant-loop-len l = record {
  within : l.at ≤ length l.text;
  goes_on : (lang : Dialect) → Speaks lang → alphabet_of lang ≡ alphabet_seen l.alphabet → (r : Result (Body × ℕ) FormulaFault) →
      Ends lang l.at (drop l.at l.text) (nest_of l.nest) r → Ends lang l.fn.at (drop l.fn.at l.text) (nest_of l.fn.nest) r;
}

abbrev pub decreases-loop-len : goal.decreases-loop-len
decreases-loop-len l = length l.text - l.at
