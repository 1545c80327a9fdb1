use Rattle.std.proofs.Common.{◌≡◌, ◌≤◌, ◌-◌, length, drop}
use Rattle.formula_parser.specs.Signs.{closing_from}
use Rattle.formula_parser.proofs.sign.closing.Given as goal

abbrev pub invariant-loop-len : goal.invariant-loop-len
invariant-loop-len l = record {
  within : l.at ≤ length l.text;
  same : closing_from 0 l.text ≡ closing_from l.at (drop l.at l.text);
}

abbrev pub decreases-loop-len : goal.decreases-loop-len
decreases-loop-len l = length l.text - l.at
