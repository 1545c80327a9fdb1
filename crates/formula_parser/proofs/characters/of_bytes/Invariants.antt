use Rattle.std.proofs.Common.{◌-◌, ◌≤◌}
use Rattle.formula_parser.specs.CharView.{HoldsBelow}
use Rattle.formula_parser.proofs.characters.of_bytes.Given as goal

abbrev pub invariant-loop-b : goal.invariant-loop-b
invariant-loop-b l = record {
  most : l.b ≤ 255;
  holds : HoldsBelow l.set l.b l.bytes;
}

abbrev pub decreases-loop-b : goal.decreases-loop-b
decreases-loop-b l = 255 - l.b
