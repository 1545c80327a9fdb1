use Rattle.std.proofs.Common.{◌≡◌, ◌≤◌}
use Rattle.query_printer.specs.PrintedFormula.{bytes_below}
use Rattle.query_printer.proofs.formulas.members.Given as goal

abbrev pub invariant-loop-number : goal.invariant-loop-number
invariant-loop-number l = record {
  few : l.count ≤ l.number;
  counted : l.count ≡ bytes_below l.set l.number;
}
