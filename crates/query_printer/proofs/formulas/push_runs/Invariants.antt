use Rattle.std.proofs.Common.{◌≡◌, ◌++◌}
use Rattle.span_core.specs.Lists.{IsPrefixOf}
use Rattle.query_printer.specs.PrintedFormula.{runs_text}
use Rattle.query_printer.proofs.formulas.push_runs.Given as goal

abbrev pub invariant-loop-number : goal.invariant-loop-number
invariant-loop-number l = record {
  printed : l.out.items ≡ l.fn.out.items ++ runs_text l.set l.number;
  front : IsPrefixOf l.fn.out.items l.out.items;
}
