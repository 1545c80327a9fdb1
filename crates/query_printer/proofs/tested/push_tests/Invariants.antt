use Rattle.std.proofs.Common.{◌≡◌, ◌++◌, map}
use Rattle.std.specs.Prelude.{codes}
use Rattle.span_core.specs.Lists.{IsPrefixOf}
use Rattle.query_printer.specs.PrintedTested.{test_text, tests_text}
use Rattle.query_printer.proofs.PrintedParts.{texts_from}
use Rattle.query_printer.proofs.tested.push_tests.Given as goal

abbrev pub invariant-loop-k : goal.invariant-loop-k
invariant-loop-k l = record {
  printed : l.out.items ++ texts_from (codes ", ") l.k (map test_text l.asked) ≡ l.fn.out.items ++ tests_text l.asked;
  front : IsPrefixOf l.fn.out.items l.out.items;
}
