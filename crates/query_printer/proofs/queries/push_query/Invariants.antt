use Rattle.std.proofs.Common.{◌≡◌, ◌++◌, drop}
use Rattle.span_core.specs.Lists.{IsPrefixOf}
use Rattle.spanner_model.specs.ExprView.{lets_of}
use Rattle.query_parser.specs.Spells.{names_of}
use Rattle.query_printer.specs.PrintedQuery.{lets_text}
use Rattle.query_printer.proofs.queries.push_query.Given as goal

abbrev pub invariant-loop-k : goal.invariant-loop-k
invariant-loop-k l = record {
  printed : l.out.items ++ lets_text (names_of (lets_of l.query.lets)) (drop l.k (lets_of l.query.lets))
      ≡ l.fn.out.items ++ lets_text (names_of (lets_of l.query.lets)) (lets_of l.query.lets);
  front : IsPrefixOf l.fn.out.items l.out.items;
}
