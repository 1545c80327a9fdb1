use Rattle.std.proofs.Common.{◌≡◌, ◌++◌, ◌∷◌, []}
use Rattle.span_core.specs.Lists.{IsPrefixOf}
use Rattle.query_printer.specs.PrintedQuery.{joined}
use Rattle.query_printer.proofs.PrintedParts.{texts_from}
use Rattle.query_printer.proofs.queries.push_keep.Given as goal

abbrev pub invariant-loop-k : goal.invariant-loop-k
invariant-loop-k l = record {
  printed : l.out.items ++ texts_from (44 ∷ []) l.k l.names ≡ l.fn.out.items ++ joined (44 ∷ []) l.names;
  front : IsPrefixOf l.fn.out.items l.out.items;
}
