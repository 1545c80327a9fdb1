use Rattle.std.proofs.Common.{◌≡◌, List, Option, length, take}
use Rattle.std.specs.List.{All}
use Rattle.span_core.specs.declared.span.Span.{Span}
use Rattle.span_core.specs.Blocks.{IsRowOfBlocks}
use Rattle.span_core.proofs.RowOfBlocks.{IsListed}
use Rattle.span_core.proofs.row.Row.of_blocks.Given as goal

abbrev pub invariant-loop-k : goal.invariant-loop-k
invariant-loop-k l = record {
  so_far : length l.row ≡ l.k;
  marked : All (IsListed l.blocks) l.row;
  only : (row : List (Option Span)) → IsRowOfBlocks l.v l.blocks row → l.row ≡ take l.k row;
}
