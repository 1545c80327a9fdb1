use Rattle.std.proofs.Common.{length}
use Rattle.algebra_minus.specs.Partitions.{IsPartitioning}
use Rattle.algebra_minus.proofs.partitions.put_parts.Given as goal

abbrev pub invariant-loop-piece : goal.invariant-loop-piece
invariant-loop-piece l = IsPartitioning l.initial.pieces.items l.pieces.items l.initial.sets l.sets l.partition.items

abbrev pub decreases-loop-piece : goal.decreases-loop-piece
decreases-loop-piece l = length l.pieces.items
