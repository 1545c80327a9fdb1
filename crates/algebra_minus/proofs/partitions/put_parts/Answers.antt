use Rattle.std.proofs.Common.{◌≡◌, [], rules}
use Rattle.algebra_minus.proofs.PartitionLaws.{partitioning_all, partitioning_more}
use Rattle.algebra_minus.proofs.partitions.put_parts.Goals as goal

pub loop-piece-preserved : goal.loop-piece-preserved
loop-piece-preserved c =
    partitioning_more c.args.pieces.now.items c.loop-piece.pieces.items c.pop.new.self.items c.args.sets.now c.loop-piece.sets c.numbered.new.sets
    c.loop-piece.partition.items c.put_part.new.partition.items
    c.in-Some.piece c.in_ok-number.number c.in-Some.ensures.items c.loop-piece.invariant c.in_ok-number.ensures.sets c.in_ok-number.ensures.number c.in_ok-put_part.ensures

pub returns : goal.returns
returns c =
    let none : c.loop-piece.pieces.items ≡ [] = search (rules, c.in_default.ensures, c.in_default.not-Some) in
    partitioning_all c.args.pieces.now.items c.loop-piece.pieces.items c.args.sets.now c.loop-piece.sets c.loop-piece.partition.items none c.loop-piece.invariant
