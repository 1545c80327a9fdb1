use Rattle.std.proofs.Common.{ltb, leb, rules, ◌∙◌}
use Rattle.std.proofs.lemmas.List.Sorted.{IsPartitionPoint-from_clause}
use Rattle.algebra.specs.declared.halves.HalfStop.{HalfStop}
use Rattle.algebra.specs.Pairs.{half_at}
use Rattle.marked_automaton.proofs.Segments.{row_between}
use Rattle.algebra.proofs.rows.stops_from.Goals as goal

pub returns : goal.returns
returns c =
    let p = c.args.state in
    c.split_at-2.ensures.front
    ∙ row_between half_at c.args.stops.now c.split_at.result.1.now p c.partition_point-low.result c.partition_point-count.result c.requires
    c.split_at.ensures.back c.split_at.ensures.back_len c.partition_point-count.ensures.bound
    (λ parted. IsPartitionPoint-from_clause (λ (x : HalfStop). ltb (half_at x) p) _ _ c.partition_point-low.ensures.partitioned parted (λ a r q k. search rules))
    (λ parted. IsPartitionPoint-from_clause (λ (x : HalfStop). leb (half_at x) p) _ _ c.partition_point-count.ensures.partitioned parted (λ a r q k. search rules))
