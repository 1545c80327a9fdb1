use Rattle.std.proofs.Common.{ltb, leb, rules, ◌∙◌}
use Rattle.std.proofs.lemmas.List.Sorted.{IsPartitionPoint-from_clause}
use Rattle.marked_automaton.specs.declared.way.Stop.{Stop}
use Rattle.marked_automaton.proofs.Segments.{row_between}
use Rattle.algebra_minus.specs.Found.{stop_marks}
use Rattle.algebra_minus.proofs.stops.stops_with.Goals as goal

pub returns : goal.returns
returns c =
    let m = c.args.marks in
    c.split_at-2.ensures.front
    ∙ row_between stop_marks _ _ m _ _ c.requires c.split_at.ensures.back c.split_at.ensures.back_len c.partition_point-count.ensures.bound
    (λ parted. IsPartitionPoint-from_clause (λ (x : Stop). ltb (stop_marks x) m) _ _ c.partition_point-low.ensures.partitioned parted (λ a r q k. search rules))
    (λ parted. IsPartitionPoint-from_clause (λ (x : Stop). leb (stop_marks x) m) _ _ c.partition_point-count.ensures.partitioned parted (λ a r q k. search rules))
