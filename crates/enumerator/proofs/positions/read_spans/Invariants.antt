use Rattle.std.proofs.Common.{◌≡◌, map, take}
use Rattle.std.specs.List.{range_with_len}
use Rattle.enumerator.specs.Rows.{positions_of, span_of}
use Rattle.enumerator.proofs.positions.read_spans.Given as goal

abbrev pub invariant-loop-k : goal.invariant-loop-k
invariant-loop-k l = take l.k l.spans ≡ map (span_of l.v l.settled (positions_of l.positions)) (range_with_len 0 l.k)
