use Rattle.std.proofs.Common.{◌≡◌, ◌+◌, length, drop}
use Rattle.output_graph.specs.Planned.{AreWithin, codes_long}
use Rattle.output_graph.proofs.planned.room_for.Given as goal

abbrev pub invariant-loop-one : goal.invariant-loop-one
invariant-loop-one l = record {
  within : AreWithin (length l.pool.parts.items) (drop l.one-index l.planned);
  room : l.room + codes_long l.pool.parts.items (drop l.one-index l.planned) ≡ codes_long l.pool.parts.items l.planned;
}
