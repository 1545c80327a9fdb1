use Rattle.std.proofs.Common.{◌≤◌, ◌+◌, ℕ, [], length, drop}
use Rattle.std.specs.Vec.{vec_capacity, vec_len}
use Rattle.output_graph.specs.Graph.{Graph}
use Rattle.output_graph.specs.Planned.{AreRun, AreWithin, MayRun, codes_long}
use Rattle.output_graph.specs.Pools.{programs_in}
use Rattle.output_graph.specs.Sound.{IsSound, graph_of}
use Rattle.output_graph.proofs.planned.run_planned.Given as goal

-- those before have been run: what is left, from here, gives the whole from the start
abbrev pub invariant-loop-one : goal.invariant-loop-one
invariant-loop-one g l = record {
  within : AreWithin (length l.pool.parts.items) (drop l.one-index l.planned);
  may : MayRun (programs_in l.pool.parts.items) (drop l.one-index l.planned) (graph_of l.arena.cells l.registers.sources.items [] 0 l.was) l.steps;
  sound : IsSound (graph_of l.arena.cells l.registers.sources.items [] 0 l.was) l.arena.holds;
  spare : codes_long l.pool.parts.items (drop l.one-index l.planned) ≤ l.arena.spare;
  room : vec_len l.registers.sources + codes_long l.pool.parts.items (drop l.one-index l.planned) ≤ vec_capacity l.registers.sources;
  run : (h : Graph) (after : ℕ) → AreRun (programs_in l.pool.parts.items) (drop l.one-index l.planned) (graph_of l.arena.cells l.registers.sources.items [] 0 l.was) h l.steps after →
      AreRun (programs_in l.pool.parts.items) l.planned (graph_of l.fn.arena.cells l.fn.registers.sources.items [] 0 l.was) h l.fn.steps after;
}
