use Rattle.std.proofs.Common.{◌≡◌, ◌≤◌, ◌+◌, [], length, take}
use Rattle.std.specs.Vec.{vec_len, vec_capacity}
use Rattle.output_graph.specs.Graph.{sets_of}
use Rattle.output_graph.specs.Running.{Runs}
use Rattle.output_graph.specs.Sound.{graph_of}
use Rattle.output_graph.proofs.CodeLaws.{IsRunning}
use Rattle.output_graph.proofs.running.run_code.Given as goal

abbrev pub invariant-loop-instruction : goal.invariant-loop-instruction
invariant-loop-instruction g l = record {
  running : IsRunning l.fn.registers.sources.items l.at (Runs (graph_of l.fn.arena.cells l.fn.registers.sources.items [] 0 l.was) l.at l.lists.plan.now.value l.fn.steps)
      l.lists.code.now l.instruction-index l.lists.plan.now.value.held.items l.registers.sources.items l.arena.cells l.arena.holds l.steps;
  names : take (length l.fn.registers.sources.items) (sets_of l.registers.sources.items) ≡ sets_of l.fn.registers.sources.items;
  longer : length l.fn.registers.sources.items ≤ length l.registers.sources.items;
  spare : l.fn.arena.spare ≤ l.arena.spare + l.instruction-index;
  room : vec_len l.registers.sources + vec_capacity l.fn.registers.sources ≤ vec_len l.fn.registers.sources + vec_capacity l.registers.sources + l.instruction-index;
  counted : l.fn.steps ≤ l.steps;
}
