use Rattle.std.proofs.Common.{◌≡◌, ◌+◌, ◌-◌}
use Rattle.node_arena.specs.Nodes.{cells_from}
use Rattle.node_arena.specs.Copying.{copy_in}
use Rattle.node_arena.proofs.CopyLoops.{Moving}
use Rattle.node_arena.proofs.copying.move_nodes.Given as goal

abbrev pub invariant-loop : goal.invariant-loop
invariant-loop g l = record {
  moving : Moving l.nodes.live l.copies.live (copy_in l.numbers) (cells_from l.live l.nodes.live l.newest) l.at (l.live - l.counter);
  steps : l.steps ≡ l.fn.steps + l.counter;
}
