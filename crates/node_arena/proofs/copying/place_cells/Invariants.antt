use Rattle.std.proofs.Common.{◌≡◌, ℕ, ◌+◌, ◌-◌, ◌≤◌, IsSome}
use Rattle.std.specs.FinMap as map
use Rattle.node_arena.specs.declared.TheConstants.{NONE}
use Rattle.node_arena.specs.Nodes.{cells_from}
use Rattle.node_arena.specs.Copying.{Covers, copy_in}
use Rattle.node_arena.proofs.CopyLoops.{Placing}
use Rattle.node_arena.proofs.copying.place_cells.Given as goal

abbrev pub invariant-loop : goal.invariant-loop
invariant-loop g l = record {
  placing : Placing l.nodes.live l.copies.live (copy_in l.numbers) (cells_from l.live l.nodes.live l.newest) l.at (l.live - l.counter);
  covered : (c : ℕ) → IsSome (map.get l.nodes.live c) → Covers l.numbers c;
  none : copy_in l.numbers NONE ≡ NONE;
  room : l.live ≤ l.copies.spare + l.counter;
  steps : l.steps ≡ l.fn.steps + l.counter;
}
