use Rattle.std.proofs.Common.{◌≡◌, ◌≤◌, ◌<◌, ℕ, length, take}
use Rattle.span_core.specs.Lists.{Has}
use Rattle.output_graph.specs.Sound.{edges_of}
use Rattle.output_graph.proofs.graph.make_room.Given as goal

abbrev pub invariant-loop-edge : goal.invariant-loop-edge
invariant-loop-edge l = record {
  pairs : l.next.pairs ≡ l.fn.next.pairs;
  room : length l.edges ≤ l.next.room;
  covered : (e : ℕ × ℕ) → Has (edges_of (take l.edge-index l.edges)) e → e.1 < l.next.known;
}
