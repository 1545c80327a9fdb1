use Rattle.std.proofs.Common.{ℕ, ◌<◌, take}
use Rattle.std.specs.Prelude.{IsTrue}
use Rattle.std.specs.FinSet as bytes
use Rattle.span_core.specs.Lists.{Has}
use Rattle.output_graph.specs.Graph.{Source, sources}
use Rattle.set_table.specs.Tabled.{Stays}
use Rattle.one_pass.proofs.places.stays_of.Given as goal

-- the sets so far stay on them
abbrev pub invariant-loop-k : goal.invariant-loop-k
invariant-loop-k l =
    (b : ℕ) → b < 256 → IsTrue (bytes.contains l.stays b) → (x : Source) → Has (take l.k (sources l.graph)) x → Stays l.table x.set b
