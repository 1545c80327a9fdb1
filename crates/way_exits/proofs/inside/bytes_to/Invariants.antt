use Rattle.std.proofs.Common.{ℕ}
use Rattle.std.specs.Prelude.{IsTrue}
use Rattle.std.specs.FinSet as bytes
use Rattle.way_exits.specs.Home.{LeadsTo}
use Rattle.way_exits.proofs.inside.bytes_to.Given as goal

abbrev pub invariant-loop-way : goal.invariant-loop-way
invariant-loop-way l = (b : ℕ) → IsTrue (bytes.contains l.taken b) → LeadsTo l.ways l.states l.state b
