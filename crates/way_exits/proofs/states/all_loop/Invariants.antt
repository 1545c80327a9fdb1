use Rattle.std.proofs.Common.{ℕ, take}
use Rattle.span_core.specs.Lists.{Has}
use Rattle.way_exits.specs.Waiting.{IsLooping}
use Rattle.way_exits.proofs.states.all_loop.Given as goal

abbrev pub invariant-loop-state : goal.invariant-loop-state
invariant-loop-state l = (p : ℕ) → Has (take l.state-index l.states) p → IsLooping l.ways p
