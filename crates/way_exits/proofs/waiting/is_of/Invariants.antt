use Rattle.std.proofs.Common.{ℕ, take}
use Rattle.span_core.specs.Lists.{Has}
use Rattle.way_exits.proofs.waiting.is_of.Given as goal

abbrev pub invariant-loop-state : goal.invariant-loop-state
invariant-loop-state l = (p : ℕ) → Has (take l.state-index l.set) p → Has l.states p
