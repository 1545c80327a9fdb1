use Rattle.std.proofs.Common.{ℕ, take}
use Rattle.span_core.specs.Lists.{Has}
use Rattle.marked_automaton.specs.Reach.{IsFlagged}
use Rattle.one_pass.proofs.settled.some_good.Given as goal

abbrev pub invariant-loop-state : goal.invariant-loop-state
invariant-loop-state l = (p : ℕ) → Has (take l.state-index l.states) p → IsFlagged l.good p → ⊥
