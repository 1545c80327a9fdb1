use Rattle.marked_automaton.specs.Reach.{IsFlagged}
use Rattle.one_pass.specs.Settling.{IsSettledSet}
use Rattle.one_pass.specs.Flags.{AreToldTo}
use Rattle.one_pass.proofs.settled.settled_sources.Given as goal

-- the first k sources have been told
abbrev pub invariant-loop-k : goal.invariant-loop-k
invariant-loop-k l = AreToldTo (IsSettledSet (λ q. ¬ IsFlagged l.unspent q) (IsFlagged l.lasting)) l.table l.graph l.k l.flags.items
