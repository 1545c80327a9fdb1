use Rattle.byte_runs.proofs.ChainLaws.{AreLevelsSo}
use Rattle.byte_runs.proofs.chain.levels_of.Given as goal

abbrev pub invariant-loop-set : goal.invariant-loop-set
invariant-loop-set l = AreLevelsSo l.sets l.levels.items l.set-index
