use Rattle.std.proofs.Common.{◌-◌, length}
use Rattle.byte_runs.proofs.ChainLaws.{IsTextSo}
use Rattle.byte_runs.proofs.chain.text_at.Given as goal

abbrev pub invariant-loop-k : goal.invariant-loop-k
invariant-loop-k l = IsTextSo l.sets l.offset l.text.items l.k

abbrev pub decreases-loop-k : goal.decreases-loop-k
decreases-loop-k l = length l.sets - l.k
