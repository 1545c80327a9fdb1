use Rattle.byte_runs.specs.Runs.{AreOutsideBelow}
use Rattle.byte_runs.proofs.skipper.leaving_of.Given as goal

abbrev pub invariant-loop-number : goal.invariant-loop-number
invariant-loop-number l = AreOutsideBelow l.number l.set l.leaving
