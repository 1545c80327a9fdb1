use Rattle.std.proofs.Common.{◌∙◌, ap, arith, not}
use Rattle.std.proofs.lemmas.List.{length-set}
use Rattle.byte_runs.proofs.Marking.{one_more_mark}
use Rattle.byte_runs.proofs.skipper.outside_of.Goals as goal

pub loop-byte-preserved : goal.loop-byte-preserved
loop-byte-preserved c = (
  length-set c.loop-byte.outside c.loop-byte.byte (not c.contains.result) ∙ c.loop-byte.invariant.0,
  one_more_mark c.args.set.now c.loop-byte.outside c.loop-byte.byte (not c.contains.result) (ap not c.contains.ensures) (omega arith) c.loop-byte.invariant.1,
)
