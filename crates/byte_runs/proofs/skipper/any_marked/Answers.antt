use Rattle.byte_runs.proofs.Marking.{eight_unmarked}
use Rattle.byte_runs.proofs.skipper.any_marked.Goals as goal

pub returns : goal.returns
returns c = eight_unmarked c.args.marks.now c.args.bytes.now c.args.place
