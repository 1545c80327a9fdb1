use Rattle.std.proofs.Common.{arith}
use Rattle.one_pass.proofs.KnownLaws.{look_ups_next}
use Rattle.one_pass.proofs.known.program_of.Goals as goal

pub loop-set-preserved : goal.loop-set-preserved
loop-set-preserved c =
    let r = c.in_ok-program.ensures in
    look_ups_next c.args.table.now c.args.byte c.args.sets.now c.loop-set.set-index c.loop-set.program.groups c.in_ok-program.program.groups r.0 (omega arith) c.loop-set.invariant r.1 r.2
