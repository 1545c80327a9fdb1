use Rattle.std.proofs.Common.{arith}
use Rattle.one_pass.proofs.NumberedLaws.{ahead_none}
use Rattle.one_pass.proofs.pass.Pass.look_ahead.Goals as goal

pub loop-outlook-init : goal.loop-outlook-init
loop-outlook-init c = record { ahead = ahead_none c.requires.goes_on c.requires.stands c.is_graph.ensures.sources; within = omega arith; noted = omega arith }
