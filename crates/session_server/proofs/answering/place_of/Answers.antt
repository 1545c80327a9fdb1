use Rattle.std.proofs.Common.{rules, arith}
use Rattle.session_server.proofs.Opens.{none_more}
use Rattle.session_server.proofs.answering.place_of.Goals as goal

pub loop-k-preserved : goal.loop-k-preserved
loop-k-preserved c = (
  omega (arith, c.loop-k-test.true),
  none_more c.args.sessions.now c.loop-k.k c.index-sessions-k.result c.args.id c.loop-k.invariant.1 c.loop-k-test.true c.index-sessions-k.is (search rules),
)
