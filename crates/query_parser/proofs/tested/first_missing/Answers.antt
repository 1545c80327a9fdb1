use Rattle.std.proofs.Common.{arith}
use Rattle.query_parser.proofs.TestedCode.{missing_here, among_more, among_all}
use Rattle.query_parser.proofs.tested.first_missing.Goals as goal

pub returns-then-not-has : goal.returns-then-not-has
returns-then-not-has c = missing_here c.args.vars.now c.args.asked.now c.loop-k.k c.at.result.now c.has.result c.at.ensures c.loop-k.invariant c.has.ensures c.if-not-has.true

pub loop-k-preserved : goal.loop-k-preserved
loop-k-preserved c = among_more c.args.vars.now c.args.asked.now c.loop-k.k c.at.result.now c.has.result c.at.ensures c.loop-k.invariant c.has.ensures c.if-not-has.false

pub returns : goal.returns
returns c = among_all c.args.vars.now c.args.asked.now c.loop-k.k (omega (arith, c.len-k-end.ensures, c.loop-k-test.false)) c.loop-k.invariant
