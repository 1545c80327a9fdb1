use Rattle.std.proofs.Common.{arith}
use Rattle.one_pass.proofs.KnownLaws.{known_read}
use Rattle.one_pass.proofs.Sources.{ended_all, ended_every, ended_given, ended_gives_up, ended_many, ended_more, ended_none}
use Rattle.one_pass.proofs.pass.Pass.end_with.Goals as goal

pub loop-k-init : goal.loop-k-init
loop-k-init g c = ended_none c.requires

pub set_at-set-requires : goal.set_at-set-requires
set_at-set-requires g c = let many = ended_many c.requires c.loop-k.invariant in omega (arith, many)

pub turn_end-requires-clause-left : goal.turn_end-requires-clause-left
turn_end-requires-clause-left g c = let many = ended_many c.requires c.loop-k.invariant in omega (arith, many)

pub turn_end-requires-clause-given : goal.turn_end-requires-clause-given
turn_end-requires-clause-given g c = ended_given c.requires c.loop-k.invariant (omega arith) c.set_at-set.ensures

pub returns-in-Err-clause-given_up : goal.returns-in-Err-clause-given_up
returns-in-Err-clause-given_up g c =
    ended_gives_up c.requires c.loop-k.invariant (omega arith) c.set_at-set.ensures c.in-Err.ensures.refused c.in-Err.ensures.cause

pub loop-k-preserved : goal.loop-k-preserved
loop-k-preserved g c = ended_more c.requires c.loop-k.invariant (omega arith) c.set_at-set.ensures c.in_default.ensures.turned

pub returns-clause-ended : goal.returns-clause-ended
returns-clause-ended g c = ended_all c.requires c.loop-k.invariant (omega arith)

pub returns-clause-every : goal.returns-clause-every
returns-clause-every g c = ended_every c.requires c.loop-k.invariant (omega arith)

pub returns-clause-only : goal.returns-clause-only
returns-clause-only g c = c.loop-k.invariant.only

pub returns-clause-known : goal.returns-clause-known
returns-clause-known g c =
    let done = ended_all c.requires c.loop-k.invariant (omega arith) in
    known_read c.args.table.now c.loop-k.table _ _ c.args.self.known.layers c.args.self.known.entries c.args.self.known.steps done.table c.requires.known
