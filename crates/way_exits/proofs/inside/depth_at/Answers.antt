use Rattle.std.proofs.Common.{subst}
use Rattle.std.proofs.lemmas.List.{take_all}
use Rattle.way_exits.proofs.RegionLaws.{HasNone, depth_found, none_more, none_there, there_found}
use Rattle.way_exits.proofs.inside.depth_at.Goals as goal

pub loop-member-preserved : goal.loop-member-preserved
loop-member-preserved c = none_more c.args.members.now c.loop-member.member-index c.args.state c.loop-member-test.true c.loop-member.invariant c.if-member-state.false

pub returns-then-member-state-clause-there : goal.returns-then-member-state-clause-there
returns-then-member-state-clause-there c = (
  there_found c.args.members.now c.loop-member.member-index c.args.state c.loop-member-test.true c.if-member-state.true,
  depth_found c.args.members.now c.loop-member.member-index c.args.state c.loop-member-test.true c.if-member-state.true c.loop-member.invariant,
)

pub returns-clause-none : goal.returns-clause-none
returns-clause-none c is =
    none_there c.args.members.now c.args.state
    (subst (λ ms. HasNone ms c.args.state) (take_all c.loop-member.member-index c.args.members.now c.loop-member-test.false) c.loop-member.invariant)
