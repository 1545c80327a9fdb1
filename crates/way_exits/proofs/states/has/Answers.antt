use Rattle.std.proofs.Common.{◌≡◌, false, true, refl, subst, arith}
use Rattle.span_core.specs.Lists.{Has}
use Rattle.span_core.proofs.HasLaws.{Has-get_or}
use Rattle.way_exits.proofs.AheadLaws.{some_place}
use Rattle.way_exits.proofs.states.has.Goals as goal

pub returns-then-member-state : goal.returns-then-member-state
returns-then-member-state c = (λ e. subst (Has c.args.states.now) c.if-member-state.true (Has-get_or c.args.states.now c.loop-member.member-index 0 c.loop-member-test.true), λ h. refl)

pub returns : goal.returns
returns c = (
  λ e. absurd (differ e),
  λ h. let p = some_place c.args.states.now c.args.state h in absurd (c.loop-member.invariant p.0 (omega (arith, p.1, c.loop-member-test.false)) p.2),
)
  where
    differ : false ≡ true → ⊥
    differ e = cc
