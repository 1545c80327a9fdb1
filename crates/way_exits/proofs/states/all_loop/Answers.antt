use Rattle.std.proofs.Common.{inl, inr, sym, subst}
use Rattle.std.proofs.lemmas.List.{take_all}
use Rattle.span_core.specs.Lists.{Has}
use Rattle.span_core.proofs.HasLaws.{Has-take_more_cases}
use Rattle.way_exits.specs.Waiting.{IsLooping}
use Rattle.way_exits.proofs.states.all_loop.Goals as goal

pub loop-state-preserved : goal.loop-state-preserved
loop-state-preserved c p h =
    elim (Has-take_more_cases c.args.states.now c.loop-state.state-index 0 p c.loop-state-test.true h) as (λ _. IsLooping c.args.ways.now p) [
      | inl old ↦ c.loop-state.invariant p old
      | inr e ↦ subst (IsLooping c.args.ways.now) e (c.loops.ensures c.if-not-loops.false)
    ]

pub returns : goal.returns
returns c is p h = c.loop-state.invariant p (subst (λ ys. Has ys p) (sym (take_all c.loop-state.state-index c.args.states.now c.loop-state-test.false)) h)
