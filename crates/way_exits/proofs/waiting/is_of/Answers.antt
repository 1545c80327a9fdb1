use Rattle.std.proofs.Common.{length, inl, inr, sym, subst, ◌∙◌}
use Rattle.std.proofs.lemmas.Bool.{eqb-false}
use Rattle.std.proofs.lemmas.List.{take_all}
use Rattle.span_core.specs.Lists.{Has}
use Rattle.span_core.proofs.HasLaws.{Has-take_more_cases}
use Rattle.way_exits.proofs.AheadLaws.{some_member}
use Rattle.way_exits.proofs.waiting.is_of.Goals as goal

pub loop-state-preserved : goal.loop-state-preserved
loop-state-preserved c p h =
    elim (Has-take_more_cases c.args.set.now c.loop-state.state-index 0 p c.loop-state-test.true h) as (λ _. Has c.args.states.now p) [
      | inl old ↦ c.loop-state.invariant p old
      | inr e ↦ subst (Has c.args.states.now) e (c.has.ensures.0 c.if-not-has.false)
    ]

pub returns : goal.returns
returns c is = record {
  some = some_member c.args.set.now (eqb-false (length c.args.set.now) 0 (sym c.is_empty.ensures ∙ c.if-is_empty.false));
  each = λ p h. c.loop-state.invariant p (subst (λ ys. Has ys p) (sym (take_all c.loop-state.state-index c.args.set.now c.loop-state-test.false)) h);
}
