use Rattle.std.proofs.Common.{◌≡◌, List, ℕ, true, false, sym, subst}
use Rattle.std.proofs.lemmas.List.{take_all}
use Rattle.output_graph.specs.Named.{handing}
use Rattle.span_core.specs.Lists.{AreDistinct, Has}
use Rattle.one_pass.specs.Known.{AreLookUps}
use Rattle.one_pass.proofs.KnownLaws.{distinct_more, handed_next}
use Rattle.one_pass.proofs.known.handed_on.Goals as goal

differ : false ≡ true → ⊥
differ e = cc

pub loop-set-preserved : goal.loop-set-preserved
loop-set-preserved c =
    let i = c.loop-set.invariant in
    let to = c.loop-set.to.items in
    let next = c.in_ok-next.next in
    let items = c.in_default.ensures.items in
    record {
      look_ups = handed_next c.args.table.now c.args.byte c.args.sets.now c.loop-set.set-index to c.push.new.self.items next c.loop-set-test.true i.look_ups c.in_ok-next.ensures items;
      distinct =
          subst (λ (xs : List ℕ). AreDistinct xs) (sym items)
          (distinct_more to next i.distinct (λ h. differ (c.if-has.ensures.1 (subst (λ (xs : List ℕ). Has xs next) (sym c.deref.ensures.value) h))));
    }

pub returns : goal.returns
returns c = (
  subst (λ (xs : List ℕ). AreLookUps c.args.table.now c.args.byte xs (handing c.loop-set.to.items)) (take_all c.loop-set.set-index c.args.sets.now c.loop-set-test.false) c.loop-set.invariant.look_ups,
  c.loop-set.invariant.distinct,
)
