use Rattle.std.proofs.Common.{rules, sym, subst}
use Rattle.segment_filter.specs.Remembered.{AreRemembered}
use Rattle.segment_filter.proofs.Remembering.{one_more_place}
use Rattle.segment_filter.proofs.comparing.Comparisons.new.Goals as goal

pub loop-preserved : goal.loop-preserved
loop-preserved c = (
  search rules,
  λ most sets others. subst (AreRemembered most sets others) (sym c.in_ok-push.ensures.items)
      (one_more_place most sets others c.loop.pairs.items (c.loop.invariant.1 most sets others)),
)
