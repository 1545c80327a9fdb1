use Rattle.unicode_classes.proofs.RangeLaws.{taken_more, taken_same, max_is, min_is, rising_at_place, outside}
use Rattle.unicode_classes.proofs.ranges.part_of.Goals.{then-lo-hi+in_ok-extend, else-lo-hi}
use Rattle.unicode_classes.proofs.ranges.part_of.Goals as goal

pub loop-range-preserved : goal.loop-range-preserved
loop-range-preserved c =
    let rs = c.args.ranges.now in
    let k = c.loop-range.range-index in
    let from = c.args.from in
    let end = c.args.end in
    let lo = max_is _ from c.max-lo.result c.max-lo.ensures in
    let hi = min_is _ end c.min-hi.result c.requires.some c.min-hi.ensures in
    elim c.if-lo-hi.branch [
      | then-lo-hi+in_ok-extend w ↦
          rw w.set-is (taken_more rs c.loop-range.set _ k from end c.args.origin c.max-lo.result c.min-hi.result c.requires.apart c.loop-range-test.true c.requires.some c.requires.origin
          lo.0 lo.1 lo.2 hi.0 hi.1 hi.2 w.if-lo-hi.true c.loop-range.invariant w.in_ok-extend.ensures.ok w.in_ok-extend.ensures.start)
      | else-lo-hi w ↦
          rw w.set-is (taken_same rs c.loop-range.set k from end c.args.origin c.requires.apart c.loop-range-test.true c.requires.some
          (outside _ _ from end c.max-lo.result c.min-hi.result (rising_at_place rs k c.requires.apart c.loop-range-test.true) c.requires.some lo.2 hi.2 w.if-lo-hi.false) c.loop-range.invariant)
    ]
