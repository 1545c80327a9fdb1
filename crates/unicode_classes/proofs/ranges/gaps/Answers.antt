use Rattle.std.proofs.Common.{arith}
use Rattle.unicode_classes.proofs.RangeLaws.{gaps_pushed, gaps_same, end_below}
use Rattle.unicode_classes.proofs.ranges.gaps.Goals.{then-next-range+in_ok-push_characters, else-next-range}
use Rattle.unicode_classes.proofs.ranges.gaps.Goals as goal

pub overflow_add-next : goal.overflow_add-next
overflow_add-next c = (let l = end_below c.args.ranges.now c.loop-range.range-index c.requires.apart c.requires.characters c.loop-range-test.true in omega arith)

pub loop-range-preserved : goal.loop-range-preserved
loop-range-preserved c =
    let rs = c.args.ranges.now in
    let k = c.loop-range.range-index in
    elim c.if-next-range.branch [
      | then-next-range+in_ok-push_characters w ↦
          rw w.set-is (gaps_pushed rs c.loop-range.set _ k c.loop-range.next c.requires.apart c.requires.characters c.loop-range-test.true c.loop-range.invariant w.if-next-range.true
          w.in_ok-push_characters.ensures.ok w.in_ok-push_characters.ensures.start)
      | else-next-range w ↦
          rw w.set-is (gaps_same rs c.loop-range.set k c.loop-range.next c.requires.apart c.requires.characters c.loop-range-test.true c.loop-range.invariant w.if-next-range.false)
    ]
