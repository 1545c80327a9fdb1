use Rattle.std.proofs.Common.{ℕ, []}
use Rattle.std.specs.Char.{IsScalar}
use Rattle.std.specs.Prelude.{IsTrue, ◌↔◌}
use Rattle.span_core.specs.Intervals.{Covers}
use Rattle.unicode.specs.Rows.{HasExactly}
use Rattle.unicode.specs.Steps.{is_between, run_value}
use Rattle.unicode_classes.proofs.RangeLaws.{Ranges}
use Rattle.unicode_classes.proofs.PropertyLaws.{AreGathered, gathered_first, gathered_next, gathered_more, gathered_end}
use Rattle.unicode_classes.proofs.properties.set_of.Goals as goal

pub loop-range-init : goal.loop-range-init
loop-range-init c = (
  0,
  rw c.new-set.ensures
      (rw c.deref-range-items.ensures.value (gathered_first c.in_ok-ranges.ranges.items c.in_ok-ranges.ensures.rising)),
)

pub push_characters-requires : goal.push_characters-requires
push_characters-requires c =
    let all = c.deref-range-items.result.now in
    let n = gathered_next all c.loop-range.set c.loop-range.range-index c.loop-range.invariant.0 c.loop-range-test.true c.loop-range.invariant.1 in
    c.loop-range.invariant.1.starts _ n.low

pub loop-range-preserved : goal.loop-range-preserved
loop-range-preserved c = (
  _,
  gathered_more c.deref-range-items.result.now c.loop-range.set c.push_characters.new.set c.loop-range.range-index c.loop-range.invariant.0 c.loop-range-test.true
      c.in_ok-push_characters.ensures.ok c.in_ok-push_characters.ensures.start c.loop-range.invariant.1,
)

pub returns : goal.returns
returns c =
    let test = λ (n : ℕ). is_between c.args.first c.args.last (run_value c.args.runs.now n) in
    let exactly = rw (← c.deref-range-items.ensures.value) at c.in_ok-ranges.ensures.members in
    rw c.of.ensures
    (gathered_end c.deref-range-items.result.now c.loop-range.set c.loop-range.range-index c.loop-range.invariant.0 test c.loop-range-test.false exactly c.loop-range.invariant.1)
