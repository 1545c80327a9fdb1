use Rattle.std.proofs.Common.{arith, ◌∙◌, refl, ap}
use Rattle.std.specs.Ordering.{nat_cmp}
use Rattle.std.specs.FinSet.{FinSet, union}
use Rattle.unicode_classes.proofs.SingleBytes.{AreShifted, shifted_first, shifted_more, shifted_end, byte_fits}
use Rattle.unicode_classes.proofs.blocks.single_bytes.Goals as goal

pub loop-range-init : goal.loop-range-init
loop-range-init c = rw c.empty-bytes.ensures (shifted_first c.args.base c.args.ranges.now)

pub overflow_cast-lo : goal.overflow_cast-lo
overflow_cast-lo c = (let h = byte_fits c.args.base c.args.ranges.now c.loop-range.range-index c.requires.apart c.requires.bytes c.loop-range-test.true in omega arith)

pub overflow_add-lo : goal.overflow_add-lo
overflow_add-lo c = (let h = byte_fits c.args.base c.args.ranges.now c.loop-range.range-index c.requires.apart c.requires.bytes c.loop-range-test.true in omega arith)

pub overflow_cast-hi : goal.overflow_cast-hi
overflow_cast-hi c = (let h = byte_fits c.args.base c.args.ranges.now c.loop-range.range-index c.requires.apart c.requires.bytes c.loop-range-test.true in omega arith)

pub overflow_add-hi : goal.overflow_add-hi
overflow_add-hi c = (let h = byte_fits c.args.base c.args.ranges.now c.loop-range.range-index c.requires.apart c.requires.bytes c.loop-range-test.true in omega arith)

pub range-requires : goal.range-requires
range-requires c = (let h = byte_fits c.args.base c.args.ranges.now c.loop-range.range-index c.requires.apart c.requires.bytes c.loop-range-test.true in omega arith)

pub loop-range-preserved : goal.loop-range-preserved
loop-range-preserved c =
    shifted_more c.args.base c.args.ranges.now c.loop-range.bytes c.union-bytes.result c.loop-range.range-index _ _ c.loop-range-test.true refl refl
    (c.union-bytes.ensures ∙ ap (union c.loop-range.bytes) c.range.ensures) c.loop-range.invariant

pub returns : goal.returns
returns c = shifted_end c.args.base c.args.ranges.now c.loop-range.bytes c.loop-range.range-index c.loop-range-test.false c.loop-range.invariant
