use Rattle.std.proofs.Common.{◌≡◌, length, refl, arith}
use Rattle.std.proofs.lemmas.Option.{slice_get_read}
use Rattle.algebra_minus.specs.declared.partitions.Part.{Part}
use Rattle.algebra_minus.proofs.Keys.{none_more, taken_has}
use Rattle.algebra_minus.proofs.partitions.place_of.Goals as goal

pub returns-then-part-to-clause-some : goal.returns-then-part-to-clause-some
returns-then-part-to-clause-some c =
    let partition = c.args.partition.now in
    let part = c.part-item.result in
    let i = c.loop-part.part-index in
    let read = slice_get_read partition (length partition) i part refl c.loop-part-test.true c.part-item.is in
    (part, rw c.loop-part.invariant.0 read, c.if-part-to.true)

pub loop-part-preserved : goal.loop-part-preserved
loop-part-preserved c =
    let partition = c.args.partition.now in
    let part = c.part-item.result in
    let i = c.loop-part.part-index in
    (omega (arith, c.loop-part.invariant.0), none_more (λ (p : Part). p.to ≡ c.args.to) partition i part c.loop-part-test.true c.part-item.is c.if-part-to.false c.loop-part.invariant.1)

pub returns-clause-none : goal.returns-clause-none
returns-clause-none c = λ part h e.
    let partition = c.args.partition.now in
    c.loop-part.invariant.1 part (taken_has partition c.loop-part.part-index part (omega (arith, c.loop-part-test.false)) h) e
