use Rattle.std.proofs.Common.{add-one}
use Rattle.span_core.specs.Lists.{Has}
use Rattle.place_automaton.specs.Counts.{counts_copies}
use Rattle.place_automaton.specs.Capped.{AreCapped}
use Rattle.place_automaton.proofs.NullCounts.{AreZero, zero_joins, zero_sums}
use Rattle.place_automaton.proofs.numbers.Numbers.copies.Goals as goal

pub loop-copy-preserved : goal.loop-copy-preserved
loop-copy-preserved c =
    let n = c.loop-copy._copy in
    let i = c.loop-copy.invariant in
    let done = c.in_ok-numbers.ensures in
    let again = c.in_ok-again.field-0 in
    let none : AreZero again.null.items = λ m h. c.requires.bare m (rw (← c.in_ok-again.ensures.null) h) in (
      λ m h. zero_sums again.null.items c.loop-copy.numbers.null.items none i.0 m (rw (← done.null) h),
      λ a b p q. rw (add-one n) (done.capped a (counts_copies n a b) (c.in_ok-again.ensures.capped a p) (i.1 a b p q)),
    )

pub cat-requires : goal.cat-requires
cat-requires c =
    let again = c.in_ok-again.field-0 in
    let none : AreZero again.null.items = λ m h. c.requires.bare m (rw (← c.in_ok-again.ensures.null) h) in
    zero_joins again.null.items c.loop-copy.numbers.null.items none c.loop-copy.invariant.0
