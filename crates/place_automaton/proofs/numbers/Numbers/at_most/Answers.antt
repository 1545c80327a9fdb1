use Rattle.std.proofs.Common.{add-one}
use Rattle.span_core.specs.Lists.{Has}
use Rattle.place_automaton.specs.Counts.{counts_cat, counts_at_most}
use Rattle.place_automaton.specs.Capped.{AreCapped}
use Rattle.place_automaton.proofs.NullCounts.{AreZero, zero_joins, zero_once, zero_sums}
use Rattle.place_automaton.proofs.numbers.Numbers.at_most.Goals as goal

pub loop-copy-preserved : goal.loop-copy-preserved
loop-copy-preserved c =
    let n = c.loop-copy._copy in
    let i = c.loop-copy.invariant in
    let both = c.in_ok-cat.field-0 in
    let again = c.in_ok-again.field-0 in
    let none : AreZero again.null.items = λ m h. c.requires m (rw (← c.in_ok-again.ensures.null) h) in
    let bare : AreZero both.null.items = λ m h.
    zero_sums again.null.items c.loop-copy.numbers.null.items none i.0 m (rw (← c.in_ok-cat.ensures.null) h) in (
      λ m h. zero_once both.null.items bare m (rw (← c.in_ok-numbers-2.ensures.null) h),
      λ a p. rw (add-one n)
          (c.in_ok-numbers-2.ensures.capped (counts_cat a (counts_at_most n a)) (c.in_ok-cat.ensures.capped a (counts_at_most n a) (c.in_ok-again.ensures.capped a p) (i.1 a p))),
    )

pub cat-requires : goal.cat-requires
cat-requires c =
    let again = c.in_ok-again.field-0 in
    let none : AreZero again.null.items = λ m h. c.requires m (rw (← c.in_ok-again.ensures.null) h) in
    zero_joins again.null.items c.loop-copy.numbers.null.items none c.loop-copy.invariant.0
