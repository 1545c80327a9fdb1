use Rattle.std.proofs.Common.{◌≡◌, ℕ, ◌+◌, ◌-◌, ◌<◌, ◌≤◌, List, ◌++◌, length, get_or, map, take, drop, sym, ap, ◌∙◌, subst, arith}
use Rattle.span_core.specs.Lists.{Has}
use Rattle.span_core.proofs.HasLaws.{Has-get_or}
use Rattle.marked_automaton.specs.declared.way.Way.{Way}
use Rattle.place_automaton.specs.Moves.{way_moved}
use Rattle.place_automaton.proofs.JoinLists.{cut_item, pushed_next}
use Rattle.place_automaton.proofs.moving.push_moved_ways.Goals as goal

has_item : (xs now more : List Way) (from end k : ℕ) (w : Way) → from ≤ k → k < end → end ≤ length xs → now ≡ xs ++ more → w ≡ get_or now k w → Has (take (end - from) (drop from xs)) w
has_item xs now more from end k w low high within e at =
    let cut = take (end - from) (drop from xs) in
    let there = cut_item xs now more from end k w low high within e at in
    subst (Has cut) (sym there.1) (Has-get_or cut (k - from) w there.0)

abbrev moved_so_far : List Way → ℕ → ℕ → ℕ → ℕ → List Way
moved_so_far xs from end by k = map (way_moved by) (take (k - from) (take (end - from) (drop from xs)))

pub overflow_add-way : goal.overflow_add-way
overflow_add-way c =
    let xs = c.args.ways.now.items in
    let from = c.args.from in
    let w = c.index-way.result.now in
    let has = has_item xs c.loop-k.ways.items (moved_so_far xs from c.args.end c.args.by c.loop-k.k) from c.args.end c.loop-k.k w
    c.loop-k.auto.k c.loop-k-test.true c.requires.within c.loop-k.invariant c.index-way.ensures in
    omega (arith, c.requires.froms w has)

pub overflow_add-way-in-loop-k : goal.overflow_add-way-in-loop-k
overflow_add-way-in-loop-k c =
    let xs = c.args.ways.now.items in
    let from = c.args.from in
    let w = c.index-way.result.now in
    let has = has_item xs c.loop-k.ways.items (moved_so_far xs from c.args.end c.args.by c.loop-k.k) from c.args.end c.loop-k.k w
    c.loop-k.auto.k c.loop-k-test.true c.requires.within c.loop-k.invariant c.index-way.ensures in
    omega (arith, c.requires.tos w has)

pub loop-k-preserved : goal.loop-k-preserved
loop-k-preserved c =
    let xs = c.args.ways.now.items in
    let from = c.args.from in
    let end = c.args.end in
    let k = c.loop-k.k in
    let w = c.index-way.result.now in
    let cut = take (end - from) (drop from xs) in
    let there = cut_item xs c.loop-k.ways.items (moved_so_far xs from end c.args.by k) from end k w
    c.loop-k.auto.k c.loop-k-test.true c.requires.within c.loop-k.invariant c.index-way.ensures in
    let low : from ≤ k = c.loop-k.auto.k in
    let next : k - from + 1 ≡ k + 1 - from = omega (arith, low) in
    c.in_ok-push.ensures.items
    ∙ (pushed_next (way_moved c.args.by) cut (k - from) w xs c.loop-k.ways.items there.0 there.1 c.loop-k.invariant
    ∙ ap (λ n. xs ++ map (way_moved c.args.by) (take n cut)) next)
