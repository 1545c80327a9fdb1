use Rattle.std.proofs.Common.{ℕ, ◌+◌, ◌*◌, ◌≤◌, ◌⊎◌, [], length, take}
use Rattle.span_core.specs.Lists.{Has}
use Rattle.spanner_model.specs.View.{tree_of, trees_of}
use Rattle.spanner_model.specs.Tree.{Tree, cat_all}
use Rattle.spanner_model.specs.Fit.{Fit}
use Rattle.spanner_model.proofs.Nodes.{nodes}
use Rattle.plain_spanner.specs.Listed.{Tells, FromSome, LeadsOn, LeadsTimes, LeadsIn}
use Rattle.plain_spanner.proofs.RepeatLaws.{Closed}
use Rattle.plain_spanner.proofs.ends.+reached_from.Given as goal

abbrev pub decreases-reached_from : goal.decreases-reached_from
decreases-reached_from l = 2 * nodes (tree_of l.formula.now) + 1

abbrev pub decreases-in_turn : goal.decreases-in_turn
decreases-in_turn l = 2 * nodes (cat_all (trees_of l.parts.now))

abbrev pub decreases-by_arms : goal.decreases-by_arms
decreases-by_arms l = 2 * nodes (cat_all (trees_of l.parts.now))

abbrev pub decreases-repeated : goal.decreases-repeated
decreases-repeated l = 2 * nodes (tree_of l.sub.now) + 2

abbrev pub decreases-repeated_more : goal.decreases-repeated_more
decreases-repeated_more l = 2 * nodes (tree_of l.sub.now) + 2

abbrev pub invariant-in_turn-loop-k : goal.invariant-in_turn-loop-k
invariant-in_turn-loop-k l = Tells (Has l.reached.items) (LeadsOn (Fit (cat_all (take l.k (trees_of l.parts))) l.doc) l.starts)

abbrev pub invariant-by_arms-loop-k : goal.invariant-by_arms-loop-k
invariant-by_arms-loop-k l =
    Tells (Has l.all.items) (λ j. Has [] j ⊎ FromSome (λ (t : Tree) (j : ℕ). LeadsOn (Fit t l.doc) l.starts j) (take l.k (trees_of l.parts)) j)

abbrev pub invariant-repeated-loop-count : goal.invariant-repeated-loop-count
invariant-repeated-loop-count l = Tells (Has l.reached.items) (LeadsTimes (Fit (tree_of l.sub) l.doc) l._count l.starts)

abbrev pub invariant-repeated_more-loop-round : goal.invariant-repeated_more-loop-round
invariant-repeated_more-loop-round l =
    (l.done ≤ length l.reached.ends.items) × Tells (Has l.reached.ends.items) (LeadsIn (Fit (tree_of l.sub) l.doc) 0 l._round l.starts)
    × Closed (Fit (tree_of l.sub) l.doc) l.done l.reached.ends.items
