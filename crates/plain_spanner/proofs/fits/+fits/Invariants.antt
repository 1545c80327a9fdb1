use Rattle.std.proofs.Common.{◌+◌, ◌*◌, ◌⊎◌, [], take}
use Rattle.spanner_model.specs.View.{tree_of, trees_of}
use Rattle.spanner_model.specs.Tree.{Tree, cat_all}
use Rattle.spanner_model.specs.Fit.{Fit}
use Rattle.spanner_model.proofs.Nodes.{nodes}
use Rattle.plain_spanner.specs.Listed.{Tells, FromSome, EndAndCaptures, CapturesAndEnds, HasFit, Continued, CapturedFrom}
use Rattle.plain_spanner.proofs.fits.+fits.Given as goal

abbrev pub decreases-go_on : goal.decreases-go_on
decreases-go_on l = 3 * nodes (tree_of l.formula.now) + 1

abbrev pub decreases-in_turn : goal.decreases-in_turn
decreases-in_turn l = 3 * nodes (cat_all (trees_of l.parts.now))

abbrev pub decreases-by_arms : goal.decreases-by_arms
decreases-by_arms l = 3 * nodes (cat_all (trees_of l.parts.now))

abbrev pub decreases-once_at_most : goal.decreases-once_at_most
decreases-once_at_most l = 3 * nodes (tree_of l.sub.now) + 2

abbrev pub decreases-captured : goal.decreases-captured
decreases-captured l = 3 * nodes (tree_of l.sub.now) + 3

abbrev pub decreases-add_captured : goal.decreases-add_captured
decreases-add_captured l = 3 * nodes (tree_of l.sub.now) + 2

abbrev pub invariant-in_turn-loop-k : goal.invariant-in_turn-loop-k
invariant-in_turn-loop-k l = Tells (HasFit l.reached.items) (Continued (HasFit l.firsts) (Fit (cat_all (take l.k (trees_of l.parts))) l.doc))

abbrev pub invariant-by_arms-loop-k : goal.invariant-by_arms-loop-k
invariant-by_arms-loop-k l =
    Tells (HasFit l.all.items) (λ f. HasFit [] f ⊎ FromSome (λ (t : Tree) (f : EndAndCaptures). Continued (HasFit l.firsts) (Fit t l.doc) f) (take l.k (trees_of l.parts)) f)

abbrev pub invariant-captured-loop-first : goal.invariant-captured-loop-first
invariant-captured-loop-first l =
    Tells (HasFit l.all.items) (λ f. HasFit [] f
    ⊎ FromSome (λ (b : CapturesAndEnds) (f : EndAndCaptures). FromSome (CapturedFrom l.name (Fit (tree_of l.sub) l.doc) b.0) b.1 f) (take l.first-index l.firsts) f)

abbrev pub invariant-add_captured-loop-place : goal.invariant-add_captured-loop-place
invariant-add_captured-loop-place l =
    Tells (HasFit l.all.items) (λ f. HasFit l.initial.all.items f ⊎ FromSome (CapturedFrom l.name (Fit (tree_of l.sub) l.doc) l.first.0) (take l.place-index l.places) f)
