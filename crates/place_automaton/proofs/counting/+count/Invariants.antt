use Rattle.std.proofs.Common.{◌+◌, ◌*◌, ◌≤◌, length, drop, take}
use Rattle.spanner_model.specs.View.{tree_of, trees_of}
use Rattle.spanner_model.specs.Tree.{cat_all, alt_all}
use Rattle.spanner_model.proofs.Nodes.{nodes}
use Rattle.place_automaton.specs.Capped.{AreCapped}
use Rattle.place_automaton.specs.Counts.{counts_over, largest_null_over}
use Rattle.place_automaton.specs.declared.TheConstants.{MOST_SETS}
use Rattle.place_automaton.proofs.counting.+count.Given as goal

abbrev pub decreases-count_arms : goal.decreases-count_arms
decreases-count_arms l = 2 * nodes (cat_all (trees_of l.arms.now))

abbrev pub decreases-count_formula : goal.decreases-count_formula
decreases-count_formula l = 2 * nodes (tree_of l.formula.now) + 1

abbrev pub decreases-count_parts : goal.decreases-count_parts
decreases-count_parts l = 2 * nodes (cat_all (trees_of l.parts.now))

abbrev pub invariant-count_arms-loop-waiting : goal.invariant-count_arms-loop-waiting
invariant-count_arms-loop-waiting l =
    (l.waiting ≤ length (trees_of l.arms))
    × AreCapped (counts_over l.vars (alt_all (drop l.waiting (trees_of l.arms)))) l.numbers
    × (largest_null_over l.vars (alt_all (drop l.waiting (trees_of l.arms))) ≤ MOST_SETS)

abbrev pub decreases-count_arms-loop-waiting : goal.decreases-count_arms-loop-waiting
decreases-count_arms-loop-waiting l = l.waiting

abbrev pub invariant-count_parts-loop-k : goal.invariant-count_parts-loop-k
invariant-count_parts-loop-k l =
    AreCapped (counts_over l.vars (cat_all (take l.k (trees_of l.parts)))) l.numbers
    × (largest_null_over l.vars (cat_all (take l.k (trees_of l.parts))) ≤ MOST_SETS)
