use Rattle.std.proofs.Common.{◌≡◌, List, ◌+◌, ◌*◌, take}
use Rattle.spanner_model.specs.Captures.{VarName}
use Rattle.spanner_model.specs.Tree.{cat_all}
use Rattle.spanner_model.specs.View.{tree_of, trees_of}
use Rattle.spanner_model.proofs.Nodes.{nodes}
use Rattle.place_automaton.specs.Capped.{capped}
use Rattle.place_automaton.specs.Counts.{counts_over}
use Rattle.place_automaton.proofs.place_count.+places.Given as goal

abbrev pub decreases-count_places : goal.decreases-count_places
decreases-count_places l = 2 * nodes (tree_of l.formula.now) + 1

abbrev pub decreases-sum_places : goal.decreases-sum_places
decreases-sum_places l = 2 * nodes (cat_all (trees_of l.parts.now))

abbrev pub invariant-sum_places-loop-k : goal.invariant-sum_places-loop-k
invariant-sum_places-loop-k l = (names : List VarName) → l.sum ≡ capped (counts_over names (cat_all (take l.k (trees_of l.parts)))).places
