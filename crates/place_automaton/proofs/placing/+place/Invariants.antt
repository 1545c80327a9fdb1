use Rattle.std.proofs.Common.{◌+◌, ◌*◌, take}
use Rattle.spanner_model.specs.Tree.{cat_all}
use Rattle.spanner_model.specs.View.{tree_of, trees_of}
use Rattle.spanner_model.proofs.Nodes.{nodes}
use Rattle.place_automaton.specs.Drafts.{places_of}
use Rattle.place_automaton.proofs.DraftRows.{IsRow, placers}
use Rattle.place_automaton.proofs.Rows.{in_turn, copies}
use Rattle.place_automaton.proofs.placing.+place.Given as goal

abbrev pub decreases-place : goal.decreases-place
decreases-place l = 2 * nodes (tree_of l.formula.now) + 1

abbrev pub decreases-place_parts : goal.decreases-place_parts
decreases-place_parts l = 2 * nodes (cat_all (trees_of l.parts.now))

abbrev pub decreases-place_arms : goal.decreases-place_arms
decreases-place_arms l = 2 * nodes (cat_all (trees_of l.arms.now))

abbrev pub decreases-place_repeat : goal.decreases-place_repeat
decreases-place_repeat l = 2 * nodes (tree_of l.sub.now) + 2

abbrev pub decreases-place_once : goal.decreases-place_once
decreases-place_once l = 2 * nodes (tree_of l.sub.now) + 2

abbrev pub invariant-place_parts-loop-k : goal.invariant-place_parts-loop-k
invariant-place_parts-loop-k l = IsRow (in_turn (placers l.vars (take l.k (trees_of l.parts))) l.fn.draft.next) l.fn.draft l.draft l.fragments.items

abbrev pub invariant-place_arms-loop-k : goal.invariant-place_arms-loop-k
invariant-place_arms-loop-k l = IsRow (in_turn (placers l.vars (take l.k (trees_of l.arms))) l.fn.draft.next) l.fn.draft l.draft l.fragments.items

abbrev pub invariant-place_repeat-loop-copy : goal.invariant-place_repeat-loop-copy
invariant-place_repeat-loop-copy l = IsRow (copies (places_of l.vars (tree_of l.sub)) l._copy l.fn.draft.next) l.fn.draft l.draft l.fragments.items
