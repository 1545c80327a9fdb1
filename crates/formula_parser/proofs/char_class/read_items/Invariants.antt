use Rattle.std.proofs.Common.{◌≡◌, ◌+◌, ◌-◌, ◌≤◌, length, drop}
use Rattle.std.specs.FinSet as set
use Rattle.spanner_model.specs.Tree.{Tree}
use Rattle.formula_parser.specs.Sets.{Bytes}
use Rattle.formula_parser.specs.Classes.{Within, no_item}
use Rattle.formula_parser.specs.ClassStep.{items_at}
use Rattle.formula_parser.specs.Dialect.{with_characters, AreTrees}
use Rattle.formula_parser.specs.CharView.{AreItemsOf}
use Rattle.formula_parser.proofs.char_class.read_items.Given as goal

abbrev pub invariant-loop-items : goal.invariant-loop-items
invariant-loop-items l = record {
  within : l.read ≤ length l.text;
  same : (trees : Bytes → Tree) → AreTrees trees → (s : Bytes) × (w : Within) × AreItemsOf l.items s w
      × (items_at (with_characters trees) l.negated l.from 0 l.first l.text set.empty no_item
      ≡ items_at (with_characters trees) l.negated l.from 0 (l.first + l.read) (drop l.read l.text) s w);
}

abbrev pub decreases-loop-items : goal.decreases-loop-items
decreases-loop-items l = length l.text - l.read
