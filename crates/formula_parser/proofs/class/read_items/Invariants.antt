use Rattle.std.proofs.Common.{◌≡◌, ◌+◌, ◌-◌, ◌≤◌, length, drop}
use Rattle.std.specs.FinSet as set
use Rattle.formula_parser.specs.Classes.{no_item}
use Rattle.formula_parser.specs.ClassStep.{items_at}
use Rattle.formula_parser.specs.ClassView.{last_of}
use Rattle.formula_parser.proofs.class.read_items.Given as goal
use Rattle.formula_parser.specs.Dialect.{plain_bytes}

abbrev pub invariant-loop-elem : goal.invariant-loop-elem
invariant-loop-elem l = record {
  within : l.read ≤ length l.text;
  same : items_at plain_bytes l.negated l.from 0 l.first l.text set.empty no_item
      ≡ items_at plain_bytes l.negated l.from 0 (l.first + l.read) (drop l.read l.text) l.items.set (last_of l.items.last);
}

abbrev pub decreases-loop-elem : goal.decreases-loop-elem
decreases-loop-elem l = length l.text - l.read
