use Rattle.std.proofs.Common.{◌≡◌, ap}
use Rattle.std.specs.FinSet as set
use Rattle.formula_parser.specs.Escapes.{elem_set}
use Rattle.formula_parser.specs.Classes.{after_range}
use Rattle.formula_parser.specs.ClassStep.{takes_end}
use Rattle.formula_parser.specs.CharView.{IsLastOf}
use Rattle.formula_parser.proofs.char_class.all.Goals as goal

pub returns-in_ok-with_elem-in-Elem : goal.returns-in_ok-with_elem-in-Elem
returns-in_ok-with_elem-in-Elem c = λ s w items.
    let (y, is, last) = rw c.in-Elem.is at items.1 in
    (set.union s (elem_set y), c.in_ok-with_elem-in-Elem.ensures s y items.0 is, ap (takes_end c.args.at s) last)

pub returns-in-Range : goal.returns-in-Range
returns-in-Range c = λ s w items.
    let last : w ≡ after_range = rw c.in-Range.is at items.1 in
    (s, items.0, ap (takes_end c.args.at s) last)
