use Rattle.std.proofs.Common.{◌≡◌, refl, ap}
use Rattle.std.specs.FinSet as set
use Rattle.formula_parser.specs.Escapes.{elem_set}
use Rattle.formula_parser.specs.Classes.{no_item, after_elem, after_range}
use Rattle.formula_parser.specs.ClassStep.{takes_elem}
use Rattle.formula_parser.specs.CharView.{IsLastOf, AreItemsAfter}
use Rattle.formula_parser.proofs.char_class.with.Goals as goal

pub returns-in-Nothing : goal.returns-in-Nothing
returns-in-Nothing c = λ s w x len items elem.
    let last : w ≡ no_item = rw c.in-Nothing.is at items.1 in
    (s, after_elem x c.args.at, (items.0, (x, elem, refl)), ap (takes_elem c.args.at (x, len) s) last)

pub returns-in-Range : goal.returns-in-Range
returns-in-Range c = λ s w x len items elem.
    let last : w ≡ after_range = rw c.in-Range.is at items.1 in
    (s, after_elem x c.args.at, (items.0, (x, elem, refl)), ap (takes_elem c.args.at (x, len) s) last)

pub returns-in_ok-with_elem-in-Elem : goal.returns-in_ok-with_elem-in-Elem
returns-in_ok-with_elem-in-Elem c = λ s w x len items elem.
    let (y, is, last) = rw c.in-Elem.is at items.1 in
    (set.union s (elem_set y), after_elem x c.args.at, (c.in_ok-with_elem-in-Elem.ensures s y items.0 is, (x, elem, refl)), ap (takes_elem c.args.at (x, len) s) last)

pub returns-in-Dash : goal.returns-in-Dash
returns-in-Dash c = λ s w x len items elem.
    let (y, is, last) = rw c.in-Dash.is at items.1 in
    rw last (c.with_range.ensures s x y c.args.at len items.0 is elem)
