use Rattle.std.proofs.Common.{◌∙◌, ◌+◌, ap, sym, subst, true}
use Rattle.std.specs.FinSet as set
use Rattle.formula_parser.specs.Classes.{no_item}
use Rattle.formula_parser.specs.ClassStep.{items_at}
use Rattle.formula_parser.specs.CharView.{IsClassRead}
use Rattle.formula_parser.specs.Dialect.{with_characters}
use Rattle.formula_parser.proofs.ClassTurns.{negated_class, plain_class}
use Rattle.formula_parser.proofs.char_class.class_at.Goals as goal

pub returns-then-begins_with : goal.returns-then-begins_with
returns-then-begins_with c = λ trees are.
    let at = c.args.at in
    subst (IsClassRead trees c.read_items.result)
    (ap (λ t. items_at (with_characters trees) true at 0 (at + 2) t set.empty no_item) c.split_at.ensures.back
    ∙ sym (negated_class (with_characters trees) are at c.args.text.now (sym c.begins_with.ensures ∙ c.if-begins_with.true)))
    (c.read_items.ensures trees are)

pub returns-else-begins_with : goal.returns-else-begins_with
returns-else-begins_with c = λ trees are.
    subst (IsClassRead trees c.read_items-else-begins_with.result)
    (sym (plain_class (with_characters trees) are c.args.at c.args.text.now (sym c.begins_with.ensures ∙ c.if-begins_with.false)))
    (c.read_items-else-begins_with.ensures trees are)
