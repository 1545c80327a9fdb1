use Rattle.std.proofs.Common.{◌∙◌, ◌+◌, ap, sym, true}
use Rattle.std.specs.FinSet as set
use Rattle.formula_parser.specs.Classes.{no_item}
use Rattle.formula_parser.specs.ClassStep.{items_at}
use Rattle.formula_parser.proofs.ClassTurns.{negated_class, plain_class, class_within}
use Rattle.formula_parser.proofs.class.class_at.Goals as goal
use Rattle.formula_parser.specs.Dialect.{plain_bytes}

pub returns-then-begins_with-clause-value : goal.returns-then-begins_with-clause-value
returns-then-begins_with-clause-value c =
    let at = c.args.at in
    c.read_items.ensures ∙ ap (λ t. items_at plain_bytes true at 0 (at + 2) t set.empty no_item) c.split_at.ensures.back
    ∙ sym (negated_class plain_bytes tt at c.args.text.now (sym c.begins_with.ensures ∙ c.if-begins_with.true))

pub returns-then-begins_with-clause-within : goal.returns-then-begins_with-clause-within
returns-then-begins_with-clause-within c = class_within plain_bytes tt c.args.at c.args.text.now c.read_items.result (returns-then-begins_with-clause-value c)

pub returns-else-begins_with-clause-value : goal.returns-else-begins_with-clause-value
returns-else-begins_with-clause-value c =
    c.read_items-else-begins_with.ensures ∙ sym (plain_class plain_bytes tt c.args.at c.args.text.now (sym c.begins_with.ensures ∙ c.if-begins_with.false))

pub returns-else-begins_with-clause-within : goal.returns-else-begins_with-clause-within
returns-else-begins_with-clause-within c = class_within plain_bytes tt c.args.at c.args.text.now c.read_items-else-begins_with.result (returns-else-begins_with-clause-value c)
