use Rattle.std.proofs.Common.{rules, sym, ◌∙◌}
use Rattle.unicode_classes.specs.Properties.{has_property}
use Rattle.unicode_classes.proofs.PropertyLaws.{meaning_some, meaning_none}
use Rattle.unicode_classes.proofs.properties.property_set.Goals as goal

pub returns-in_default : goal.returns-in_default
returns-in_default c = meaning_none c.args.name.now (sym c.in_default.is ∙ c.meaning_of.ensures)

pub returns : goal.returns
returns c = (has_property c.in-Some.meaning, meaning_some c.args.name.now c.in-Some.meaning (sym c.in-Some.is ∙ c.meaning_of.ensures), search rules, c.in_ok-set.ensures)
