use Rattle.unicode_classes.proofs.SomeSets.{some_property}
use Rattle.unicode_classes.proofs.laws.each_property_has_a_set.Goals as goal

pub returns : goal.returns
returns c = some_property
