use Rattle.unicode_classes.proofs.PropertyLaws.{one_property}
use Rattle.unicode_classes.proofs.laws.properties_are_one.Goals as goal

pub returns : goal.returns
returns c = one_property
