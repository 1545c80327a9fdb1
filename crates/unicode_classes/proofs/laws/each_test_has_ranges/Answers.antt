use Rattle.unicode_classes.proofs.SomeSets.{some_ranges}
use Rattle.unicode_classes.proofs.laws.each_test_has_ranges.Goals as goal

pub returns : goal.returns
returns c = some_ranges
