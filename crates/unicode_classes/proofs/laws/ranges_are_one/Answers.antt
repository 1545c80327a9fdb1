use Rattle.unicode_classes.proofs.OneRanges.{one_ranges}
use Rattle.unicode_classes.proofs.laws.ranges_are_one.Goals as goal

pub returns : goal.returns
returns c = one_ranges
