use Rattle.segment_filter.proofs.DenseLaws.{told_none}
use Rattle.segment_filter.proofs.told.Told.new.Goals as goal

pub returns : goal.returns
returns c = λ t. told_none t _ c.new.ensures.items
