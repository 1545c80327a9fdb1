use Rattle.growing_document.proofs.Lengths.{lengths_law}
use Rattle.growing_document.proofs.laws.what_is_held_is_told_by_the_lengths_asked.Goals as goal

pub returns : goal.returns
returns c = lengths_law
