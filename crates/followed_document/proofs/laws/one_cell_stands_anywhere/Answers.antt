use Rattle.one_pass.proofs.Rebasing.{ready_at_start}
use Rattle.followed_document.proofs.laws.one_cell_stands_anywhere.Goals as goal

pub returns : goal.returns
returns c = ready_at_start
