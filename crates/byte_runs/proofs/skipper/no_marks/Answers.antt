use Rattle.std.proofs.Common.{false}
use Rattle.std.proofs.lemmas.List.{get_or-replicate}
use Rattle.byte_runs.proofs.skipper.no_marks.Goals as goal

pub returns : goal.returns
returns c = λ b less. get_or-replicate 256 b false false less
