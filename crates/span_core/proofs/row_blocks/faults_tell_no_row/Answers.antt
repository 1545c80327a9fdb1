use Rattle.span_core.proofs.BlockFaults.{faults_tell_no_row_lem}
use Rattle.span_core.proofs.row_blocks.faults_tell_no_row.Goals as goal

pub returns : goal.returns
returns c = faults_tell_no_row_lem
