use Rattle.byte_runs.proofs.Marking.{none_marked}
use Rattle.byte_runs.proofs.SetLaws.{none_outside}
use Rattle.byte_runs.proofs.skipper.Skipper.new.Goals as goal

pub invariant_of-result : goal.invariant_of-result
invariant_of-result c = (none_outside c.all.result c.all.ensures, none_marked c.all.result c.no_marks.result c.all.ensures c.no_marks.ensures)
