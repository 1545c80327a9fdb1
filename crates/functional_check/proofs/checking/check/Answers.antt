use Rattle.std.proofs.Common.{Err}
use Rattle.spanner_model.specs.View.{tree_of}
use Rattle.functional_check.proofs.PartFaults.{checked_tells}
use Rattle.functional_check.proofs.checking.check.Goals as goal

pub returns-in-Err-clause-sequential : goal.returns-in-Err-clause-sequential
returns-in-Err-clause-sequential c = checked_tells c.names_of-names.result (tree_of c.args.formula.now) (Err c.in-Err.fault) c.in-Err.ensures
