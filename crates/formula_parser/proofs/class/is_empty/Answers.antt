use Rattle.formula_parser.proofs.ClassSets.{counted}
use Rattle.formula_parser.proofs.class.is_empty.Goals as goal

pub returns : goal.returns
returns c = counted c.is_empty.result c.args.bytes.now c.is_empty.ensures
