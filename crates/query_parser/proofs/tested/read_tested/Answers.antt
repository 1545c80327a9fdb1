use Rattle.query_parser.proofs.TestedCode.{tested_never, tested_only, tested_only_fault}
use Rattle.query_parser.proofs.tested.read_tested.Goals as goal

pub returns-clause-only : goal.returns-clause-only
returns-clause-only c = tested_only c.args.text.now c.read_text.result c.read_text.ensures

pub returns-clause-only_fault : goal.returns-clause-only_fault
returns-clause-only_fault c = tested_only_fault c.args.text.now c.read_text.result c.read_text.ensures

pub returns-clause-never : goal.returns-clause-never
returns-clause-never c = tested_never c.args.text.now c.read_text.result c.read_text.ensures
