use Rattle.query_parser.proofs.ReadLaws.{read_found, read_fault, read_never, read_only, read_only_fault}
use Rattle.query_parser.proofs.reader.read_query.Goals as goal

pub returns-clause-only : goal.returns-clause-only
returns-clause-only c = read_only c.args.text.now c.read_text.result c.read_text.ensures

pub returns-clause-only_fault : goal.returns-clause-only_fault
returns-clause-only_fault c = read_only_fault c.args.text.now c.read_text.result c.read_text.ensures

pub returns-clause-never : goal.returns-clause-never
returns-clause-never c = read_never c.args.text.now c.read_text.result c.read_text.ensures

pub returns-clause-found : goal.returns-clause-found
returns-clause-found c = read_found c.args.text.now c.read_text.result c.read_text.ensures

pub returns-clause-fault : goal.returns-clause-fault
returns-clause-fault c = read_fault c.args.text.now c.read_text.result c.read_text.ensures
