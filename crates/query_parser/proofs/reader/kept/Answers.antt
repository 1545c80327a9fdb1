use Rattle.spanner_model.specs.ExprView.{query_of}
use Rattle.query_parser.proofs.ReadLaws.{kept_fault, kept_spelled}
use Rattle.query_parser.proofs.reader.kept.Goals as goal

pub returns-then-many : goal.returns-then-many
returns-then-many c = kept_fault c.args.text.now (query_of c.args.query) c.args.many c.requires.short c.requires.spelled c.if-many.true

pub checked-requires-clause-spelled : goal.checked-requires-clause-spelled
checked-requires-clause-spelled c = kept_spelled c.args.text.now (query_of c.args.query) c.args.many c.requires.spelled c.if-many.false
