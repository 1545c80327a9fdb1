use Rattle.spanner_model.specs.ExprView.{query_of}
use Rattle.query_parser.proofs.TestedCode.{kept_many, kept_few}
use Rattle.query_parser.proofs.tested.kept.Goals as goal

pub returns-then-many : goal.returns-then-many
returns-then-many c = kept_many c.args.text.now (query_of c.args.tested.query) c.args.many c.args.tested.asked c.requires.short c.requires.read c.if-many.true

pub checked-requires-clause-spelled : goal.checked-requires-clause-spelled
checked-requires-clause-spelled c = kept_few c.args.text.now (query_of c.args.tested.query) c.args.many c.args.tested.asked c.requires.read c.if-many.false
