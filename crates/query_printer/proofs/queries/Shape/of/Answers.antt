use Rattle.query_printer.proofs.PrintedParts.{shape-Union, shape-Join}
use Rattle.query_printer.proofs.queries.Shape.of.Goals as goal

pub returns-in-Join : goal.returns-in-Join
returns-in-Join c = shape-Join c.args.expr.now c.in-Join.field-0 c.in-Join.is

pub returns-in-Union : goal.returns-in-Union
returns-in-Union c = shape-Union c.args.expr.now c.in-Union.field-0 c.in-Union.is
