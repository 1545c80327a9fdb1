use Rattle.query_printer.proofs.PrintedTrees.{shape-Cat, shape-Alt}
use Rattle.query_printer.proofs.formulas.Shape.of.Goals as goal

pub returns-in-Cat : goal.returns-in-Cat
returns-in-Cat c = shape-Cat c.args.formula.now c.in-Cat.field-0 c.in-Cat.is

pub returns-in-Alt : goal.returns-in-Alt
returns-in-Alt c = shape-Alt c.args.formula.now c.in-Alt.field-0 c.in-Alt.is
