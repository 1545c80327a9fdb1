-- What the printer's own type stands for.
use Rattle.query_printer.specs.declared.queries.Shape.{Shape as CodeShape}
use Rattle.query_printer.specs.declared.queries.Shape.TheVariants as code_shape
use Rattle.query_printer.specs.PrintedQuery.{Shape, a_unit, a_join, a_union}

abbrev pub shape_of : CodeShape → Shape
shape_of code_shape.Unit = a_unit
shape_of code_shape.Join = a_join
shape_of code_shape.Union = a_union
