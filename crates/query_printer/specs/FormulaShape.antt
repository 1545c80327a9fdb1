-- What the printer's own type stands for.
use Rattle.query_printer.specs.declared.formulas.Shape.{Shape as CodeShape}
use Rattle.query_printer.specs.declared.formulas.Shape.TheVariants as code_shape
use Rattle.query_printer.specs.PrintedFormula.{Shape, a_unit, a_repeat, a_cat, an_alt}

abbrev pub shape_of : CodeShape → Shape
shape_of code_shape.Unit = a_unit
shape_of code_shape.Repeat = a_repeat
shape_of code_shape.Cat = a_cat
shape_of code_shape.Alt = an_alt
