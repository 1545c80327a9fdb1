use Rattle.formula_parser.specs.Escapes.{elem_set}
use Rattle.formula_parser.proofs.CharSetLaws.{holds_union}
use Rattle.formula_parser.proofs.char_class.with_elem.Goals as goal

pub returns : goal.returns
returns c = λ s x holds elem. holds_union c.merge.new.self c.args.items c.in_ok-set_of.field-0 s (elem_set x) holds (c.in_ok-set_of.ensures x elem) c.in_ok-merge.ensures.ok
