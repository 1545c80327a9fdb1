use Rattle.formula_parser.specs.Sets.{single}
use Rattle.formula_parser.specs.Alphabet.{of_characters, dot_set}
use Rattle.formula_parser.specs.Nest.{with_unit}
use Rattle.formula_parser.specs.Step.{goes}
use Rattle.formula_parser.specs.Turn.{IsStep}
use Rattle.formula_parser.specs.View.{nest_of}
use Rattle.formula_parser.proofs.SetTrees.{dot_in}
use Rattle.formula_parser.proofs.CharSetLaws.{holds_others}
use Rattle.formula_parser.proofs.characters.dot.Goals as goal

pub returns-in-Some : goal.returns-in-Some
returns-in-Some c = λ trees are.
    let holds = holds_others c.in_ok-others.others c.in_ok-newline.newline (single 10) c.in_ok-newline.ensures c.in_ok-others.ensures in
    let told = rw c.in-Some.is at c.in_ok-formula.ensures trees are (dot_set of_characters) holds (dot_in of_characters) in
    rw (← told.1) c.unit.ensures
