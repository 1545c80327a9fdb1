use Rattle.formula_parser.specs.CharView.{chosen_set}
use Rattle.formula_parser.proofs.CharTurns.{chosen_in, class_some, class_none}
use Rattle.formula_parser.proofs.char_class.close.Goals as goal

pub returns-in-Some : goal.returns-in-Some
returns-in-Some c = λ trees are s holds.
    let all = chosen_set c.args.negated s in
    let told = rw c.in-Some.is at c.in_ok-formula.ensures trees are all (c.in_ok-set.ensures s holds) (chosen_in c.args.negated s) in
    (all, told.1, class_some trees c.args.negated c.args.from c.args.end s told.0)

pub returns : goal.returns
returns c = λ trees are s holds.
    let all = chosen_set c.args.negated s in
    let told = rw c.in-None.is at c.in_ok-formula.ensures trees are all (c.in_ok-set.ensures s holds) (chosen_in c.args.negated s) in
    class_none trees c.args.negated c.args.from c.args.end s told
