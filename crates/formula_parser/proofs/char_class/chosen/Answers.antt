use Rattle.std.specs.Prelude.{IfOk}
use Rattle.formula_parser.specs.Sets.{Bytes}
use Rattle.formula_parser.specs.CharView.{Holds, chosen_set}
use Rattle.formula_parser.proofs.CharSetLaws.{holds_members}
use Rattle.formula_parser.proofs.CharTurns.{negation_chosen}
use Rattle.formula_parser.proofs.char_class.chosen.Goals as goal

pub returns-then-negated : goal.returns-then-negated
returns-then-negated c =
    rw c.if-negated.true
    (negation_chosen c.args.items _ c.negation.result c.negation.ensures)

pub returns : goal.returns
returns c = λ s holds. rw c.if-negated.false (holds_members c.args.items s holds)
