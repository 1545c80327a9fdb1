use Rattle.std.proofs.Common.{Ok, subst}
use Rattle.spanner_model.specs.View.{tree_of}
use Rattle.formula_parser.specs.Escapes.{elem_set}
use Rattle.formula_parser.specs.Dialect.{char_escape_at}
use Rattle.formula_parser.specs.CharView.{IsElemToken}
use Rattle.formula_parser.specs.Turn.{IsStep}
use Rattle.formula_parser.specs.View.{nest_of}
use Rattle.formula_parser.proofs.CharTurns.{escape_all, escape_full, escape_hollow}
use Rattle.formula_parser.proofs.characters.escape.Goals as goal

pub returns-in-Some : goal.returns-in-Some
returns-in-Some c = λ trees are.
    let at = c.args.at in
    let others = c.args.others.now in
    let len = c.in_ok-elem.len in
    let token : IsElemToken (Ok (c.in_ok-elem.elem, len)) (char_escape_at at others) = c.in_ok-elem.ensures in
    let told = rw c.in-Some.is at c.in_ok-formula.ensures trees are (elem_set token.0) (c.in_ok-set.ensures token.0 token.1) (escape_all others at token.0 len token.2) in
    subst (λ next. IsStep c.unit.result next (nest_of c.unit.new.nest))
    (escape_full trees at len (char_escape_at at others) token.0 (tree_of c.in-Some.formula) (nest_of c.args.nest.now) token.2 told.0 told.1) c.unit.ensures

pub returns : goal.returns
returns c = λ trees are.
    let at = c.args.at in
    let others = c.args.others.now in
    let len = c.in_ok-elem.len in
    let token : IsElemToken (Ok (c.in_ok-elem.elem, len)) (char_escape_at at others) = c.in_ok-elem.ensures in
    let told = rw c.in-None.is at c.in_ok-formula.ensures trees are (elem_set token.0) (c.in_ok-set.ensures token.0 token.1) (escape_all others at token.0 len token.2) in
    escape_hollow trees at len (char_escape_at at others) token.0 (nest_of c.args.nest.now) token.2 told
