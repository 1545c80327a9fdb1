use Rattle.std.proofs.Common.{sym, ◌∙◌}
use Rattle.std.proofs.lemmas.Bool.{true≢false}
use Rattle.spanner_model.specs.View.{tree_of}
use Rattle.formula_parser.proofs.CharSetLaws.{tree_is, none_is}
use Rattle.formula_parser.proofs.characters.tree.Goals as goal

pub returns-then-is_empty : goal.returns-then-is_empty
returns-then-is_empty c = λ trees are s holds all. none_is c.args.set.now s holds all c.ranges-ranges.ensures.apart (c.is_empty.ensures.0 c.if-is_empty.true)

pub returns : goal.returns
returns c = λ trees are s holds all.
    let t = tree_is trees are c.args.set.now s (tree_of c.in_ok-tree.field-0) holds all c.ranges-ranges.ensures.apart
    (λ none. true≢false (sym (c.is_empty.ensures.1 none) ∙ c.if-is_empty.false)) c.in_ok-tree.ensures.shape in
    (t.0, t.1)
