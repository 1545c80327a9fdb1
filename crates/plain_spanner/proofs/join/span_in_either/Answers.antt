use Rattle.std.proofs.Common.{sym, ◌∙◌}
use Rattle.std.proofs.lemmas.Bool.{false≢true}
use Rattle.plain_spanner.proofs.JoinLaws.{merged_left, merged_outside}
use Rattle.plain_spanner.proofs.join.span_in_either.Goals as goal

pub returns-then-has_name : goal.returns-then-has_name
returns-then-has_name c = c.span_in.ensures ∙ sym (merged_left c.args.left_names.now c.args.right_names.now c.args.left.now c.args.right.now c.args.name.now (c.has_name.ensures.0 c.if-has_name.true))

pub returns-else-has_name : goal.returns-else-has_name
returns-else-has_name c =
    c.span_in-else-has_name.ensures
    ∙ sym (merged_outside c.args.left_names.now c.args.right_names.now c.args.left.now c.args.right.now c.args.name.now (λ h. false≢true (sym c.if-has_name.false ∙ c.has_name.ensures.1 h)))
