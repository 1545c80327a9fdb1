use Rattle.std.proofs.Common.{◌+◌, drop, sym, ◌∙◌}
use Rattle.formula_parser.proofs.CharTurns.{sign_none, sign_found}
use Rattle.formula_parser.proofs.sign.sign_len.Goals as goal

pub returns-in_default-clause-value : goal.returns-in_default-clause-value
returns-in_default-clause-value c = sign_none (drop (c.args.from + 1) c.args.text.now) c.split_at.result.1.now c.split_at.ensures.back (sym c.closing.ensures.value ∙ c.in_default.is)

pub returns-then-is_sign-clause-value : goal.returns-then-is_sign-clause-value
returns-then-is_sign-clause-value c =
    sign_found (drop (c.args.from + 1) c.args.text.now) c.split_at.result.1.now c.split_at-2.result.1.now c.in-Some.len _ c.split_at.ensures.back
    (sym c.closing.ensures.value ∙ c.in-Some.is) c.split_at-2.ensures.back (sym c.if-is_sign.true ∙ c.is_sign.ensures)

pub returns-else-is_sign-clause-value : goal.returns-else-is_sign-clause-value
returns-else-is_sign-clause-value c =
    sign_found (drop (c.args.from + 1) c.args.text.now) c.split_at.result.1.now c.split_at-2.result.1.now c.in-Some.len _ c.split_at.ensures.back
    (sym c.closing.ensures.value ∙ c.in-Some.is) c.split_at-2.ensures.back (sym c.if-is_sign.false ∙ c.is_sign.ensures)
