use Rattle.std.proofs.Common.{◌+◌, drop, drop-drop, sym, ◌∙◌, ap, arith}
use Rattle.formula_parser.specs.Signs.{closing_from}
use Rattle.formula_parser.proofs.SignLaws.{pass_none, pass_here, pass_on}
use Rattle.formula_parser.proofs.sign.closing.Goals as goal

pub returns-in_default-clause-value : goal.returns-in_default-clause-value
returns-in_default-clause-value c =
    let l = c.loop-len in
    sym (l.invariant.same ∙ ap (closing_from l.at) (sym c.split_at.ensures.back) ∙ pass_none l.at c.split_at.result.1.now (sym c.passed.ensures ∙ c.in_default.is))

pub returns-then-len-eq0-clause-value : goal.returns-then-len-eq0-clause-value
returns-then-len-eq0-clause-value c =
    let l = c.loop-len in
    let here = pass_here l.at c.split_at.result.1.now c.in-Some.len (sym c.passed.ensures ∙ c.in-Some.is) c.if-len-eq0.true in
    sym (l.invariant.same ∙ ap (closing_from l.at) (sym c.split_at.ensures.back) ∙ here.0)

pub loop-len-preserved : goal.loop-len-preserved
loop-len-preserved c =
    let l = c.loop-len in
    let on = pass_on l.at c.split_at.result.1.now c.in-Some.len (sym c.passed.ensures ∙ c.in-Some.is) c.if-len-eq0.false in
    record {
      within = omega (arith, on.1, c.split_at.ensures.back_len);
      same = l.invariant.same ∙ ap (closing_from l.at) (sym c.split_at.ensures.back) ∙ on.2 ∙ ap (λ t. closing_from (l.at + c.in-Some.len) (drop c.in-Some.len t)) c.split_at.ensures.back
          ∙ ap (closing_from (l.at + c.in-Some.len)) (drop-drop c.in-Some.len l.at c.args.text.now);
    }
