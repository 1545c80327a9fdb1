use Rattle.std.proofs.Common.{sym, ◌∙◌}
use Rattle.enumerator.specs.Rows.{positions_of}
use Rattle.enumerator.proofs.Spans.{digit_absent, digit_given, span_between_is}
use Rattle.enumerator.proofs.positions.span_of.Goals as goal

pub returns-then-number-closing-ne3 : goal.returns-then-number-closing-ne3
returns-then-number-closing-ne3 c =
    sym (digit_absent c.args.v c.args.settled (positions_of c.args.positions.now) c.args.k c.requires.variable (λ e. c.if-number-closing-ne3.true (rw c.number.ensures e)))

pub returns-then-start-end : goal.returns-then-start-end
returns-then-start-end c = sym (digit_given c.args.v c.args.settled (positions_of c.args.positions.now) c.args.k c.requires.variable
    (rw (← c.number.ensures) c.if-number-closing-ne3.false) ∙ span_between_is c.new.result _ _ (sym c.new.ensures.start) (sym c.new.ensures.end))
