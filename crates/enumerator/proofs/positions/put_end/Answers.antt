use Rattle.std.proofs.Common.{◌/◌, ◌∙◌, sym, w64, arith}
use Rattle.std.specs.Int.{trailing_zeros}
use Rattle.enumerator.proofs.Ending.{ends_row}
use Rattle.enumerator.proofs.positions.put_end.Goals as goal

pub returns-clause-put : goal.returns-clause-put
returns-clause-put c =
    (ends_row c.args.v c.args.settled (trailing_zeros w64 c.number.result / 2) c.args.at c.args.marks c.args.positions.now c.args.spans.now c.in-Some.span c.new.result
    (omega arith) (omega arith) (omega arith) (sym c.number-2.ensures ∙ c.if-number.false ∙ c.number-3.ensures ∙ c.closing.ensures) c.requires.row
    _ c.in-Some.is c.new.ensures.start c.new.ensures.end).0

pub returns-clause-row : goal.returns-clause-row
returns-clause-row c =
    (ends_row c.args.v c.args.settled (trailing_zeros w64 c.number.result / 2) c.args.at c.args.marks c.args.positions.now c.args.spans.now c.in-Some.span c.new.result
    (omega arith) (omega arith) (omega arith) (sym c.number-2.ensures ∙ c.if-number.false ∙ c.number-3.ensures ∙ c.closing.ensures) c.requires.row
    _ c.in-Some.is c.new.ensures.start c.new.ensures.end).1
