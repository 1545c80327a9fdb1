use Rattle.std.proofs.Common.{◌+◌, take, ap, ◌∙◌, arith}
use Rattle.row_writer.proofs.LastDigit.{tens_kept}
use Rattle.row_writer.proofs.tens.Tens.turn.Goals as goal

pub returns-clause-tens : goal.returns-clause-tens
returns-clause-tens c =
    let put = c.put_rest-end in
    tens_kept c.args.line.now c.args.number _ _ _ put.new.bytes c.ranges.number.fits (omega arith) (ap (λ k. take (put.result + k) put.new.bytes) c.behind.ensures ∙ put.ensures.text)
    (omega arith) (omega arith) put.ensures.front (omega arith)
