use Rattle.std.proofs.Common.{◌∙◌, ◌++◌, ap, take, arith}
use Rattle.std.specs.Fmt.{decimal}
use Rattle.row_writer.specs.Open.{Open, open_text}
use Rattle.row_writer.proofs.Opened.{pieces_written}
use Rattle.row_writer.proofs.open.OpenLine.put.Goals as goal

pub returns-clause-text : goal.returns-clause-text
returns-clause-text c =
    let o = c.self.inside in
    pieces_written c.args.at o.front_len o.back_len c.put_number-end.result c.args.buffer.now c.put_bytes-front.new.buffer c.put_number-end.new.buffer c.put_bytes-back.new.buffer
    o.front o.back (decimal c.args.number) c.put_bytes-front.result c.put_bytes-back.result (omega arith) (omega arith) (omega arith) (omega arith) (omega arith)
    c.put_bytes-front.ensures.text c.put_number-end.ensures.text c.put_bytes-back.ensures.text
    ∙ ap (λ (k : Open). take c.args.at c.args.buffer.now ++ open_text k c.args.number) c.self.view_is
