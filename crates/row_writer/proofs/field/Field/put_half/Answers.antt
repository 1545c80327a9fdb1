use Rattle.std.proofs.Common.{◌∙◌, ◌++◌, ◌∷◌, [], ap, take, arith}
use Rattle.std.specs.Fmt.{decimal}
use Rattle.row_writer.proofs.Keeping.{behind_opening, front_written}
use Rattle.row_writer.specs.Kept.{Field}
use Rattle.row_writer.specs.KeptField.{opening, sign}
use Rattle.row_writer.proofs.field.Field.put_half.Goals as goal

pub returns-clause-text : goal.returns-clause-text
returns-clause-text c =
    let f = c.self.inside in
    let i = c.self.invariant in
    let half = decimal f.span.start ++ sign f.style ∷ [] in
    let text = i.half ∙ behind_opening (take f.first f.bytes) (take f.head f.bytes) (opening f.style) half i.front in
    front_written c.args.at f.middle c.put_bytes-whole.result c.args.buffer.now c.put_bytes-whole.new.buffer f.bytes (take f.head f.bytes ++ (opening f.style ++ half))
    (omega arith) (omega arith) c.put_bytes-whole.ensures.text text
    ∙ ap (λ (k : Field). take c.args.at c.args.buffer.now ++ (k.head.before ++ (opening k.head.style ++ (decimal k.span.start ++ sign k.head.style ∷ [])))) c.self.view_is
