use Rattle.std.proofs.Common.{◌∙◌, ◌++◌, ap, take, Some, arith}
use Rattle.row_writer.proofs.Keeping.{behind_opening, front_written}
use Rattle.row_writer.specs.Kept.{Field}
use Rattle.row_writer.specs.KeptField.{cell_front, numbers, opening}
use Rattle.row_writer.proofs.field.Field.put_whole.Goals as goal

pub returns-clause-text : goal.returns-clause-text
returns-clause-text c =
    let f = c.self.inside in
    let i = c.self.invariant in
    let text = i.all (ap (λ (k : Field). k.whole) c.self.view_is ∙ c.requires.whole)
    ∙ behind_opening (take f.first f.bytes) (take f.head f.bytes) (opening f.style) (numbers f.style f.span) i.front in
    front_written c.args.at f.len c.put_bytes-whole.result c.args.buffer.now c.put_bytes-whole.new.buffer f.bytes (take f.head f.bytes ++ (opening f.style ++ numbers f.style f.span))
    (omega arith) (omega arith) c.put_bytes-whole.ensures.text text
    ∙ ap (λ (k : Field). take c.args.at c.args.buffer.now ++ (k.head.before ++ cell_front k.head.style (Some k.span))) c.self.view_is
