use Rattle.std.proofs.Common.{◌≡◌, ◌+◌, ◌∙◌, ◌++◌, ap, refl, List, ℕ, take, append_assoc, arith}
use Rattle.row_writer.proofs.Keeping.{front_written}
use Rattle.row_writer.specs.Kept.{Field}
use Rattle.row_writer.specs.KeptField.{absent}
use Rattle.row_writer.proofs.field.Field.put_absent.Goals as goal

pub returns-clause-text : goal.returns-clause-text
returns-clause-text c =
    let f = c.self.inside in
    let i = c.self.invariant in
    let before = take c.args.at c.args.buffer.now in
    let front = take f.head f.bytes in
    let head : take (c.args.at + f.head) c.put_bytes-whole.new.buffer ≡ before ++ front =
    front_written c.args.at f.head c.put_bytes-whole.result c.args.buffer.now c.put_bytes-whole.new.buffer f.bytes front (omega arith) (omega arith) c.put_bytes-whole.ensures.text refl in
    c.put_no_span.ensures.text
    ∙ ap (λ (xs : List ℕ). xs ++ absent f.style) head
    ∙ append_assoc before front (absent f.style)
    ∙ ap (λ (k : Field). before ++ (k.head.before ++ absent k.head.style)) c.self.view_is
