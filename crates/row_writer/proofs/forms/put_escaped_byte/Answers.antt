use Rattle.std.proofs.Common.{◌<◌, ◌++◌, ℕ, List, take, sym, ap, ◌∙◌, arith}
use Rattle.row_writer.proofs.Escapes.{form_escaped}
use Rattle.row_writer.proofs.forms.put_escaped_byte.Goals as goal

pub returns-clause-text : goal.returns-clause-text
returns-clause-text c =
    let byte : c.args.byte < 256 = omega (arith, c.ranges.byte) in
    c.put_form_twice.ensures.text ∙ ap (λ (xs : List ℕ). take c.args.at c.args.buffer.now ++ xs) (sym (form_escaped c.args.byte byte))
