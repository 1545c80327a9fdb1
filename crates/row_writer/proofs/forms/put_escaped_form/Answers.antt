use Rattle.std.proofs.Common.{◌++◌, ℕ, List, take, ap, ◌∙◌, arith}
use Rattle.std.proofs.lemmas.List.{take_all}
use Rattle.std.specs.List.{flat_map}
use Rattle.row_writer.specs.Escapes.{escaped_form}
use Rattle.row_writer.proofs.Escapes.{text_escaped}
use Rattle.row_writer.proofs.forms.put_escaped_form.Goals as goal

pub returns-clause-text : goal.returns-clause-text
returns-clause-text c =
    let bytes = c.args.bytes.now in
    c.loop-byte.invariant.written
    ∙ ap (λ (xs : List ℕ). take c.args.at c.args.buffer.now ++ xs)
    (ap (flat_map escaped_form) (take_all c.loop-byte.byte-index bytes (omega arith)) ∙ text_escaped bytes)
