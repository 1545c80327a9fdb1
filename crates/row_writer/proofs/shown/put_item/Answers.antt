use Rattle.std.proofs.Common.{ℕ, ◌++◌, ◌∷◌, [], List, take, ap, ◌∙◌, slice_range}
use Rattle.json.specs.Print.{escape}
use Rattle.row_writer.specs.Lines.{text_form}
use Rattle.row_writer.proofs.Escapes.{item_text}
use Rattle.row_writer.proofs.shown.put_item.Goals as goal

pub returns-clause-text : goal.returns-clause-text
returns-clause-text c =
    let form = escape (text_form (slice_range c.args.doc.now c.args.span.start c.args.span.end)) in
    c.put_bytes.ensures.text
    ∙ ap (λ (xs : List ℕ). xs ++ 34 ∷ 93 ∷ []) (c.put_escaped_form-end.ensures.text ∙ ap (λ (xs : List ℕ). xs ++ form) c.put_bytes-end.ensures.text)
    ∙ item_text (take c.args.at c.args.buffer.now) form
