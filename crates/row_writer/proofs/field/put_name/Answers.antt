use Rattle.std.proofs.Common.{ℕ, ◌++◌, ◌∷◌, [], List, take, sym, ap, ◌∙◌}
use Rattle.row_writer.proofs.Escapes.{name_quoted, quoted_text}
use Rattle.row_writer.proofs.field.put_name.Goals as goal

pub returns-clause-text : goal.returns-clause-text
returns-clause-text c =
    let before = take c.args.at c.args.buffer.now in
    let bytes = c.as_bytes.result.now in
    c.put_byte.ensures.text
    ∙ ap (λ (xs : List ℕ). xs ++ 34 ∷ []) (c.put_bytes-end.ensures.text ∙ ap (λ (xs : List ℕ). xs ++ bytes) c.put_byte-end.ensures.text)
    ∙ quoted_text before bytes
    ∙ ap (λ (xs : List ℕ). before ++ 34 ∷ (xs ++ 34 ∷ [])) c.as_bytes.ensures.value
    ∙ ap (λ (xs : List ℕ). before ++ xs) (sym (name_quoted c.args.name.now c.as_bytes.ensures.named))
