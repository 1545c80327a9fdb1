use Rattle.std.proofs.Common.{ℕ, ◌++◌, ◌∷◌, [], List, ap, ◌∙◌}
use Rattle.serde_json.specs.View.{view}
use Rattle.row_writer.proofs.Members.{written}
use Rattle.row_writer.proofs.json_lines.json_line.Goals as goal

pub returns-clause-ok : goal.returns-clause-ok
returns-clause-ok g c =
    let text = written (view c.in_ok-object.object) c.args.doc.now c.args.texts c.args.vars.now c.args.row.now _ c.in_ok-object.ensures c.in_ok-line.ensures.text in
    c.in_ok-extend_from_slice.ensures.items ∙ ap (λ (xs : List ℕ). c.args.out.now.items ++ xs) (c.as_bytes.ensures.value ∙ c.in_ok-push_str.ensures.bytes ∙ ap (λ (xs : List ℕ). xs ++ 10 ∷ []) text)
