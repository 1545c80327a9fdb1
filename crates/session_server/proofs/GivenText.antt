-- A reply with rows, put together.
use Rattle.std.proofs.Common.{◌≡◌, ℕ, Bool, true, false, List, [], ◌∷◌, ◌++◌, sym, ap, ◌∙◌, append_assoc, refl}
use Rattle.std.specs.Fmt.{decimal}
use Rattle.std.specs.Prelude.{codes}
use Rattle.serde_json.specs.Data.{Items, array, boolean, string}
use Rattle.serde_json.specs.Written.{compact_text}
use Rattle.row_writer.proofs.Escapes.{name_quoted}
use Rattle.note_texts.specs.Notes.{line}
use Rattle.session_server.specs.Replies.{rows_object}
use Rattle.session_server.specs.Rows.{more_text}

together : (number between rows : List ℕ) → ((number ++ between) ++ rows) ++ 125 ∷ 10 ∷ [] ≡ (number ++ (between ++ (rows ++ 125 ∷ []))) ++ 10 ∷ []
together number between rows =
    append_assoc (number ++ between) rows (125 ∷ 10 ∷ [])
    ∙ append_assoc number between (rows ++ 125 ∷ 10 ∷ [])
    ∙ ap (λ (t : List ℕ). number ++ (between ++ t)) (sym (append_assoc rows (125 ∷ []) (10 ∷ [])))
    ∙ ap (λ (t : List ℕ). number ++ t) (sym (append_assoc between (rows ++ 125 ∷ []) (10 ∷ [])))
    ∙ sym (append_assoc number (between ++ (rows ++ 125 ∷ [])) (10 ∷ []))

-- the names of its members are written as they are
named : (id : ℕ) (more end : List ℕ) →
    123 ∷ (compact_text (string (codes "id")) ++ 58 ∷ (decimal id ++ 44 ∷ (compact_text (string (codes "more")) ++ 58 ∷ (more ++ 44 ∷ (compact_text (string (codes "rows")) ++ 58 ∷ end)))))
    ≡ 123 ∷ 34 ∷ (codes "id" ++ 34 ∷ 58 ∷ (decimal id ++ 44 ∷ 34 ∷ (codes "more" ++ 34 ∷ 58 ∷ (more ++ 44 ∷ 34 ∷ (codes "rows" ++ 34 ∷ 58 ∷ end)))))
named id more end =
    ap (λ (a : List ℕ). 123 ∷ (a ++ 58 ∷ (decimal id ++ 44 ∷ (compact_text (string (codes "more")) ++ 58 ∷ (more ++ 44 ∷ (compact_text (string (codes "rows")) ++ 58 ∷ end))))))
    (name_quoted (codes "id") refl)
    ∙ ap (λ (a : List ℕ). 123 ∷ 34 ∷ (codes "id" ++ 34 ∷ 58 ∷ (decimal id ++ 44 ∷ (a ++ 58 ∷ (more ++ 44 ∷ (compact_text (string (codes "rows")) ++ 58 ∷ end)))))) (name_quoted (codes "more") refl)
    ∙ ap (λ (a : List ℕ). 123 ∷ 34 ∷ (codes "id" ++ 34 ∷ 58 ∷ (decimal id ++ 44 ∷ 34 ∷ (codes "more" ++ 34 ∷ 58 ∷ (more ++ 44 ∷ (a ++ 58 ∷ end)))))) (name_quoted (codes "rows") refl)

object_text : (id : ℕ) (more : Bool) (items : Items) →
    123 ∷ 34 ∷ (codes "id" ++ 34 ∷ 58 ∷ (decimal id ++ (more_text more ++ (compact_text (array items) ++ 125 ∷ [])))) ≡ compact_text (rows_object id more items)
object_text id true items = sym (named id (compact_text (boolean true)) (compact_text (array items) ++ 125 ∷ []))
object_text id false items = sym (named id (compact_text (boolean false)) (compact_text (array items) ++ 125 ∷ []))

pub given_text : (id : ℕ) (more : Bool) (between rows o0 o1 o2 o3 o4 o5 : List ℕ) (items : Items) → o0 ≡ [] → o1 ≡ o0 ++ 123 ∷ 34 ∷ 105 ∷ 100 ∷ 34 ∷ 58 ∷ [] → o2 ≡ o1 ++ decimal id →
    between ≡ more_text more → o3 ≡ o2 ++ between → o4 ≡ o3 ++ rows → o5 ≡ o4 ++ 125 ∷ 10 ∷ [] → rows ≡ compact_text (array items) → o5 ≡ line (compact_text (rows_object id more items))
given_text id more between rows o0 o1 o2 o3 o4 o5 items e0 e1 e2 b e3 e4 e5 r =
    let head : o2 ≡ 123 ∷ 34 ∷ 105 ∷ 100 ∷ 34 ∷ 58 ∷ decimal id = e2 ∙ ap (λ (t : List ℕ). t ++ decimal id) (e1 ∙ ap (λ (t : List ℕ). t ++ 123 ∷ 34 ∷ 105 ∷ 100 ∷ 34 ∷ 58 ∷ []) e0) in
    let array_there : o4 ≡ (o2 ++ more_text more) ++ compact_text (array items) =
    e4 ∙ ap (λ (t : List ℕ). t ++ rows) (e3 ∙ ap (λ (t : List ℕ). o2 ++ t) b) ∙ ap (λ (t : List ℕ). (o2 ++ more_text more) ++ t) r in
    e5 ∙ ap (λ (t : List ℕ). t ++ 125 ∷ 10 ∷ []) (array_there ∙ ap (λ (t : List ℕ). (t ++ more_text more) ++ compact_text (array items)) head)
    ∙ ap (λ (t : List ℕ). 123 ∷ 34 ∷ 105 ∷ 100 ∷ 34 ∷ 58 ∷ t) (together (decimal id) (more_text more) (compact_text (array items)))
    ∙ ap (λ (t : List ℕ). t ++ 10 ∷ []) (object_text id more items)
