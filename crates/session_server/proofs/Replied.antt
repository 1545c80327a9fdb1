-- The texts of replies.
use Rattle.std.proofs.Common.{◌≡◌, ◌+◌, ℕ, false, List, [], ◌∷◌, ◌++◌, map, take, Some, slice_get, Result, Ok, Err, IfOk, refl, sym, ap, ◌∙◌, subst}
use Rattle.std.specs.Prelude.{Vec}
use Rattle.std.specs.declared.alloc.Global.{Global}
use Rattle.serde_json.specs.Data.{Data, Items, string}
use Rattle.serde_json.specs.View.{view, items_of, items_view}
use Rattle.serde_json.specs.Written.{compact_text, items_have_float}
use Rattle.serde_json.specs.declared.value.Value.{Value}
use Rattle.spanner_model.specs.Captures.{VarName}
use Rattle.spanner_model.proofs.TreeLaws.{take_at_more}
use Rattle.note_texts.specs.Notes.{line}
use Rattle.session_server.specs.Replies.{json_names, names_object, opened, reply_text}

map_snoc : (vs : List Value) (v : Value) → map view (vs ++ v ∷ []) ≡ map view vs ++ view v ∷ []
map_snoc [] v = refl
map_snoc (w ∷ vs) v = ap (λ (ds : List Data). view w ∷ ds) (map_snoc vs v)

string_snoc : (names : List VarName) (x : VarName) → map string (names ++ x ∷ []) ≡ map string names ++ string x ∷ []
string_snoc [] x = refl
string_snoc (y ∷ names) x = ap (λ (ds : List Data). string y ∷ ds) (string_snoc names x)

pub names_more : (names : List VarName) (k : ℕ) (x : VarName) (vs after : List Value) (v : Value) → after ≡ vs ++ v ∷ [] → map view vs ≡ map string (take k names) → view v ≡ string x →
    slice_get names k ≡ Some x → map view after ≡ map string (take (k + 1) names)
names_more names k x vs after v pushed so is at =
    ap (map view) pushed ∙ map_snoc vs v ∙ ap (λ (ds : List Data). ds ++ view v ∷ []) so ∙ ap (λ (d : Data). map string (take k names) ++ d ∷ []) is
    ∙ sym (string_snoc (take k names) x) ∙ ap (map string) (sym (take_at_more names k x at))

names_whole : (names : List VarName) → items_have_float (json_names names) ≡ false
names_whole [] = refl
names_whole (x ∷ names) = names_whole names

text_of : {E : Type 0} (r : Result (Vec ℕ Global) E) (known told : Items) (object : Items → Data) → known ≡ told → items_have_float told ≡ false →
    IfOk r (λ s. items_have_float known ≡ false → s.items ≡ line (compact_text (object known))) → IfOk r (λ s. s.items ≡ line (compact_text (object told)))
text_of (Ok s) known told object same whole is =
    let P : Items → Type 0 = λ x. items_have_float x ≡ false → s.items ≡ line (compact_text (object x)) in
    subst P same is whole
text_of (Err e) known told object same whole is = tt

pub opened_text : {E : Type 0} (r : Result (Vec ℕ Global) E) (id : ℕ) (names : List VarName) (values : List Value) → map view values ≡ map string names →
    IfOk r (λ s. items_have_float (items_view values) ≡ false → s.items ≡ line (compact_text (names_object id (items_view values)))) → IfOk r (λ s. s.items ≡ reply_text (opened id names))
opened_text r id names values same is = text_of r (items_view values) (json_names names) (names_object id) (ap items_of same) (names_whole names) is
