-- Tables of answers: names, and rows over them.
use Rattle.std.specs.Prelude.{◌≡◌, ℕ, ◌↔◌, ◌⊎◌, Bool, List, length, slice_get, Some, IsTrue, if◌then◌else◌}
use Rattle.span_core.specs.NameSets.{Ascending, has_name}
use Rattle.span_core.specs.Lists.{Has}
use Rattle.spanner_model.specs.Captures.{VarName, Mapping, span_of, row_of, mapping_of}
use Rattle.spanner_model.specs.Expression.{QueryTree, ExprTree}
use Rattle.spanner_model.specs.Answer.{VarOf, Answer, vars_of_lets, answers_of_lets}
use Rattle.spanner_model.specs.Answers.{SpanRow}
use Rattle.spanner_model.specs.Sound.{IsSound, IsSoundExpr, sure_of_lets, NameIn, NameOf}
use Rattle.plain_spanner.specs.declared.table.Table.{Table}
use Rattle.plain_spanner.specs.Listed.{Tells, FromSome, CapturesAndEnds}

-- the row over these names of a mapping of which A is true
abbrev pub IsRowOf : (Mapping → Type 0) → List VarName → SpanRow → Type 0
IsRowOf A names r = (m : Mapping) × A m × (r ≡ row_of names m)

-- the row of fits with the same captures, one of which ends where it has to
abbrev pub IsRowOfFits : List VarName → Bool → ℕ → CapturesAndEnds → SpanRow → Type 0
IsRowOfFits names to_end n b r = (j : ℕ) × Has b.1 j × (IsTrue to_end → j ≡ n) × (r ≡ row_of names (span_of b.0))

-- the names are those of V, and the rows those of the mappings of which A is true
pub record IsTable (V : VarName → Type 0) (A : Mapping → Type 0) (names : List VarName) (rows : List SpanRow) : Type 0 where
  pub ascending : Ascending names
  pub named : (x : VarName) → Has names x ↔ V x
  pub listed : Tells (Has rows) (IsRowOf A names)

-- the table of an expression's answers, under the first n lets of a query
abbrev pub IsTableOf : QueryTree → List ℕ → ℕ → ExprTree → List VarName → List SpanRow → Type 0
IsTableOf q d n e = IsTable (VarOf (vars_of_lets q.lets n) e) (Answer (vars_of_lets q.lets n) (answers_of_lets q.lets d n) d e)

-- the row over the other names of a row over these names; a name that stands in the others alone is absent
abbrev pub row_over : List VarName → List VarName → SpanRow → SpanRow
row_over names others row = row_of others (mapping_of names row)

abbrev pub IsRowOver : List VarName → List VarName → SpanRow → SpanRow → Type 0
IsRowOver names others row r = r ≡ row_over names others row

-- the row over these names of a row of one of the lists: of the one the rows are over V, of the other over W
abbrev pub IsUnited : List VarName → List VarName → List VarName → List SpanRow → List SpanRow → SpanRow → Type 0
IsUnited names V W lefts rights r = FromSome (IsRowOver V names) lefts r ⊎ FromSome (IsRowOver W names) rights r

-- the row is one of the one list and none of the other
abbrev pub IsLeft : List SpanRow → List SpanRow → SpanRow → Type 0
IsLeft lefts rights r = Has lefts r × (Has rights r → ⊥)

-- a row over the names V and one over the names W say the same of the names of both: the same span, or that it is absent
abbrev pub Meet : List VarName → List VarName → SpanRow → SpanRow → Type 0
Meet V W a b = (x : VarName) → Has V x → Has W x → mapping_of V a x ≡ mapping_of W b x

-- the two mappings as one
abbrev pub merged : List VarName → List VarName → SpanRow → SpanRow → Mapping
merged V W a b x = if has_name V x then mapping_of V a x else mapping_of W b x

-- the row over these names of two rows that meet, one of each list
abbrev pub IsJoined : List VarName → List VarName → List VarName → List SpanRow → List SpanRow → SpanRow → Type 0
IsJoined names V W lefts rights r =
    (a : SpanRow) × (b : SpanRow) × Has lefts a × Has rights b × Meet V W a b × (r ≡ row_of names (merged V W a b))

-- each row is as long as the names
abbrev pub AreRows : List VarName → List SpanRow → Type 0
AreRows names rows = (r : SpanRow) → Has rows r → length r ≡ length names

-- the row at this place has the key
abbrev pub HasKeyAt : List VarName → List VarName → List SpanRow → SpanRow → ℕ → Type 0
HasKeyAt names key_names rows key p = (r : SpanRow) × (slice_get rows p ≡ Some r) × (row_over names key_names r ≡ key)

-- the row over these names of a and of the row at a place
abbrev pub JoinsWith : List VarName → List VarName → List VarName → SpanRow → List SpanRow → ℕ → SpanRow → Type 0
JoinsWith names V W a rights p r = (b : SpanRow) × (slice_get rights p ≡ Some b) × (r ≡ row_of names (merged V W a b))

-- the tables of the lets before
abbrev pub AreTables : QueryTree → List ℕ → List Table → Type 0
AreTables q d tables =
    (k : ℕ) (t : Table) → slice_get tables k ≡ Some t →
    IsTable (vars_of_lets q.lets (length tables) k) (answers_of_lets q.lets d (length tables) k) t.names t.rows.items

-- what is asked of an expression that is worked out after n lets of a query
pub record IsAsked (q : QueryTree) (n : ℕ) (e : ExprTree) : Type 0 where
  pub sound : IsSound q
  pub sound_expr : IsSoundExpr (vars_of_lets q.lets n) (sure_of_lets q.lets n) n e
  pub named : (x : VarName) → NameIn e x → NameOf q x

-- the row over these names of a and of some row that it meets
abbrev pub JoinsRow : List VarName → List VarName → List VarName → List SpanRow → SpanRow → SpanRow → Type 0
JoinsRow names V W rights a r = (b : SpanRow) × Has rights b × Meet V W a b × (r ≡ row_of names (merged V W a b))
