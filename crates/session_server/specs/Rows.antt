-- The rows of a reply, as they are written one after another.
use Rattle.std.specs.Prelude.{ℕ, Bool, true, false, List, [], ◌∷◌, ◌++◌, codes}
use Rattle.serde_json.specs.Written.{compact_text}
use Rattle.spanner_model.specs.Captures.{VarName}
use Rattle.spanner_model.specs.Answers.{SpanRow}
use Rattle.session_server.specs.Replies.{row_data}

-- before a row stands a comma, and before the first one the bracket of the array
abbrev pub sign_behind : List ℕ → ℕ
sign_behind [] = 91
sign_behind (b ∷ text) = 44

abbrev pub with_row : List ℕ → List ℕ → List ℕ
with_row text row = text ++ sign_behind text ∷ row

-- the compact texts of rows, each behind its sign
abbrev pub later_rows : List VarName → List SpanRow → List ℕ
later_rows names [] = []
later_rows names (row ∷ rows) = 44 ∷ (compact_text (row_data names row) ++ later_rows names rows)

abbrev pub rows_text : List VarName → List SpanRow → List ℕ
rows_text names [] = []
rows_text names (row ∷ rows) = 91 ∷ (compact_text (row_data names row) ++ later_rows names rows)

-- the array of the rows that are written so
abbrev pub array_of : List ℕ → List ℕ
array_of [] = 91 ∷ 93 ∷ []
array_of (b ∷ text) = b ∷ (text ++ 93 ∷ [])

-- what stands between the session's number and the rows: `,"more":true,"rows":`, or the same with `false`
abbrev pub more_text : Bool → List ℕ
more_text true = 44 ∷ 34 ∷ (codes "more" ++ 34 ∷ 58 ∷ (codes "true" ++ 44 ∷ 34 ∷ (codes "rows" ++ 34 ∷ 58 ∷ [])))
more_text false = 44 ∷ 34 ∷ (codes "more" ++ 34 ∷ 58 ∷ (codes "false" ++ 44 ∷ 34 ∷ (codes "rows" ++ 34 ∷ 58 ∷ [])))
