-- Repeats.
use Rattle.std.specs.Prelude.{◌≡◌, ℕ, ◌+◌, ◌*◌, ◌-◌, ◌≤◌, Bool, List, [], ◌∷◌, ◌++◌, length, Option, Some, None, IsTrue}
use Rattle.std.specs.List.{list_all}
use Rattle.formula_parser.specs.Escapes.{is_between}

abbrev pub is_digit : ℕ → Bool
is_digit c = is_between 48 57 c

-- what decimal digits write, after digits that write v
abbrev pub value_after : ℕ → List ℕ → ℕ
value_after v [] = v
value_after v (c ∷ t) = value_after (10 * v + (c - 48)) t

-- one to four decimal digits of a value of at most 1,000
pub record IsNumber (t : List ℕ) (n : ℕ) : Type 0 where
  pub digits : IsTrue (list_all is_digit t)
  pub from_one : 1 ≤ length t
  pub to_four : length t ≤ 4
  pub value : n ≡ value_after 0 t
  pub small : n ≤ 1000

-- what a repeat says: so many times at least, and at most
pub data IsRepeat : List ℕ → ℕ → Option ℕ → Type 0 where
  -- `*`, `+`, `?`
  star : IsRepeat (42 ∷ []) 0 None
  plus : IsRepeat (43 ∷ []) 1 None
  maybe : IsRepeat (63 ∷ []) 0 (Some 1)
  -- `{m}`, `{m,}`, `{m,k}`
  exactly : {t : List ℕ} {m : ℕ} → IsNumber t m → IsRepeat (123 ∷ (t ++ 125 ∷ [])) m (Some m)
  at_least : {t : List ℕ} {m : ℕ} → IsNumber t m → IsRepeat (123 ∷ (t ++ 44 ∷ 125 ∷ [])) m None
  between : {t u : List ℕ} {m k : ℕ} → IsNumber t m → IsNumber u k → m ≤ k → IsRepeat (123 ∷ (t ++ 44 ∷ (u ++ 125 ∷ []))) m (Some k)

-- the bytes that begin a repeat
pub data IsSign : ℕ → Type 0 where
  star_sign : IsSign 42
  plus_sign : IsSign 43
  maybe_sign : IsSign 63
  brace_sign : IsSign 123
