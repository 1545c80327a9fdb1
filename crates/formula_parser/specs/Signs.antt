-- The sign of a formula over characters.
use Rattle.std.specs.Prelude.{◌≡◌, ◌≢◌, ℕ, ◌+◌, Bool, true, false, not, ◌==◌, ◌&&◌, List, [], ◌∷◌, ◌++◌, drop, Option, Some, None, if◌then◌else◌}
use Rattle.span_core.specs.Names.{is_name_byte}
use Rattle.formula_parser.specs.Runs.{begins}

-- no slash, but for one that is the second byte of a pair: a backslash and the byte after it are a pair
pub data IsInside : List ℕ → Type 0 where
  nothing : IsInside []
  lone : {c : ℕ} {t : List ℕ} → c ≢ 47 → c ≢ 92 → IsInside t → IsInside (c ∷ t)
  pair : {c : ℕ} {t : List ℕ} → IsInside t → IsInside (92 ∷ c ∷ t)

-- u stands between the slash at `from` and the closing slash, and v follows that
abbrev pub IsClosed : List ℕ → ℕ → List ℕ → List ℕ → Type 0
IsClosed text from u v = IsInside u × (drop (from + 1) text ≡ u ++ 47 ∷ v)

-- a `u` that no letter, digit or `_` follows
abbrev pub is_sign : List ℕ → Bool
is_sign [] = false
is_sign (c ∷ t) = c == 117 && not (begins is_name_byte t)

-- the text u between the slashes, behind which the sign stands
abbrev pub HasSign : List ℕ → ℕ → List ℕ → Type 0
HasSign text from u = (v : List ℕ) × IsClosed text from u v × (is_sign v ≡ true)

abbrev pub HasNoSign : List ℕ → ℕ → Type 0
HasNoSign text from = (u v : List ℕ) → IsClosed text from u v → is_sign v ≡ false

-- how many bytes are passed on the way to the closing slash: none where it stands here, two where a pair does
abbrev pub passed : List ℕ → Option ℕ
passed [] = None
passed (c ∷ []) = if c == 47 then Some 0 else Some 1
passed (c ∷ d ∷ t) = if c == 47 then Some 0 else if c == 92 then Some 2 else Some 1

-- the place of the closing slash, counted on from `at`
unfoldable pub closing_from : ℕ → List ℕ → Option ℕ
closing_from at [] = None
closing_from at (c ∷ []) = if c == 47 then Some at else None
closing_from at (c ∷ d ∷ t) = if c == 47 then Some at else if c == 92 then closing_from (at + 2) t else closing_from (at + 1) (d ∷ t)

-- how many bytes stand before the closing slash, where the sign stands behind it
abbrev pub sign_if : List ℕ → Option ℕ → Option ℕ
sign_if t None = None
sign_if t (Some k) = if is_sign (drop (k + 1) t) then Some k else None

unfoldable pub sign_in : List ℕ → Option ℕ
sign_in t = sign_if t (closing_from 0 t)
