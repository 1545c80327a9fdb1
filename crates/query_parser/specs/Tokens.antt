-- The tokens of a query's text.
use Rattle.std.specs.Prelude.{◌≡◌, ◌≢◌, ℕ, ◌+◌, Bool, false, ◌||◌, ◌==◌, List, [], ◌∷◌, ◌++◌, length, drop, Option, Some, None, IsTrue, if◌then◌else◌, codes}
use Rattle.std.specs.Str.{bytes_eq}
use Rattle.span_core.specs.Names.{is_name_start, is_name_byte}
use Rattle.spanner_model.specs.Captures.{VarName}
use Rattle.spanner_model.specs.Expression.{AtomTree}
use Rattle.formula_parser.specs.Names.{is_word}
use Rattle.formula_parser.specs.Runs.{begins, StandsAt}
use Rattle.formula_parser.specs.Spells.{IsAtomAt}

-- an atom; the words of queries, and any other word, of whatever length; the signs = ; ( ) and the comma
pub data Token : Type 0 where
  atom_token : AtomTree → Token
  let_word : Token
  union_word : Token
  join_word : Token
  project_word : Token
  none_word : Token
  name_token : VarName → Token
  equals : Token
  semicolon : Token
  open_paren : Token
  close_paren : Token
  comma : Token

-- the word of a difference: behind a whole conjunction it is a sign, elsewhere a name
abbrev pub minus_word : List ℕ
minus_word = codes "minus"

-- the token of a word
abbrev pub word_token : List ℕ → Token
word_token x =
    if bytes_eq x (codes "let") then let_word
    else if bytes_eq x (codes "union") then union_word
    else if bytes_eq x (codes "join") then join_word
    else if bytes_eq x (codes "project") then project_word
    else if bytes_eq x (codes "none") then none_word
    else name_token x

-- the token of a sign
abbrev pub sign_token : ℕ → Option Token
sign_token c =
    if c == 61 then Some equals
    else if c == 59 then Some semicolon
    else if c == 40 then Some open_paren
    else if c == 41 then Some close_paren
    else if c == 44 then Some comma
    else None

-- the space, 09, 0A and 0D
abbrev pub is_blank : ℕ → Bool
is_blank c = c == 32 || c == 9 || c == 10 || c == 13

-- a byte that is no blank and begins no token
abbrev pub IsStray : ℕ → Type 0
IsStray c = (is_blank c ≡ false) × (c ≢ 47) × (is_name_start c ≡ false) × (sign_token c ≡ None)

-- x stands at the place p, and is the longest run of name bytes there
abbrev pub IsWordAt : List ℕ → ℕ → List ℕ → Type 0
IsWordAt text p x = (rest : List ℕ) × (drop p text ≡ x ++ rest) × IsTrue (is_word x) × (begins is_name_byte rest ≡ false)

-- The token at the place p of the text, and the place after it.
pub data TokenAt (text : List ℕ) (p : ℕ) : Token → ℕ → Type 0 where
  atom_at : {a : AtomTree} {q : ℕ} → StandsAt text p (47 ∷ []) → IsAtomAt text p (a, q) → TokenAt text p (atom_token a) q
  word_at : (x : List ℕ) {t : Token} → IsWordAt text p x → word_token x ≡ t → TokenAt text p t (p + length x)
  sign_at : {c : ℕ} {t : Token} → StandsAt text p (c ∷ []) → sign_token c ≡ Some t → TokenAt text p t (p + 1)

-- a blank stands at the place p
abbrev pub BlankAt : List ℕ → ℕ → Type 0
BlankAt text p = (c : ℕ) × StandsAt text p (c ∷ []) × IsTrue (is_blank c)

-- From the place p on the text has these tokens, with blanks before, between and after them.
pub data HasTokens (text : List ℕ) : ℕ → List Token → Type 0 where
  text_ends : {p : ℕ} → drop p text ≡ [] → HasTokens text p []
  blank_first : {p : ℕ} {ts : List Token} → BlankAt text p → HasTokens text (p + 1) ts → HasTokens text p ts
  token_first : {p q : ℕ} {t : Token} {ts : List Token} → TokenAt text p t q → HasTokens text q ts → HasTokens text p (t ∷ ts)
