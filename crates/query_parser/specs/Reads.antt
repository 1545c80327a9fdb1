-- What was read of a text before a place, and what may come next.
use Rattle.std.specs.Prelude.{◌≡◌, ℕ, zero, suc, ◌+◌, Bool, true, false, ◌||◌, nat_lt, List, [], ◌∷◌, ◌++◌, length, Option, Some, None, Result, Ok, Err, if◌then◌else◌}
use Rattle.std.specs.Str.{bytes_eq}
use Rattle.span_core.specs.declared.TheConstants.{MOST_VARIABLES}
use Rattle.span_core.specs.Names.{is_name}
use Rattle.span_core.specs.NameSets.{with_name}
use Rattle.spanner_model.specs.Captures.{VarName}
use Rattle.query_parser.specs.declared.TheConstants.{MOST_OPEN, MOST_MINUSES}
use Rattle.query_parser.specs.Tokens.{Token, atom_token, let_word, union_word, join_word, project_word, none_word, name_token, equals, semicolon, open_paren, close_paren, comma, minus_word, TokenAt, BlankAt}

-- the last thing read: nothing since the start or since the end of a let; `let`; the name of a let; something before a unit; a unit;
-- `project`; `none`; a name that a projection keeps, and a comma after it, with the names kept so far
pub data Mark : Type 0 where
  at_start : Mark
  after_let : Mark
  after_name : Mark
  at_unit : Mark
  after_unit : Mark
  after_project : Mark
  after_none : Mark
  after_kept : List VarName → Mark
  after_comma : List VarName → Mark

-- the names of the lets that are ended, the name of the let that is being read, the parentheses that are open, the last thing read,
-- whether some projection keeps too many names, and the signs `minus`
pub record Reading : Type 0 where
  pub names : List VarName
  pub current : Option VarName
  pub opened : ℕ
  pub mark : Mark
  pub many : Bool
  pub minuses : ℕ

-- why a token may not come next
pub data Refusal : Type 0 where
  unexpected : Refusal
  name_too_long : Refusal
  name_twice : Refusal
  unknown_name : Refusal
  too_deep : Refusal

-- x is one of the names
abbrev pub is_among : List VarName → VarName → Bool
is_among [] x = false
is_among (y ∷ ys) x = bytes_eq y x || is_among ys x

-- one name more to keep finds room
abbrev pub finds_room : List VarName → VarName → Bool
finds_room names x = is_among names x || nat_lt (length names) MOST_VARIABLES

abbrev pub marked : Mark → Reading → Reading
marked m r = record r { mark = m }

-- A `(`, where one may stand.
abbrev pub opens : Reading → Result Reading Refusal
opens r = if nat_lt r.opened MOST_OPEN then Ok (record r { opened = suc r.opened; mark = at_unit }) else Err too_deep

-- A name, where one may stand: P has what it means there.
abbrev pub reads_name : VarName → Result Reading Refusal → Result Reading Refusal
reads_name x P = if is_name x then P else Err name_too_long

-- The name of a let.
abbrev pub begins_let : VarName → Reading → Result Reading Refusal
begins_let x r = reads_name x (if is_among r.names x then Err name_twice else Ok (record r { current = Some x; mark = after_name }))

-- A name that is kept, after these.
abbrev pub keeps : List VarName → VarName → Reading → Result Reading Refusal
keeps names x r =
    reads_name x (Ok (if finds_room names x then marked (after_kept (with_name x names)) r else record r { mark = after_kept names; many = true }))

-- A token where a unit is due.
abbrev pub begins_unit : Reading → Token → Result Reading Refusal
begins_unit r (atom_token a) = Ok (marked after_unit r)
begins_unit r (name_token x) = reads_name x (if is_among r.names x then Ok (marked after_unit r) else Err unknown_name)
begins_unit r open_paren = opens r
begins_unit r project_word = Ok (marked after_project r)
begins_unit r _ = Err unexpected

-- A name after a unit, where only the sign `minus` may stand.
abbrev pub subtracts : VarName → Reading → Result Reading Refusal
subtracts x r =
    if bytes_eq x minus_word then (if nat_lt r.minuses MOST_MINUSES then Ok (record r { minuses = suc r.minuses; mark = at_unit }) else Err too_deep)
    else Err unexpected

-- A `)` after a unit, with so many parentheses open.
abbrev pub closes : ℕ → Reading → Result Reading Refusal
closes zero r = Err unexpected
closes (suc k) r = Ok (record r { opened = k; mark = after_unit })

-- A `;` after a unit, which ends a let.
abbrev pub ends_let : ℕ → Option VarName → Reading → Result Reading Refusal
ends_let zero (Some x) r = Ok (record r { names = r.names ++ x ∷ []; current = None; mark = at_start })
ends_let _ _ r = Err unexpected

-- What is read once this token is read too, or why it may not come next.
abbrev pub next : Mark → Reading → Token → Result Reading Refusal
next at_start r let_word = Ok (marked after_let r)
next at_start r t = begins_unit r t
next after_let r (name_token x) = begins_let x r
next after_name r equals = Ok (marked at_unit r)
next at_unit r t = begins_unit r t
next after_unit r union_word = Ok (marked at_unit r)
next after_unit r join_word = Ok (marked at_unit r)
next after_unit r (name_token x) = subtracts x r
next after_unit r close_paren = closes r.opened r
next after_unit r semicolon = ends_let r.opened r.current r
next after_project r none_word = Ok (marked after_none r)
next after_project r (name_token x) = keeps [] x r
next after_none r open_paren = opens r
next (after_kept names) r comma = Ok (marked (after_comma names) r)
next (after_kept names) r open_paren = opens r
next (after_comma names) r (name_token x) = keeps names x r
next _ r t = Err unexpected

-- a unit is due
abbrev pub wants_unit : Mark → Bool
wants_unit at_start = true
wants_unit at_unit = true
wants_unit _ = false

-- a query may end here: after a unit of its body, with no parenthesis open
abbrev pub ends_body : Mark → ℕ → Option VarName → Bool
ends_body after_unit zero None = true
ends_body _ _ _ = false

abbrev pub is_whole : Reading → Bool
is_whole r = ends_body r.mark r.opened r.current

abbrev pub nothing_read : Reading
nothing_read = record { names = []; current = None; opened = 0; mark = at_start; many = false; minuses = 0 }

-- This is read of the text before the place p.
pub data ReadsQuery (text : List ℕ) : ℕ → Reading → Type 0 where
  start_read : ReadsQuery text 0 nothing_read
  blank_read : {p : ℕ} {r : Reading} → ReadsQuery text p r → BlankAt text p → ReadsQuery text (p + 1) r
  token_read : {p q : ℕ} {r s : Reading} {t : Token} → ReadsQuery text p r → TokenAt text p t q → next r.mark r t ≡ Ok s → ReadsQuery text q s
