-- The fault of a text that is no sound query.
use Rattle.std.specs.Prelude.{◌≡◌, ℕ, ◌<◌, ◌≤◌, true, false, List, [], ◌∷◌, length, drop, Err}
use Rattle.span_core.specs.declared.TheConstants.{MOST_VARIABLES}
use Rattle.span_core.specs.Lists.{AtMost}
use Rattle.spanner_model.specs.Expression.{QueryTree}
use Rattle.spanner_model.specs.Sound.{NameOf, IsSound}
use Rattle.formula_parser.specs.declared.fault.FormulaFault.{FormulaFault}
use Rattle.formula_parser.specs.Runs.{StandsAt}
use Rattle.formula_parser.specs.Faults.{HasFault as HasAtomFault}
use Rattle.query_parser.specs.declared.TheConstants.{MOST_TEXT_BYTES}
use Rattle.query_parser.specs.declared.fault.QueryFault.{QueryFault}
use Rattle.query_parser.specs.declared.fault.QueryFault.TheVariants.{Formula, Unexpected, UnknownName, NameTwice, NameTooLong, TooManyVariables, TooLong, TooDeep}
use Rattle.query_parser.specs.Tokens.{Token, TokenAt, IsStray}
use Rattle.query_parser.specs.Spells.{SpellsQuery}
use Rattle.query_parser.specs.Reads.{Reading, Refusal, unexpected, name_too_long, name_twice, unknown_name, too_deep, next, wants_unit, is_whole, ReadsQuery}
use Rattle.query_parser.specs.TreeFaults.{IsTreeFault}

-- a token at the place p that may not come next
abbrev pub refused : Refusal → ℕ → QueryFault
refused unexpected p = Unexpected p
refused name_too_long p = NameTooLong p
refused name_twice p = NameTwice p
refused unknown_name p = UnknownName p
refused too_deep p = TooDeep p

-- The fault that is met first, reading from left to right.
pub data IsReadFault (text : List ℕ) : QueryFault → Type 0 where
  bad_atom : {p : ℕ} {r : Reading} {e : FormulaFault} → ReadsQuery text p r → StandsAt text p (47 ∷ []) → wants_unit r.mark ≡ true →
      HasAtomFault text p e → IsReadFault text (Formula e)
  atom_out_of_place : {p : ℕ} {r : Reading} → ReadsQuery text p r → StandsAt text p (47 ∷ []) → wants_unit r.mark ≡ false →
      IsReadFault text (Unexpected p)
  token_refused : {p q : ℕ} {r : Reading} {t : Token} {why : Refusal} → ReadsQuery text p r → TokenAt text p t q → next r.mark r t ≡ Err why →
      IsReadFault text (refused why p)
  no_token : {p c : ℕ} {r : Reading} → ReadsQuery text p r → StandsAt text p (c ∷ []) → IsStray c → IsReadFault text (Unexpected p)
  not_whole : {p : ℕ} {r : Reading} → ReadsQuery text p r → drop p text ≡ [] → is_whole r ≡ false → IsReadFault text (Unexpected p)

-- the whole text is read, and some projection keeps too many names
abbrev pub KeepsTooMany : List ℕ → Type 0
KeepsTooMany text =
    (p : ℕ) × (r : Reading) × ReadsQuery text p r × (drop p text ≡ []) × (is_whole r ≡ true) × (r.many ≡ true)

-- The one fault of a text.
pub data HasFault (text : List ℕ) : QueryFault → Type 0 where
  too_long : MOST_TEXT_BYTES < length text → HasFault text TooLong
  unreadable : {e : QueryFault} → length text ≤ MOST_TEXT_BYTES → IsReadFault text e → HasFault text e
  too_many_kept : length text ≤ MOST_TEXT_BYTES → KeepsTooMany text → HasFault text TooManyVariables
  too_many_captured : {q : QueryTree} → length text ≤ MOST_TEXT_BYTES → SpellsQuery text q → ¬ AtMost MOST_VARIABLES (NameOf q) →
      HasFault text TooManyVariables
  not_sound : {q : QueryTree} {e : QueryFault} → length text ≤ MOST_TEXT_BYTES → SpellsQuery text q → AtMost MOST_VARIABLES (NameOf q) →
      IsTreeFault q e → HasFault text e

-- the text is that of a sound query
abbrev pub IsQueryText : List ℕ → QueryTree → Type 0
IsQueryText text q = (length text ≤ MOST_TEXT_BYTES) × SpellsQuery text q × IsSound q
