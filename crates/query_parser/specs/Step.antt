-- One step of reading a query: a blank, or a token.
use Rattle.std.specs.Prelude.{◌≡◌, ◌⊎◌, ℕ, zero, suc, ◌+◌, ◌==◌, List, [], ◌∷◌, length, drop, Option, Some, None, Result, Ok, Err, if◌then◌else◌}
use Rattle.std.specs.List.{take_while}
use Rattle.span_core.specs.Names.{is_name_start, is_name_byte}
use Rattle.spanner_model.specs.Expression.{AtomTree}
use Rattle.formula_parser.specs.declared.fault.FormulaFault.{FormulaFault}
use Rattle.formula_parser.specs.Spells.{IsAtomAt}
use Rattle.formula_parser.specs.Faults.{HasFault as HasAtomFault}
use Rattle.query_parser.specs.declared.fault.QueryFault.{QueryFault}
use Rattle.query_parser.specs.declared.fault.QueryFault.TheVariants.{Formula, Unexpected}
use Rattle.query_parser.specs.Tokens.{Token, atom_token, word_token, sign_token, is_blank}
use Rattle.query_parser.specs.Faults.{refused}
use Rattle.query_parser.specs.Nest.{Nest, Move, Body, move, wants_unit, whole_query}

-- so many bytes are read and this is open then; or an atom is due; or the reading ends
pub data Next : Type 0 where
  goes : ℕ → Nest → Next
  reads_atom : Next
  stops : Result Body QueryFault → Next

-- a token that takes so many bytes
abbrev pub moved : ℕ → ℕ → Move → Next
moved at len (Ok n) = goes len n
moved at len (Err why) = stops (Err (refused why at))

abbrev pub signs : ℕ → Option Token → Nest → Next
signs at None n = stops (Err (Unexpected at))
signs at (Some t) n = moved at 1 (move t n)

abbrev pub ends : ℕ → Option Body → Next
ends at None = stops (Err (Unexpected at))
ends at (Some b) = stops (Ok b)

-- the word at the front
abbrev pub word_at : List ℕ → List ℕ
word_at t = take_while is_name_byte t

abbrev pub after_word : ℕ → List ℕ → Nest → Next
after_word at x n = moved at (length x) (move (word_token x) n)

abbrev pub step : ℕ → List ℕ → Nest → Next
step at [] n = ends at (whole_query n)
step at (c ∷ t) n =
    if is_blank c then goes 1 n
    else if c == 47 then (if wants_unit n.last then reads_atom else stops (Err (Unexpected at)))
    else if is_name_start c then after_word at (word_at (c ∷ t)) n
    else signs at (sign_token c) n

-- After so many steps more the reading of the text from the place `at` on ends with r.
abbrev pub EndsAfter : ℕ → List ℕ → ℕ → Nest → Result Body QueryFault → Type 0
EndsAfter zero text at n r =
    (step at (drop at text) n ≡ stops r)
    ⊎ ((step at (drop at text) n ≡ reads_atom) × ((e : FormulaFault) × HasAtomFault text at e × (r ≡ Err (Formula e))))
EndsAfter (suc steps) text at n r =
    ((len : ℕ) × (m : Nest) × (step at (drop at text) n ≡ goes len m) × EndsAfter steps text (at + len) m r)
    ⊎ ((step at (drop at text) n ≡ reads_atom)
    × ((a : AtomTree) × (q : ℕ) × (m : Nest) × IsAtomAt text at (a, q) × (move (atom_token a) n ≡ Ok m) × EndsAfter steps text q m r))

abbrev pub EndsReading : List ℕ → ℕ → Nest → Result Body QueryFault → Type 0
EndsReading text at n r = (steps : ℕ) × EndsAfter steps text at n r
