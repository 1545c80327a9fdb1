-- One step of reading: what the next token makes of what is open.
use Rattle.std.specs.Prelude.{◌≡◌, ℕ, zero, suc, ◌+◌, Bool, true, false, ◌==◌, nat_lt, List, [], ◌∷◌, length, drop, Option, Some, None, Result, Ok, Err, if◌then◌else◌}
use Rattle.std.specs.Str.{bytes_eq}
use Rattle.span_core.specs.Names.{is_name}
use Rattle.spanner_model.specs.Tree.{Tree, one, rep, cap}
use Rattle.spanner_model.specs.WellBuilt.{none_word}
use Rattle.spanner_model.specs.Expression.{AtomTree}
use Rattle.formula_parser.specs.declared.fault.FormulaFault.{FormulaFault}
use Rattle.formula_parser.specs.declared.fault.FormulaFault.TheVariants.{Unexpected, Unclosed, BadRange, BadRepeat, DoubleRepeat, Anchor, NameTooLong, ReservedName, TooDeep}
use Rattle.formula_parser.specs.Sets.{Bytes, single}
use Rattle.formula_parser.specs.Alphabet.{dot_set}
use Rattle.formula_parser.specs.Dialect.{Dialect, alphabet_of, tree_in, ElemToken, escape_in, is_empty_kind}
use Rattle.formula_parser.specs.Runs.{begins_with}
use Rattle.formula_parser.specs.Escapes.{elem_set}
use Rattle.formula_parser.specs.Tokens.{head_at, Bounds, bounds_at, tails}
use Rattle.formula_parser.specs.ClassStep.{class_at}
use Rattle.formula_parser.specs.Spells.{bytes_tree}
use Rattle.formula_parser.specs.Faults.{Opener, slash, group, capture}
use Rattle.formula_parser.specs.Nest.{Frame, start, unit, repeated, Nest, whole, with_unit, with_repeat, opened, next_arm, outermost}

-- a formula, and whether it is tied to the end
abbrev pub Body : Type 0
Body = Tree × Bool

-- so many bytes are read and this is open then; or the reading ends, with Ok where a slash ends the atom
pub data Next : Type 0 where
  goes : ℕ → Nest → Next
  stops : Result Body FormulaFault → Next

-- a repeat that has been read and takes so many bytes, by what stands before it
abbrev pub repeats : ℕ → ℕ → ℕ → Option ℕ → Nest → Next
repeats at len least most n = elim n.last [
  | start ↦ stops (Err (Unexpected at))
  | unit f ↦ goes len (with_repeat (rep f least most) n)
  | repeated f ↦ stops (Err (DoubleRepeat at))
]

-- a `{`, and the repeat that it begins
abbrev pub braces : ℕ → Option Bounds → Nest → Next
braces at None n = elim n.last [
  | start ↦ stops (Err (Unexpected at))
  | unit f ↦ stops (Err (BadRepeat at))
  | repeated f ↦ stops (Err (DoubleRepeat at))
]
braces at (Some b) n = repeats at b.len b.least b.most n

abbrev pub opens : Opener → ℕ → ℕ → Nest → Next
opens opener at len n = if nat_lt (length n.below) 100 then goes len (opened opener at n) else stops (Err (TooDeep at))

abbrev pub escapes : Dialect → ℕ → ElemToken → Nest → Next
escapes d at (Ok x) n = if is_empty_kind d x.0 then stops (Err (BadRange at)) else goes x.1 (with_unit (tree_in d (elem_set x.0)) n)
escapes d at (Err e) n = stops (Err e)

abbrev pub classes : Dialect → Result (Bytes × ℕ) FormulaFault → Nest → Next
classes d (Ok x) n = goes x.1 (with_unit (tree_in d x.0) n)
classes d (Err e) n = stops (Err e)

-- a `!`, and the word of the capture that it begins
abbrev pub bangs : ℕ → Option (List ℕ) → Nest → Next
bangs at None n = goes 1 (with_unit (one (single 33)) n)
bangs at (Some x) n =
    if is_name x then (if bytes_eq x none_word then stops (Err (ReservedName at)) else opens (capture x) at (length x + 2) n)
    else stops (Err (NameTooLong at))

-- what a frame is in the frame around it, once it is closed
abbrev pub leaves : Tree → List Frame → ℕ → Next
leaves f [] at = stops (Err (Unexpected at))
leaves f (outer ∷ below) at = goes 1 (record { below = below; top = outer; last = unit f })

abbrev pub closes_group : ℕ → Nest → Next
closes_group at n = elim n.top.opener [
  | slash ↦ stops (Err (Unexpected at))
  | group ↦ leaves (whole n) n.below at
  | capture name ↦ stops (Err (Unclosed n.top.place))
]

abbrev pub closes_capture : ℕ → Nest → Next
closes_capture at n = elim n.top.opener [
  | slash ↦ stops (Err (Unexpected at))
  | group ↦ stops (Err (Unclosed n.top.place))
  | capture name ↦ leaves (cap name (whole n)) n.below at
]

abbrev pub closes_atom : Nest → Next
closes_atom n = elim n.top.opener [
  | slash ↦ stops (Ok (whole n, false))
  | group ↦ stops (Err (Unclosed n.top.place))
  | capture name ↦ stops (Err (Unclosed n.top.place))
]

-- a `$` before the text t
abbrev pub ties : ℕ → List ℕ → Nest → Next
ties at t n = elim n.top.opener [
  | slash ↦ (if begins_with 47 t then stops (Ok (whole n, true)) else stops (Err (Anchor at)))
  | group ↦ stops (Err (Anchor at))
  | capture name ↦ stops (Err (Anchor at))
]

-- a byte of C0 or more, and the bytes of 80 to BF that follow it
abbrev pub widens : ℕ → List ℕ → Nest → Next
widens c t n = goes (suc (length t)) (with_unit (bytes_tree (c ∷ t)) n)

abbrev pub step : Dialect → ℕ → List ℕ → Nest → Next
step d at [] n = stops (Err (Unclosed n.top.place))
step d at (c ∷ t) n =
    if c == 47 then closes_atom n
    else if c == 40 then opens group at 1 n
    else if c == 41 then closes_group at n
    else if c == 91 then classes d (class_at d at t) n
    else if c == 93 then stops (Err (Unexpected at))
    else if c == 123 then braces at (bounds_at t) n
    else if c == 125 then closes_capture at n
    else if c == 124 then goes 1 (next_arm n)
    else if c == 42 then repeats at 1 0 None n
    else if c == 43 then repeats at 1 1 None n
    else if c == 63 then repeats at 1 0 (Some 1) n
    else if c == 46 then goes 1 (with_unit (tree_in d (dot_set (alphabet_of d))) n)
    else if c == 94 then stops (Err (Anchor at))
    else if c == 36 then ties at t n
    else if c == 33 then bangs at (head_at t) n
    else if c == 92 then escapes d at (escape_in d at t) n
    else if nat_lt c 192 then goes 1 (with_unit (one (single c)) n)
    else widens c (tails t) n

-- how many bytes an atom's end takes: a slash, and a `$` before it where it is tied
abbrev pub end_len : Bool → ℕ
end_len true = 2
end_len false = 1

-- After so many steps more the reading ends with r: a formula, whether it is tied, and the place after the slash; or a fault.
abbrev pub EndsAfter : Dialect → ℕ → ℕ → List ℕ → Nest → Result (Body × ℕ) FormulaFault → Type 0
EndsAfter d zero at text n (Ok r) = (step d at text n ≡ stops (Ok r.0)) × (r.1 ≡ at + end_len r.0.1)
EndsAfter d zero at text n (Err e) = step d at text n ≡ stops (Err e)
EndsAfter d (suc steps) at text n r =
    (len : ℕ) × (m : Nest) × (step d at text n ≡ goes len m) × EndsAfter d steps (at + len) (drop len text) m r

abbrev pub Ends : Dialect → ℕ → List ℕ → Nest → Result (Body × ℕ) FormulaFault → Type 0
Ends d at text n r = (steps : ℕ) × EndsAfter d steps at text n r

-- how many bytes stand between the slash and the formula: a `^` where it is tied
abbrev pub tie_len : Bool → ℕ
tie_len true = 1
tie_len false = 0

-- a `^` stands straight after the slash
abbrev pub is_tied : List ℕ → ℕ → Bool
is_tied text from = begins_with 94 (drop (from + 1) text)

-- where the formula begins
abbrev pub start_at : List ℕ → ℕ → ℕ
start_at text from = from + 1 + tie_len (is_tied text from)

-- Reading from the slash at `from` ends with r.
abbrev pub Reading : Dialect → List ℕ → ℕ → Result (Body × ℕ) FormulaFault → Type 0
Reading d text from r = Ends d (start_at text from) (drop (start_at text from) text) (outermost from) r

-- the atom of a formula that is read
abbrev pub atom_read : Bool → Body → AtomTree
atom_read tied body = record { from_start = tied; to_end = body.1; formula = body.0 }
