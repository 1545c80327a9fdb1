-- The printed forms of formulas and of atoms.
use Rattle.std.specs.Prelude.{ℕ, zero, suc, ◌+◌, ◌-◌, ◌==◌, max, Bool, true, false, not, ◌&&◌, ◌||◌, List, [], ◌∷◌, ◌++◌, Option, Some, None, if◌then◌else◌}
use Rattle.std.specs.Fmt.{decimal}
use Rattle.std.specs.FinSet as set
use Rattle.hex.specs.Hex.{encode_lower}
use Rattle.span_core.specs.Names.{is_name_byte}
use Rattle.spanner_model.specs.Tree.{Tree, empty, one, cat_end, cat, alt_end, alt, rep, cap}
use Rattle.spanner_model.specs.Expression.{AtomTree}
use Rattle.formula_parser.specs.Sets.{Bytes}
use Rattle.formula_parser.specs.Escapes.{is_between}
use Rattle.formula_parser.specs.Names.{head_text}
use Rattle.formula_parser.specs.Spells.{given}

-- ---- bytes

-- a letter, a digit, `_` or a space
abbrev pub is_shown : ℕ → Bool
is_shown b = is_name_byte b || b == 32

-- `\x` and two digits in lower case
abbrev pub hex_text : ℕ → List ℕ
hex_text b = 92 ∷ 120 ∷ encode_lower (b ∷ [])

-- the printed form of a byte
abbrev pub byte_text : ℕ → List ℕ
byte_text b =
    if is_shown b then b ∷ []
    else if b == 10 then 92 ∷ 110 ∷ []
    else if b == 9 then 92 ∷ 116 ∷ []
    else if b == 13 then 92 ∷ 114 ∷ []
    else if is_between 33 126 b then 92 ∷ b ∷ []
    else hex_text b

-- ---- sets of bytes

-- how many bytes below n are in the set
unfoldable pub bytes_below : Bytes → ℕ → ℕ
bytes_below s zero = 0
bytes_below s (suc n) = bytes_below s n + (if set.contains s n then 1 else 0)

-- a maximal run begins at b: b is in the set, and the byte before it, where there is one, is not
abbrev pub begins_run : Bytes → ℕ → Bool
begins_run s b = set.contains s b && (b == 0 || not (set.contains s (b - 1)))

-- the last byte of the run that b is in, of k bytes at most after b
unfoldable pub run_end : Bytes → ℕ → ℕ → ℕ
run_end s zero b = b
run_end s (suc k) b = if set.contains s (b + 1) then run_end s k (b + 1) else b

-- a run of one byte is that byte, a longer one its first, a `-` and its last
abbrev pub run_text : ℕ → ℕ → List ℕ
run_text first last = if first == last then byte_text first else byte_text first ++ 45 ∷ byte_text last

-- the maximal runs that begin below n, ascending
unfoldable pub runs_text : Bytes → ℕ → List ℕ
runs_text s zero = []
runs_text s (suc n) = runs_text s n ++ (if begins_run s n then run_text n (run_end s (255 - n) n) else [])

-- one byte by itself, all bytes but 0A as `.`, any other set in brackets
unfoldable pub set_text : Bytes → List ℕ
set_text s =
    if bytes_below s 256 == 1 then runs_text s 256
    else if bytes_below s 256 == 255 && not (set.contains s 10) then 46 ∷ []
    else 91 ∷ (runs_text s 256 ++ 93 ∷ [])

-- ---- repeats

-- `{m}`, `{m,}`, `{m,k}`
abbrev pub exactly_text : ℕ → List ℕ
exactly_text m = 123 ∷ (decimal m ++ 125 ∷ [])

abbrev pub at_least_text : ℕ → List ℕ
at_least_text m = 123 ∷ (decimal m ++ 44 ∷ 125 ∷ [])

abbrev pub between_text : ℕ → ℕ → List ℕ
between_text m k = 123 ∷ (decimal m ++ 44 ∷ (decimal k ++ 125 ∷ []))

-- the sign of a repeat
abbrev pub sign : ℕ → Option ℕ → List ℕ
sign m None = if m == 0 then 42 ∷ [] else if m == 1 then 43 ∷ [] else at_least_text m
sign m (Some k) = if m == 0 && k == 1 then 63 ∷ [] else if m == k then exactly_text m else between_text m k

-- ---- formulas

-- what a formula is, as far as parentheses are concerned
pub data Shape : Type 0 where
  a_unit : Shape
  a_repeat : Shape
  a_cat : Shape
  an_alt : Shape

abbrev pub shape : Tree → Shape
shape empty = a_unit
shape (one s) = a_unit
shape cat_end = a_cat
shape (cat f rest) = a_cat
shape alt_end = an_alt
shape (alt f rest) = an_alt
shape (rep f least most) = a_repeat
shape (cap x f) = a_unit

-- in parentheses among the arms of an alternation, among the parts of a concatenation, under a repeat
abbrev pub wraps_arm : Shape → Bool
wraps_arm an_alt = true
wraps_arm _ = false

abbrev pub wraps_part : Shape → Bool
wraps_part an_alt = true
wraps_part a_cat = true
wraps_part _ = false

abbrev pub wraps_operand : Shape → Bool
wraps_operand a_unit = false
wraps_operand _ = true

abbrev pub wrapped : Bool → List ℕ → List ℕ
wrapped true t = 40 ∷ (t ++ 41 ∷ [])
wrapped false t = t

abbrev mutual
  pub printed : Tree → List ℕ
  printed empty = 40 ∷ 41 ∷ []
  printed (one s) = set_text s
  printed cat_end = []
  printed (cat f rest) = wrapped (wraps_part (shape f)) (printed f) ++ printed rest
  printed alt_end = []
  printed (alt f rest) = wrapped (wraps_arm (shape f)) (printed f) ++ more_arms rest
  printed (rep f least most) = wrapped (wraps_operand (shape f)) (printed f) ++ sign least most
  printed (cap x f) = head_text x ++ (printed f ++ 125 ∷ [])

  -- a bar before each further arm
  pub more_arms : Tree → List ℕ
  more_arms alt_end = []
  more_arms (alt f rest) = 124 ∷ (wrapped (wraps_arm (shape f)) (printed f) ++ more_arms rest)
  more_arms _ = []

-- how many parentheses and captures are open at once in the printed form, at most
abbrev pub wrapped_open : Bool → ℕ → ℕ
wrapped_open true n = suc n
wrapped_open false n = n

abbrev pub most_open : Tree → ℕ
most_open empty = 1
most_open (one s) = 0
most_open cat_end = 0
most_open (cat f rest) = max (wrapped_open (wraps_part (shape f)) (most_open f)) (most_open rest)
most_open alt_end = 0
most_open (alt f rest) = max (wrapped_open (wraps_arm (shape f)) (most_open f)) (most_open rest)
most_open (rep f least most) = wrapped_open (wraps_operand (shape f)) (most_open f)
most_open (cap x f) = suc (most_open f)

-- ---- atoms

-- what stands between the slashes: the ties around the formula
abbrev pub tied_text : AtomTree → List ℕ
tied_text a = given a.from_start 94 ++ (printed a.formula ++ given a.to_end 36)

abbrev pub atom_text : AtomTree → List ℕ
atom_text a = 47 ∷ (tied_text a ++ 47 ∷ [])
