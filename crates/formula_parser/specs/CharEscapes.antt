-- Escapes over bytes and over characters, and the faults of a backslash.
use Rattle.std.specs.Prelude.{◌≡◌, ◌≢◌, ℕ, ◌+◌, ◌*◌, ◌≤◌, ◌<◌, List, [], ◌∷◌, ◌++◌, length, Option, Some, None, IsTrue}
use Rattle.std.specs.Char.{IsScalar}
use Rattle.std.specs.List.{list_all}
use Rattle.std.specs.FinSet as set
use Rattle.span_core.specs.Names.{is_name_byte}
use Rattle.formula_parser.specs.declared.fault.FormulaFault.{FormulaFault}
use Rattle.formula_parser.specs.declared.fault.FormulaFault.TheVariants.{BadEscape, UnknownProperty}
use Rattle.formula_parser.specs.Sets.{Bytes}
use Rattle.formula_parser.specs.Runs.{StandsAt}
use Rattle.formula_parser.specs.Alphabet.{Alphabet, of_bytes, of_characters}
use Rattle.formula_parser.specs.CharSets.{property_set}
use Rattle.formula_parser.specs.Escapes.{Elem, byte, kind, elem_set, hex_value, IsEscape}

-- what hexadecimal digits write, after digits that write v; none where one of them is no such digit
abbrev pub hex_after : ℕ → List ℕ → Option ℕ
hex_after v [] = Some v
hex_after v (c ∷ t) = elim (hex_value c) [ None ↦ None | Some x ↦ hex_after (16 * v + x) t ]

-- one byte of 00 to 7F, or a kind
abbrev pub IsNarrow : Elem → Type 0
IsNarrow (byte b) = b < 128
IsNarrow (kind s) = Unit {0}

-- a letter and a text in braces
abbrev pub braced : ℕ → List ℕ → List ℕ
braced letter x = letter ∷ 123 ∷ (x ++ 125 ∷ [])

-- which text is an escape of a formula over characters, and of what
pub data IsCharEscape : List ℕ → Elem → Type 0 where
  -- an escape over bytes, but `\x` of 00 to 7F alone
  narrow : {e : List ℕ} {x : Elem} → IsEscape e x → IsNarrow x → IsCharEscape e x
  -- `\u{H}`: the character of a number of one to six hexadecimal digits
  number : (h : List ℕ) {c : ℕ} → 1 ≤ length h → length h ≤ 6 → hex_after 0 h ≡ Some c → IsScalar c → IsCharEscape (braced 117 h) (byte c)
  -- `\p{NAME}`
  property : (name : List ℕ) {s : Bytes} → IsTrue (list_all is_name_byte name) → name ≢ [] → property_set name ≡ Some s → IsCharEscape (braced 112 name) (kind s)

abbrev pub IsEscapeOf : Alphabet → List ℕ → Elem → Type 0
IsEscapeOf of_bytes e x = IsEscape e x
IsEscapeOf of_characters e x = IsCharEscape e x

-- a run of letters, digits and `_` that is the name of no property
pub record NamesNoProperty (name : List ℕ) : Type 0 where
  pub run : IsTrue (list_all is_name_byte name)
  pub some : name ≢ []
  pub unknown : property_set name ≡ None

-- a run in the braces of a `\p`, over characters
abbrev pub IsUnknown : Alphabet → List ℕ → Type 0
IsUnknown of_bytes name = ⊥
IsUnknown of_characters name = NamesNoProperty name

-- the fault of the backslash at p
pub data HasEscapeFault (alphabet : Alphabet) (text : List ℕ) (p : ℕ) : FormulaFault → Type 0 where
  no_escape : StandsAt text p (92 ∷ []) → ((e : List ℕ) (x : Elem) → IsEscapeOf alphabet e x → StandsAt text p (92 ∷ e) → ⊥) →
      ((name : List ℕ) → IsUnknown alphabet name → StandsAt text p (92 ∷ braced 112 name) → ⊥) → HasEscapeFault alphabet text p (BadEscape p)
  no_property : (name : List ℕ) → IsUnknown alphabet name → StandsAt text p (92 ∷ braced 112 name) → HasEscapeFault alphabet text p (UnknownProperty p)

-- a kind that no character is of; over bytes there is none
abbrev pub IsEmptyKind : Alphabet → Elem → Type 0
IsEmptyKind of_bytes x = ⊥
IsEmptyKind of_characters x = elem_set x ≡ set.empty
