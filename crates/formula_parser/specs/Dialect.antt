-- What a reader knows of its alphabet, and the tokens that depend on it.
use Rattle.std.specs.Prelude.{◌≡◌, ◌≢◌, ℕ, suc, ◌+◌, Bool, true, false, ◌==◌, ◌&&◌, ◌||◌, nat_le, nat_lt, List, [], ◌∷◌, length, drop, Option, Some, None, Result, Ok, Err, if◌then◌else◌}
use Rattle.std.specs.List.{take_while}
use Rattle.std.specs.FinSet as set
use Rattle.bstr.specs.Utf8.{Decoded, decoded}
use Rattle.span_core.specs.Names.{is_name_byte}
use Rattle.spanner_model.specs.Tree.{Tree, one}
use Rattle.formula_parser.specs.declared.fault.FormulaFault.{FormulaFault}
use Rattle.formula_parser.specs.declared.fault.FormulaFault.TheVariants.{Unexpected, BadEscape, UnknownProperty}
use Rattle.formula_parser.specs.Sets.{Bytes}
use Rattle.formula_parser.specs.Runs.{begins_with}
use Rattle.formula_parser.specs.Escapes.{Elem, byte, kind, elem_set}
use Rattle.formula_parser.specs.Alphabet.{Alphabet, of_bytes, of_characters}
use Rattle.formula_parser.specs.CharSets.{IsTreeOf, AreAllCharacters, property_set}
use Rattle.formula_parser.specs.CharEscapes.{hex_after}
use Rattle.formula_parser.specs.Tokens.{escape_at}

-- bytes; or characters, with the tree of each set
pub data Dialect : Type 0 where
  plain_bytes : Dialect
  with_characters : (Bytes → Tree) → Dialect

abbrev pub alphabet_of : Dialect → Alphabet
alphabet_of plain_bytes = of_bytes
alphabet_of (with_characters trees) = of_characters

abbrev pub tree_in : Dialect → Bytes → Tree
tree_in plain_bytes s = one s
tree_in (with_characters trees) s = trees s

-- the trees are those that they should be
pub record AreTrees (trees : Bytes → Tree) : Type 0 where
  pub built : (s : Bytes) → s ≢ set.empty → AreAllCharacters s → IsTreeOf s (trees s)
  pub only : (s : Bytes) (f : Tree) → s ≢ set.empty → AreAllCharacters s → IsTreeOf s f → f ≡ trees s

abbrev pub Speaks : Dialect → Type 0
Speaks plain_bytes = Unit {0}
Speaks (with_characters trees) = AreTrees trees

-- an element, and how many bytes it takes; or the fault of it
abbrev pub ElemToken : Type 0
ElemToken = Result (Elem × ℕ) FormulaFault

abbrev pub found_or : FormulaFault → Option (Elem × ℕ) → ElemToken
found_or e None = Err e
found_or e (Some x) = Ok x

-- a run of letters, digits and `_` in braces
unfoldable pub braced_at : List ℕ → Option (List ℕ)
braced_at [] = None
braced_at (c ∷ t) =
    let x = take_while is_name_byte t in
    if c == 123 && begins_with 125 (drop (length x) t) then Some x else None

abbrev pub is_scalar : ℕ → Bool
is_scalar c = nat_lt c 0xD800 || (nat_le 0xE000 c && nat_lt c 0x11_0000)

-- the character that so many digits write
abbrev pub number_elem : ℕ → ℕ → Option ℕ → ElemToken
number_elem p len None = Err (BadEscape p)
number_elem p len (Some c) = if is_scalar c && (nat_le 1 len && nat_le len 6) then Ok (byte c, len + 4) else Err (BadEscape p)

-- after `\u`
abbrev pub number_in : ℕ → Option (List ℕ) → ElemToken
number_in p None = Err (BadEscape p)
number_in p (Some h) = number_elem p (length h) (hex_after 0 h)

abbrev pub property_elem : ℕ → ℕ → Option Bytes → ElemToken
property_elem p len None = Err (UnknownProperty p)
property_elem p len (Some s) = Ok (kind s, len + 4)

-- after `\p`
abbrev pub property_in : ℕ → Option (List ℕ) → ElemToken
property_in p None = Err (BadEscape p)
property_in p (Some []) = Err (BadEscape p)
property_in p (Some (c ∷ name)) = property_elem p (suc (length name)) (property_set (c ∷ name))

abbrev pub is_narrow : Elem → Bool
is_narrow (byte b) = nat_lt b 128
is_narrow (kind s) = true

-- an escape over bytes, but no byte past 7F
abbrev pub narrow_at : ℕ → Option (Elem × ℕ) → ElemToken
narrow_at p None = Err (BadEscape p)
narrow_at p (Some x) = if is_narrow x.0 then Ok x else Err (BadEscape p)

abbrev pub char_escape_at : ℕ → List ℕ → ElemToken
char_escape_at p [] = Err (BadEscape p)
char_escape_at p (c ∷ t) =
    if c == 117 then number_in p (braced_at t)
    else if c == 112 then property_in p (braced_at t)
    else narrow_at p (escape_at (c ∷ t))

-- after the backslash at p
abbrev pub escape_in : Dialect → ℕ → List ℕ → ElemToken
escape_in plain_bytes p t = found_or (BadEscape p) (escape_at t)
escape_in (with_characters trees) p t = char_escape_at p t

-- the character at the front of a text
abbrev pub char_elem : ℕ → Decoded → ElemToken
char_elem p d = elim d.char [ None ↦ Err (Unexpected p) | Some c ↦ Ok (byte c, d.size) ]

-- a byte of 80 or more at p begins the text t
abbrev pub wide_in : Dialect → ℕ → List ℕ → ElemToken
wide_in plain_bytes p t = Err (Unexpected p)
wide_in (with_characters trees) p t = char_elem p (decoded t)

-- no character is of the kind
abbrev pub is_empty_kind : Dialect → Elem → Bool
is_empty_kind plain_bytes x = false
is_empty_kind (with_characters trees) x = set.len (elem_set x) == 0
