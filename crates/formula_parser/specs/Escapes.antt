-- Escapes, after the backslash.
use Rattle.std.specs.Prelude.{◌≡◌, ℕ, ◌+◌, ◌*◌, ◌-◌, Bool, ◌&&◌, ◌||◌, nat_le, List, [], ◌∷◌, Option, Some, None, IsTrue, if◌then◌else◌}
use Rattle.formula_parser.specs.Sets.{Bytes, single, digits, word_bytes, spaces}

-- what an escape, or an element of a class, stands for: one byte, or a kind of bytes
pub data Elem : Type 0 where
  byte : ℕ → Elem
  kind : Bytes → Elem

abbrev pub elem_set : Elem → Bytes
elem_set (byte b) = single b
elem_set (kind s) = s

abbrev pub is_between : ℕ → ℕ → ℕ → Bool
is_between low high c = nat_le low c && nat_le c high

-- the value of a hexadecimal digit of either case
abbrev pub hex_value : ℕ → Option ℕ
hex_value c =
    if is_between 48 57 c then Some (c - 48)
    else if is_between 97 102 c then Some (c - 87)
    else if is_between 65 70 c then Some (c - 55)
    else None

-- 21 to 2F, 3A to 40, 5B to 60, 7B to 7E
abbrev pub is_punctuation : ℕ → Bool
is_punctuation c = is_between 33 47 c || is_between 58 64 c || is_between 91 96 c || is_between 123 126 c

-- which text is an escape, and of what
pub data IsEscape : List ℕ → Elem → Type 0 where
  -- `\d`, `\w`, `\s`
  a_digit : IsEscape (100 ∷ []) (kind digits)
  a_word_byte : IsEscape (119 ∷ []) (kind word_bytes)
  a_space : IsEscape (115 ∷ []) (kind spaces)
  -- `\n`, `\t`, `\r`
  newline : IsEscape (110 ∷ []) (byte 10)
  tab : IsEscape (116 ∷ []) (byte 9)
  carriage_return : IsEscape (114 ∷ []) (byte 13)
  -- `\x` and two hexadecimal digits
  hex : {h l x y : ℕ} → hex_value h ≡ Some x → hex_value l ≡ Some y → IsEscape (120 ∷ h ∷ l ∷ []) (byte (16 * x + y))
  -- a byte of punctuation
  itself : {c : ℕ} → IsTrue (is_punctuation c) → IsEscape (c ∷ []) (byte c)
