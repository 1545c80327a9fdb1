-- The token at the front of a text, as a function of the text: what the code's small readers give.
use Rattle.std.specs.Prelude.{ℕ, ◌+◌, ◌*◌, ◌&&◌, ◌==◌, nat_le, List, [], ◌∷◌, length, drop, Option, Some, None, if◌then◌else◌}
use Rattle.std.specs.List.{take_while}
use Rattle.span_core.specs.Names.{is_name_byte}
use Rattle.formula_parser.specs.Sets.{digits, word_bytes, spaces}
use Rattle.formula_parser.specs.Runs.{begins_with}
use Rattle.formula_parser.specs.Escapes.{Elem, byte, kind, hex_value, is_punctuation}
use Rattle.formula_parser.specs.Names.{is_word}
use Rattle.formula_parser.specs.Repeats.{is_digit, value_after}
use Rattle.formula_parser.specs.Spells.{is_tail}

abbrev pub hex_byte : Option ℕ → Option ℕ → Option (Elem × ℕ)
hex_byte (Some x) (Some y) = Some (byte (16 * x + y), 4)
hex_byte (Some x) None = None
hex_byte None _ = None

abbrev pub hex_at : List ℕ → Option (Elem × ℕ)
hex_at [] = None
hex_at (h ∷ []) = None
hex_at (h ∷ l ∷ t) = hex_byte (hex_value h) (hex_value l)

-- the escape after a backslash: what it stands for, and how many bytes it takes with its backslash
abbrev pub escape_at : List ℕ → Option (Elem × ℕ)
escape_at [] = None
escape_at (c ∷ t) =
    if c == 100 then Some (kind digits, 2)
    else if c == 119 then Some (kind word_bytes, 2)
    else if c == 115 then Some (kind spaces, 2)
    else if c == 110 then Some (byte 10, 2)
    else if c == 116 then Some (byte 9, 2)
    else if c == 114 then Some (byte 13, 2)
    else if c == 120 then hex_at t
    else if is_punctuation c then Some (byte c, 2)
    else None

-- the word after a `!` that begins a capture
unfoldable pub head_at : List ℕ → Option (List ℕ)
head_at t =
    let x = take_while is_name_byte t in
    if is_word x && begins_with 123 (drop (length x) t) then Some x else None

-- a number of a repeat, and how many bytes it takes
unfoldable pub number_at : List ℕ → Option (ℕ × ℕ)
number_at t =
    let d = take_while is_digit t in
    if nat_le 1 (length d) && nat_le (length d) 4 && nat_le (value_after 0 d) 1000 then Some (value_after 0 d, length d) else None

-- the numbers of a repeat in braces, and how many bytes it takes with both braces
pub record Bounds : Type 0 where
  pub least : ℕ
  pub most : Option ℕ
  pub len : ℕ

abbrev pub between_at : ℕ → ℕ → Option (ℕ × ℕ) → List ℕ → Option Bounds
between_at m len None t = None
between_at m len (Some k) t =
    if nat_le m k.0 && begins_with 125 (drop k.1 t) then Some (record { least = m; most = Some k.0; len = len + k.1 + 3 }) else None

-- after `{m,`
abbrev pub most_at : ℕ → ℕ → List ℕ → Option Bounds
most_at m len [] = None
most_at m len (c ∷ t) = if c == 125 then Some (record { least = m; most = None; len = len + 3 }) else between_at m len (number_at (c ∷ t)) (c ∷ t)

-- after `{m`
abbrev pub rest_at : ℕ → ℕ → List ℕ → Option Bounds
rest_at m len [] = None
rest_at m len (c ∷ t) =
    if c == 125 then Some (record { least = m; most = Some m; len = len + 2 })
    else if c == 44 then most_at m len t
    else None

abbrev pub bounds_after : Option (ℕ × ℕ) → List ℕ → Option Bounds
bounds_after None t = None
bounds_after (Some m) t = rest_at m.0 m.1 (drop m.1 t)

-- after a `{`
abbrev pub bounds_at : List ℕ → Option Bounds
bounds_at t = bounds_after (number_at t) t

-- the bytes of 80 to BF at the front
abbrev pub tails : List ℕ → List ℕ
tails t = take_while is_tail t
