-- UTF-8 (RFC 3629) as digits to the base 64.
use Rattle.std.specs.Prelude.{◌≡◌, ℕ, ◌<◌, ◌≤◌}
use Rattle.std.specs.Char.{encode_utf8}
use Rattle.unicode_classes.specs.Joined.{digits}

-- by its number of bytes, the text of a character is its number's digits after the first byte's base
pub record HasDigits (c : ℕ) : Type 0 where
  pub one : c < 128 → encode_utf8 c ≡ digits 0 0 c
  pub two : 128 ≤ c → c < 2048 → encode_utf8 c ≡ digits 192 1 c
  pub three : 2048 ≤ c → c < 65536 → encode_utf8 c ≡ digits 224 2 c
  pub four : 65536 ≤ c → encode_utf8 c ≡ digits 240 3 c
