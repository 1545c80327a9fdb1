-- A name is ASCII, and so UTF-8.
use Rattle.std.proofs.Common.{◌≡◌, ℕ, ◌<◌, ◌&&◌, true, IsTrue, List, [], ◌∷◌, length, arith}
use Rattle.std.specs.Prelude.{nat_lt}
use Rattle.std.specs.List.{list_all}
use Rattle.std.specs.Str.{IsAscii, IsUtf8}
use Rattle.std.proofs.lemmas.Str.{IsUtf8-from_ascii}
use Rattle.std.proofs.lemmas.Bool.Decides.{nat_tests}
use Rattle.std.proofs.lemmas.Bool.{and_parts}
use Rattle.std.proofs.lemmas.Str.Ascii.{IsAscii-nil, IsAscii-cons}
use Rattle.span_core.specs.Names.{is_name, is_name_start, is_name_byte}

name_byte_low : (b : ℕ) → is_name_byte b ≡ true → b < 128
name_byte_low b e = grind (arith, nat_tests)

name_start_low : (b : ℕ) → is_name_start b ≡ true → b < 128
name_start_low b e = grind (arith, nat_tests)

rest_ascii : (bytes : List ℕ) → list_all is_name_byte bytes ≡ true → IsAscii bytes
rest_ascii [] h = IsAscii-nil
rest_ascii (b ∷ bytes) h =
    let parts = and_parts (is_name_byte b) (list_all is_name_byte bytes) h in
    IsAscii-cons b bytes (name_byte_low b parts.0) (rest_ascii bytes parts.1)

pub name_utf8 : (name : List ℕ) → IsTrue (is_name name) → IsUtf8 name
name_utf8 [] h = IsUtf8-from_ascii [] IsAscii-nil
name_utf8 (b ∷ bytes) h =
    let tail = and_parts (is_name_start b) (list_all is_name_byte bytes) ((and_parts (nat_lt (length bytes) 32) (is_name_start b && list_all is_name_byte bytes) h).1) in
    IsUtf8-from_ascii (b ∷ bytes) (IsAscii-cons b bytes (name_start_low b tail.0) (rest_ascii bytes tail.1))
