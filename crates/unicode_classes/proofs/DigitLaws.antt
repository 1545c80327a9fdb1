-- The text of a character by its digits.
use Rattle.std.proofs.Common.{◌≡◌, ℕ, ◌+◌, ◌/◌, ◌%◌, ◌<◌, ◌≤◌, [], ◌∷◌, refl, ap, ◌∙◌, arith}
use Rattle.std.specs.Char.{encode_utf8}
use Rattle.std.proofs.lemmas.Bool.{lt-ltb, le-ltb}
use Rattle.unicode_classes.specs.Joined.{digits}
use Rattle.unicode_classes.specs.Digits.{HasDigits}

one_byte : (c : ℕ) → c < 128 → encode_utf8 c ≡ digits 0 0 c
unfolding encode_utf8
one_byte c a = (let e : c ≡ 0 + c = omega arith in rw (lt-ltb c 128 a) (λ t. e t ∷ []))

two_bytes : (c : ℕ) → 128 ≤ c → c < 2048 → encode_utf8 c ≡ digits 192 1 c
unfolding encode_utf8
two_bytes c a b = rw (le-ltb c 128 a, lt-ltb c 2048 b) refl

middle : (c : ℕ) → c / 64 % 64 ≡ c % 4096 / 64
middle c = omega arith

last : (c : ℕ) → c % 64 ≡ c % 4096 % 64
last c = omega arith

low : (c : ℕ) → c % 4096 ≡ c % 262144 % 4096
low c = omega arith

high : (c : ℕ) → c / 4096 % 64 ≡ c % 262144 / 4096
high c = omega arith

three_bytes : (c : ℕ) → 2048 ≤ c → c < 65536 → encode_utf8 c ≡ digits 224 2 c
unfolding encode_utf8
three_bytes c a b =
    rw (le-ltb c 128 (omega arith), le-ltb c 2048 a, lt-ltb c 65536 b)
    (λ t. (224 + c / 4096) ∷ ((128 + middle c t) ∷ ((128 + last c t) ∷ [])))

four_bytes : (c : ℕ) → 65536 ≤ c → encode_utf8 c ≡ digits 240 3 c
unfolding encode_utf8
four_bytes c a =
    rw (le-ltb c 128 (omega arith), le-ltb c 2048 (omega arith), le-ltb c 65536 a)
    (λ t. (240 + c / 262144) ∷ ((128 + high c t) ∷ ((128 + (middle c ∙ ap (λ (x : ℕ). x / 64) (low c)) t) ∷ ((128 + (last c ∙ ap (λ (x : ℕ). x % 64) (low c)) t) ∷ []))))

pub has_digits : (c : ℕ) → HasDigits c
has_digits c = record { one = one_byte c; two = two_bytes c; three = three_bytes c; four = four_bytes c }
