-- Hexadecimal digits, as the libraries read them.
use Rattle.std.proofs.Common.{◌≡◌, ℕ, ◌+◌, ◌*◌, ◌<◌, ◌≤◌, List, [], ◌∷◌, Option, Some, None, Result, Ok, Err, inl, inr, refl, arith}
use Rattle.std.proofs.lemmas.Bool.{cases_lt}
use Rattle.std.specs.Prelude.{MatchResult, SomeIff, slice_index_or}
use Rattle.std.specs.Char.{digit_value}
use Rattle.hex.specs.declared.error.FromHexError.{FromHexError}
use Rattle.hex.specs.Hex.{hex_digit_value, digit_or_error, decode_sized, decode_pairs, ◌>>=◌}
use Rattle.formula_parser.specs.Escapes.{byte, hex_value}
use Rattle.formula_parser.specs.Tokens.{hex_byte}

digit_some : (c : ℕ) → digit_value c < 16 → Some (digit_value c) ≡ hex_value c
digit_some c less = grind (arith, less)

digit_none : (c : ℕ) → ¬ (digit_value c < 16) → None ≡ hex_value c
digit_none c h =
    elim (cases_lt c 65) [
      | inl low ↦ grind (arith, h, low)
      | inr high ↦ elim (cases_lt c 97) [ inl low ↦ grind (arith, h, high, low) | inr top ↦ small c h top ]
    ]
  where
    small : (c : ℕ) → ¬ (digit_value c < 16) → 97 ≤ c → None ≡ hex_value c
    small c h top =
        elim (cases_lt c 103) [
          | inl low ↦ let less : digit_value c < 16 = grind (arith, top, low) in absurd (h less)
          | inr high ↦ grind (arith, high)
        ]

-- the value of a digit to the base 16
pub digit_is : (c : ℕ) (r : Option ℕ) → SomeIff r (digit_value c < 16) (digit_value c) → r ≡ hex_value c
digit_is c (Some v) h = rw h.1 (digit_some c h.0)
digit_is c None h = digit_none c h

same_digit : (c : ℕ) → hex_value c ≡ hex_digit_value c
same_digit c = grind (arith)

-- what two digits decode to
abbrev decoded : ℕ → ℕ → Option ℕ → Option ℕ → Result (List ℕ) FromHexError
decoded h l x y = (digit_or_error h 0 x >>= λ a. digit_or_error l 1 y >>= λ b. Ok (a * 16 + b)) >>= λ v. Ok (v ∷ [])

-- the byte that was decoded is that of the two digits; where none was, they are no two digits
pub hex_read : (h l : ℕ) (r : Result (Unit {0}) FromHexError) (new : List ℕ)
    → MatchResult (decode_sized (h ∷ l ∷ []) 1) (λ bytes. (r ≡ Ok tt) × (new ≡ bytes)) (λ e. r ≡ Err e)
    → MatchResult r (λ _. Some (byte (slice_index_or new 0 0), 4) ≡ hex_byte (hex_value h) (hex_value l)) (λ _. None ≡ hex_byte (hex_value h) (hex_value l))
unfolding decode_pairs
hex_read h l r new said = rw (same_digit h, same_digit l) (by (hex_digit_value h) (hex_digit_value l) r new said)
  where
    by : (x y : Option ℕ) (r : Result (Unit {0}) FromHexError) (new : List ℕ)
        → MatchResult (decoded h l x y) (λ bytes. (r ≡ Ok tt) × (new ≡ bytes)) (λ e. r ≡ Err e)
        → MatchResult r (λ _. Some (byte (slice_index_or new 0 0), 4) ≡ hex_byte x y) (λ _. None ≡ hex_byte x y)
    by (Some a) (Some b) r new (ok, is) = let same : a * 16 + b ≡ 16 * a + b = omega arith in rw (ok, is, same) refl
    by (Some a) None r new e = rw e refl
    by None y r new e = rw e refl
