-- The kinds of bytes in a class.
use Rattle.std.proofs.Common.{◌≡◌, ◌≢◌, ℕ, ◌≤◌, ◌<◌, Bool, true, false, nat_eq, nat_le, refl, sym, subst, arith, ◌⊎◌, inl, inr}
use Rattle.std.proofs.lemmas.Bool.Decides.{nat_tests}

-- ] [ / and the backslash, the dash, a byte of 80 or more, and any other
pub data ClassByte : ℕ → Type 0 where
  is_end : ClassByte 93
  is_bracket : ClassByte 91
  is_slash : ClassByte 47
  is_backslash : ClassByte 92
  is_dash : ClassByte 45
  is_wide : {b : ℕ} → b ≢ 93 → b ≢ 91 → b ≢ 47 → 128 ≤ b → ClassByte b
  is_plain : {b : ℕ} → b < 128 → b ≢ 93 → b ≢ 91 → b ≢ 92 → b ≢ 47 → b ≢ 45 → ClassByte b

-- equal or not
pub same_or_not : (b c : ℕ) → (b ≡ c) ⊎ (b ≢ c)
same_or_not b c = by (nat_eq b c) refl
  where
    by : (v : Bool) → nat_eq b c ≡ v → (b ≡ c) ⊎ (b ≢ c)
    by true e = inl (grind (arith, nat_tests))
    by false e = inr (grind (arith, nat_tests))

is_byte : (b c : ℕ) → ClassByte c → (b ≢ c → ClassByte b) → ClassByte b
is_byte b c here other = by (same_or_not b c)
  where
    by : (b ≡ c) ⊎ (b ≢ c) → ClassByte b
    by (inl e) = subst ClassByte (sym e) here
    by (inr ne) = other ne

pub class_byte : (b : ℕ) → ClassByte b
class_byte b =
    is_byte b 93 is_end (λ n1. is_byte b 91 is_bracket (λ n2. is_byte b 47 is_slash (λ n3. is_byte b 92 is_backslash (λ n4. is_byte b 45 is_dash
    (λ n5. ordinary n1 n2 n3 n4 n5 (nat_le 128 b) refl)))))
  where
    ordinary : b ≢ 93 → b ≢ 91 → b ≢ 47 → b ≢ 92 → b ≢ 45 → (v : Bool) → nat_le 128 b ≡ v → ClassByte b
    ordinary n1 n2 n3 n4 n5 true e = is_wide n1 n2 n3 (grind (arith, nat_tests))
    ordinary n1 n2 n3 n4 n5 false e = is_plain (grind (arith, nat_tests)) n1 n2 n4 n3 n5
