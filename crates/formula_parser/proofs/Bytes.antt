-- The kinds of bytes that begin a token.
use Rattle.std.proofs.Common.{◌≡◌, ◌≢◌, ℕ, ◌≤◌, Bool, true, false, nat_lt, refl, sym, subst, arith, ◌⊎◌, inl, inr}
use Rattle.std.proofs.lemmas.Bool.Decides.{nat_tests}
use Rattle.formula_parser.specs.Spells.{IsNoneOf, specials, IsLiteral}
use Rattle.formula_parser.proofs.ClassBytes.{same_or_not}

-- a byte of C0 or more
abbrev pub IsWide : ℕ → Type 0
IsWide b = IsNoneOf b specials × (192 ≤ b)

pub data Byte : ℕ → Type 0 where
  is_slash : Byte 47
  is_open : Byte 40
  is_close : Byte 41
  is_bracket : Byte 91
  is_bracket_close : Byte 93
  is_brace : Byte 123
  is_brace_close : Byte 125
  is_bar : Byte 124
  is_star : Byte 42
  is_plus : Byte 43
  is_maybe : Byte 63
  is_dot : Byte 46
  is_caret : Byte 94
  is_dollar : Byte 36
  is_bang : Byte 33
  is_backslash : Byte 92
  is_literal : {b : ℕ} → IsLiteral b → Byte b
  is_wide : {b : ℕ} → IsWide b → Byte b

is_byte : (b c : ℕ) → Byte c → (b ≢ c → Byte b) → Byte b
is_byte b c here other = by (same_or_not b c)
  where
    by : (b ≡ c) ⊎ (b ≢ c) → Byte b
    by (inl e) = subst Byte (sym e) here
    by (inr ne) = other ne

ordinary : (b : ℕ) → IsNoneOf b specials → Byte b
ordinary b none = by (nat_lt b 192) refl
  where
    by : (v : Bool) → nat_lt b 192 ≡ v → Byte b
    by true e = is_literal (none, grind (arith, nat_tests))
    by false e = is_wide (none, grind (arith, nat_tests))

pub byte_of : (b : ℕ) → Byte b
byte_of b =
    is_byte b 47 is_slash (λ n1. is_byte b 40 is_open (λ n2. is_byte b 41 is_close (λ n3. is_byte b 91 is_bracket (λ n4.
    is_byte b 93 is_bracket_close (λ n5. is_byte b 123 is_brace (λ n6. is_byte b 125 is_brace_close (λ n7. is_byte b 124 is_bar (λ n8.
    is_byte b 42 is_star (λ n9. is_byte b 43 is_plus (λ n10. is_byte b 63 is_maybe (λ n11. is_byte b 46 is_dot (λ n12.
    is_byte b 94 is_caret (λ n13. is_byte b 36 is_dollar (λ n14. is_byte b 33 is_bang (λ n15. is_byte b 92 is_backslash (λ n16.
    ordinary b (n1, (n2, (n3, (n4, (n5, (n6, (n7, (n8, (n9, (n10, (n11, (n12, (n13, (n14, (n15, (n16, tt)))))))))))))))))
    )))))))))))))))
