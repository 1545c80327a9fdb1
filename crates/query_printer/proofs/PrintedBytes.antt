-- The printed form of a byte stands for it, as a unit and in a class.
use Rattle.std.proofs.Common.{◌≡◌, ◌≢◌, ℕ, ◌+◌, ◌*◌, ◌/◌, ◌%◌, ◌<◌, Bool, true, false, not, ◌==◌, List, [], ◌∷◌, ◌++◌, ap, refl, ◌∙◌, subst, arith, if◌then◌else◌}
use Rattle.std.specs.Prelude.{slice_index}
use Rattle.std.specs.List.{list_all}
use Rattle.std.proofs.lemmas.Bool.{and_parts, not-true}
use Rattle.std.proofs.lemmas.Bool.Decides.{nat_tests}
use Rattle.hex.specs.Hex.{hex_digit_value, encode_with, lower_digits}
use Rattle.hex.proofs.HexLemmas.{IsDigits-lower_digits}
use Rattle.spanner_model.specs.Tree.{one}
use Rattle.formula_parser.specs.Sets.{single}
use Rattle.formula_parser.specs.Runs.{begins_with}
use Rattle.formula_parser.specs.Escapes.{byte, is_between, is_punctuation, hex_value, IsEscape, newline, tab, carriage_return, hex, itself}
use Rattle.formula_parser.specs.Classes.{IsElem, plain, escaped}
use Rattle.formula_parser.specs.Spells.{IsNoneOf, specials, IsPlain, literal, escape, IsLiteral}
use Rattle.query_printer.specs.PrintedFormula.{is_shown, hex_text, byte_text}
use Rattle.formula_parser.specs.Alphabet.{of_bytes}
use Rattle.query_printer.proofs.PrintedSigns.{equal}

-- the byte itself, or a backslash and an escape
pub data IsByteText : ℕ → List ℕ → Type 0 where
  shown : {b : ℕ} → is_shown b ≡ true → IsByteText b (b ∷ [])
  hidden : {b : ℕ} {e : List ℕ} → IsEscape e (byte b) → IsByteText b (92 ∷ e)

same_value : (c : ℕ) → hex_value c ≡ hex_digit_value c
same_value c = grind (arith, nat_tests)

hex_is : (b : ℕ) → b < 256 → IsByteText b (hex_text b)
unfolding encode_with
hex_is b small =
    let high : b / 16 < 16 = omega arith in
    let low : b % 16 < 16 = omega arith in
    let whole : 16 * (b / 16) + b % 16 ≡ b = omega arith in
    subst (λ x. IsByteText x (hex_text b)) whole
    (hidden (hex (same_value (slice_index lower_digits (b / 16)) ∙ IsDigits-lower_digits (b / 16) high)
    (same_value (slice_index lower_digits (b % 16)) ∙ IsDigits-lower_digits (b % 16) low)))

if_is : (v : Bool) (x y : List ℕ) (b : ℕ) → (v ≡ true → IsByteText b x) → (v ≡ false → IsByteText b y) → IsByteText b (if v then x else y)
if_is true x y b first second = first refl
if_is false x y b first second = second refl

marked : (b : ℕ) → is_shown b ≡ false → is_between 33 126 b ≡ true → is_punctuation b ≡ true
marked b hides ascii = grind (arith, nat_tests)

pub byte_is : (b : ℕ) → b < 256 → IsByteText b (byte_text b)
byte_is b small =
    if_is (is_shown b) _ _ b (λ h. shown h)
    (λ hides. if_is (b == 10) _ _ b (λ e. rw (equal b 10 e) at (hidden newline))
    (λ n1. if_is (b == 9) _ _ b (λ e. rw (equal b 9 e) at (hidden tab))
    (λ n2. if_is (b == 13) _ _ b (λ e. rw (equal b 13 e) at (hidden carriage_return))
    (λ n3. if_is (is_between 33 126 b) _ _ b (λ ascii. hidden (itself (marked b hides ascii)))
    (λ n4. hex_is b small)))))

-- ---- a byte by itself

shown_small : (b : ℕ) → is_shown b ≡ true → b < 128
shown_small b h = grind (arith, nat_tests)

shown_not : (b c : ℕ) → is_shown b ≡ true → is_shown c ≡ false → b ≢ c
shown_not b c h hides e = let same = ap is_shown e in absurd (cc)

none_of : (b : ℕ) → is_shown b ≡ true → (cs : List ℕ) → list_all (λ c. not (is_shown c)) cs ≡ true → IsNoneOf b cs
none_of b h [] all = tt
none_of b h (c ∷ cs) all =
    let parts = and_parts (not (is_shown c)) (list_all (λ c. not (is_shown c)) cs) all in
    (shown_not b c h (not-true (is_shown c) parts.0), none_of b h cs parts.1)

shown_literal : (b : ℕ) → is_shown b ≡ true → IsLiteral b
shown_literal b h = (none_of b h specials refl, let small = shown_small b h in omega arith)

text_plain : {b : ℕ} {t : List ℕ} → IsByteText b t → (after : List ℕ) → IsPlain of_bytes t (one (single b)) after
text_plain (shown {b = b} h) after = literal (shown_literal b h)
text_plain {b = b} (hidden is) after = escape (byte b) is (λ h. h) refl

pub byte_plain : (b : ℕ) → b < 256 → (after : List ℕ) → IsPlain of_bytes (byte_text b) (one (single b)) after
byte_plain b small after = text_plain (byte_is b small) after

text_elem : {b : ℕ} {t : List ℕ} → IsByteText b t → IsElem of_bytes t (byte b)
text_elem (shown {b = b} h) = plain (shown_small b h) (shown_not b 93 h refl) (shown_not b 91 h refl) (shown_not b 92 h refl) (shown_not b 47 h refl)
text_elem (hidden is) = escaped is

pub byte_elem : (b : ℕ) → b < 256 → IsElem of_bytes (byte_text b) (byte b)
byte_elem b small = text_elem (byte_is b small)

-- it begins with no such byte, whatever follows
not_same : (b c : ℕ) → b ≢ c → (b == c) ≡ false
not_same b c n = grind (arith, nat_tests)

text_begins : {b : ℕ} {t : List ℕ} → IsByteText b t → (c : ℕ) → is_shown c ≡ false → 92 ≢ c → (after : List ℕ) → begins_with c (t ++ after) ≡ false
text_begins (shown {b = b} h) c hides other after = not_same b c (shown_not b c h hides)
text_begins (hidden is) c hides other after = not_same 92 c other

pub byte_begins : (b : ℕ) → b < 256 → (c : ℕ) → is_shown c ≡ false → 92 ≢ c → (after : List ℕ) → begins_with c (byte_text b ++ after) ≡ false
byte_begins b small c hides other after = text_begins (byte_is b small) c hides other after
