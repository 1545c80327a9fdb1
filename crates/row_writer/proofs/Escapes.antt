-- What a JSON string escapes of names and of text forms.
use Rattle.std.proofs.Common.{◌≡◌, ◌≢◌, ℕ, ◌/◌, ◌%◌, ◌<◌, ◌≤◌, Bool, ◌&&◌, ◌||◌, true, false, IsTrue, List, [], ◌∷◌, ◌++◌, length, get_or, refl, sym, ap, ap₂, ◌∙◌, subst, append_assoc, arith}
use Rattle.std.specs.Prelude.{nat_lt, nat_le, ◌==◌, if◌then◌else◌}
use Rattle.std.specs.List.{flat_map, list_all}
use Rattle.std.proofs.lemmas.Bool.Decides.{nat_tests}
use Rattle.std.proofs.lemmas.List.Folds.{list_all_at}
use Rattle.std.proofs.lemmas.Bool.{and_parts}
use Rattle.hex.specs.Hex.{encode_with, lower_digits}
use Rattle.json.specs.Print.{escape, escape_byte, quoted}
use Rattle.span_core.specs.Names.{is_name, is_name_start, is_name_byte}
use Rattle.row_writer.specs.Escapes.{escaped_form, form_twice}
use Rattle.row_writer.specs.Lines.{byte_form, hex_form, text_form}

-- ---- bytes that stand for themselves

bare_byte : (b : ℕ) → 32 ≤ b → b ≢ 34 → b ≢ 92 → escape_byte b ≡ b ∷ []
unfolding escape_byte
bare_byte b low quote backslash =
    let n34 : (b == 34) ≡ false = grind (arith, nat_tests) in
    let n92 : (b == 92) ≡ false = grind (arith, nat_tests) in
    let n8 : (b == 8) ≡ false = grind (arith, nat_tests) in
    let n12 : (b == 12) ≡ false = grind (arith, nat_tests) in
    let n10 : (b == 10) ≡ false = grind (arith, nat_tests) in
    let n13 : (b == 13) ≡ false = grind (arith, nat_tests) in
    let n9 : (b == 9) ≡ false = grind (arith, nat_tests) in
    let high : nat_lt b 32 ≡ false = grind (arith, nat_tests) in
    simp (n34, n92, n8, n12, n10, n13, n9, high) refl

-- ---- names

name_byte : (b : ℕ) → is_name_byte b ≡ true → escape_byte b ≡ b ∷ []
name_byte b e =
    bare_byte b (grind (arith, nat_tests))
    (λ is. let no : is_name_byte 34 ≡ true = subst (λ (x : ℕ). is_name_byte x ≡ true) is e in absurd (cc))
    (λ is. let no : is_name_byte 92 ≡ true = subst (λ (x : ℕ). is_name_byte x ≡ true) is e in absurd (cc))

name_start : (b : ℕ) → is_name_start b ≡ true → escape_byte b ≡ b ∷ []
name_start b e =
    bare_byte b (grind (arith, nat_tests))
    (λ is. let no : is_name_start 34 ≡ true = subst (λ (x : ℕ). is_name_start x ≡ true) is e in absurd (cc))
    (λ is. let no : is_name_start 92 ≡ true = subst (λ (x : ℕ). is_name_start x ≡ true) is e in absurd (cc))

name_rest : (bytes : List ℕ) → list_all is_name_byte bytes ≡ true → escape bytes ≡ bytes
name_rest [] h = refl
name_rest (b ∷ bytes) h =
    let parts = and_parts (is_name_byte b) (list_all is_name_byte bytes) h in
    ap₂ (λ (xs ys : List ℕ). xs ++ ys) (name_byte b parts.0) (name_rest bytes parts.1)

-- a name needs no escape
pub name_quoted : (name : List ℕ) → IsTrue (is_name name) → quoted name ≡ 34 ∷ (name ++ 34 ∷ [])
name_quoted [] h = absurd (cc)
name_quoted (b ∷ bytes) h =
    let parts = and_parts (is_name_start b) (list_all is_name_byte bytes) (and_parts (nat_lt (length bytes) 32) (is_name_start b && list_all is_name_byte bytes) h).1 in
    ap (λ (xs : List ℕ). 34 ∷ (xs ++ 34 ∷ [])) (ap₂ (λ (xs ys : List ℕ). xs ++ ys) (name_start b parts.0) (name_rest bytes parts.1))

-- ---- text forms

is_digit : ℕ → Bool
is_digit b = nat_le 48 b && (nat_le b 57 || nat_le 97 b)

digit_byte : (b : ℕ) → is_digit b ≡ true → escape_byte b ≡ b ∷ []
unfolding is_digit
digit_byte b e = bare_byte b (grind (arith, nat_tests)) (λ is. absurd (grind (arith, nat_tests))) (λ is. absurd (grind (arith, nat_tests)))

digit_passes : (d : ℕ) (t : Bool) → d < 16 → is_digit (get_or lower_digits d 0) ≡ t → t ≡ true
unfolding is_digit
digit_passes d true lt is = refl
digit_passes d false lt is = let no : list_all is_digit lower_digits ≡ false = list_all_at is_digit lower_digits d 0 lt is in absurd (cc)

digit : (d : ℕ) → d < 16 → escape_byte (get_or lower_digits d 0) ≡ get_or lower_digits d 0 ∷ []
digit d lt = let e = digit_passes d (is_digit (get_or lower_digits d 0)) lt refl in digit_byte (get_or lower_digits d 0) e

hex_twice : (b : ℕ) → b < 256 → escape (hex_form b) ≡ 92 ∷ hex_form b
unfolding escape_byte encode_with
hex_twice b lt =
    let high : b / 16 < 16 = omega arith in
    let low : b % 16 < 16 = omega arith in
    ap₂ (λ (xs ys : List ℕ). 92 ∷ 92 ∷ 120 ∷ (xs ++ (ys ++ []))) (digit (b / 16) high) (digit (b % 16) low)

escape_if : (t : Bool) (x y x' y' : List ℕ) → (t ≡ true → escape x ≡ x') → (t ≡ false → escape y ≡ y') → escape (if t then x else y) ≡ (if t then x' else y')
escape_if true x y x' y' f g = f refl
escape_if false x y x' y' f g = g refl

printable : (b : ℕ) → (b == 92) ≡ false → (b == 34) ≡ false → (nat_le 32 b && nat_le b 126) ≡ true → escape (b ∷ []) ≡ b ∷ []
printable b backslash quote e =
    ap (λ (xs : List ℕ). xs ++ []) (bare_byte b (grind (arith, nat_tests)) (grind (arith, nat_tests)) (grind (arith, nat_tests)))

pub form_escaped : (b : ℕ) → b < 256 → escaped_form b ≡ form_twice b
unfolding escape_byte
form_escaped b lt =
    escape_if (b == 92) _ _ _ _ (λ _. refl) (λ backslash.
    escape_if (b == 34) _ _ _ _ (λ _. refl) (λ quote.
    escape_if (b == 10) _ _ _ _ (λ _. refl) (λ _.
    escape_if (b == 9) _ _ _ _ (λ _. refl) (λ _.
    escape_if (b == 13) _ _ _ _ (λ _. refl) (λ _.
    escape_if (nat_le 32 b && nat_le b 126) _ _ _ _ (printable b backslash quote) (λ _. hex_twice b lt))))))

escape_append : (xs ys : List ℕ) → escape (xs ++ ys) ≡ escape xs ++ escape ys
escape_append [] ys = refl
escape_append (x ∷ xs) ys = ap (λ (zs : List ℕ). escape_byte x ++ zs) (escape_append xs ys) ∙ sym (append_assoc (escape_byte x) (escape xs) (escape ys))

-- byte by byte
pub text_escaped : (bytes : List ℕ) → flat_map escaped_form bytes ≡ escape (text_form bytes)
text_escaped [] = refl
text_escaped (b ∷ bytes) = ap (λ (xs : List ℕ). escape (byte_form b) ++ xs) (text_escaped bytes) ∙ sym (escape_append (byte_form b) (text_form bytes))

-- the text of a span, between the sign before it and the end of its array
pub item_text : (before form : List ℕ) → ((before ++ 44 ∷ 34 ∷ []) ++ form) ++ 34 ∷ 93 ∷ [] ≡ before ++ 44 ∷ 34 ∷ ((form ++ 34 ∷ []) ++ 93 ∷ [])
item_text before form =
    append_assoc (before ++ 44 ∷ 34 ∷ []) form (34 ∷ 93 ∷ []) ∙ append_assoc before (44 ∷ 34 ∷ []) (form ++ 34 ∷ 93 ∷ [])
    ∙ ap (λ (xs : List ℕ). before ++ 44 ∷ 34 ∷ xs) (sym (append_assoc form (34 ∷ []) (93 ∷ [])))

pub quoted_text : (before name : List ℕ) → ((before ++ 34 ∷ []) ++ name) ++ 34 ∷ [] ≡ before ++ 34 ∷ (name ++ 34 ∷ [])
quoted_text before name = append_assoc (before ++ 34 ∷ []) name (34 ∷ []) ∙ append_assoc before (34 ∷ []) (name ++ 34 ∷ [])
