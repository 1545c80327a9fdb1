-- Escapes and characters past 7F are read as they are spelled, and the other way round.
use Rattle.std.proofs.Common.{◌≡◌, ◌≢◌, ℕ, suc, ◌+◌, ◌-◌, ◌*◌, ◌<◌, ◌≤◌, Bool, true, false, ◌&&◌, ◌==◌, nat_le, nat_lt, List, [], ◌∷◌, ◌++◌, length, drop, Option, Some, None, Ok, Err, ap, sym, refl, ◌∙◌, subst, arith, if◌then◌else◌, append_assoc, length-append, ◌⊎◌, inl, inr}
use Rattle.std.specs.List.{take_while, list_all}
use Rattle.std.specs.Char.{IsScalar, encode_utf8}
use Rattle.std.proofs.lemmas.Bool.{and_parts, cases_lt}
use Rattle.std.proofs.lemmas.Bool.Decides.{nat_tests}
use Rattle.bstr.specs.Utf8.{Decoded, decoded}
use Rattle.bstr.proofs.lemmas.EncodeLemmas.{decoded-encode}
use Rattle.bstr.proofs.lemmas.SoundLemmas.{SpellsChar-decoded}
use Rattle.span_core.specs.Names.{is_name_byte}
use Rattle.formula_parser.specs.declared.fault.FormulaFault.{FormulaFault}
use Rattle.formula_parser.specs.declared.fault.FormulaFault.TheVariants.{Unexpected, BadEscape, UnknownProperty}
use Rattle.formula_parser.specs.Sets.{Bytes}
use Rattle.unicode_classes.proofs.DigitLaws.{has_digits}
use Rattle.formula_parser.specs.Runs.{begins, begins_with}
use Rattle.formula_parser.specs.Alphabet.{Alphabet, of_bytes, of_characters, IsWide}
use Rattle.formula_parser.specs.CharSets.{property_set}
use Rattle.formula_parser.specs.Escapes.{Elem, byte, kind, hex_value, is_between, IsEscape, a_digit, a_word_byte, a_space, newline, tab, carriage_return, hex, itself}
use Rattle.formula_parser.specs.CharEscapes.{hex_after, IsNarrow, braced, IsCharEscape, narrow, number, property, IsEscapeOf, NamesNoProperty, IsUnknown, HasEscapeFault, no_escape, no_property}
use Rattle.formula_parser.specs.Classes.{BeginsNoElem}
use Rattle.formula_parser.specs.Tokens.{escape_at}
use Rattle.formula_parser.specs.Dialect.{Dialect, plain_bytes, with_characters, alphabet_of, ElemToken, found_or, braced_at, is_scalar, number_elem, number_in, property_elem, property_in, narrow_at, char_escape_at, escape_in, char_elem, wide_in}
use Rattle.formula_parser.proofs.EscapeLaws.{escape_read, escape_is}
use Rattle.formula_parser.proofs.HeadLaws.{byte_front}
use Rattle.formula_parser.proofs.RunLaws.{run_of, run_is, run_rest, after_token}

-- what stands at the front is an escape over the alphabet
pub record EscapedOver (alphabet : Alphabet) (t : List ℕ) (x : Elem) (len : ℕ) : Type 0 where
  pub text : List ℕ
  pub rest : List ℕ
  pub splits : t ≡ text ++ rest
  pub is : IsEscapeOf alphabet text x
  pub takes : len ≡ suc (length text)

-- the choice of `braced_at`
abbrev braced_if : ℕ → List ℕ → List ℕ → Option (List ℕ)
braced_if c t x = if c == 123 && begins_with 125 (drop (length x) t) then Some x else None

braced_read : (x rest : List ℕ) → list_all is_name_byte x ≡ true → braced_at (123 ∷ ((x ++ 125 ∷ []) ++ rest)) ≡ Some x
unfolding braced_at
braced_read x rest all =
    let t = (x ++ 125 ∷ []) ++ rest in
    let split : t ≡ x ++ 125 ∷ rest = append_assoc x (125 ∷ []) rest in
    let run : take_while is_name_byte t ≡ x = ap (take_while is_name_byte) split ∙ run_is is_name_byte x (125 ∷ rest) all refl in
    let brace : begins_with 125 (drop (length x) t) ≡ true = ap (λ y. begins_with 125 (drop (length x) y)) split ∙ ap (begins_with 125) (after_token x (125 ∷ rest)) in
    ap (braced_if 123 t) run ∙ ap (λ b. if b then Some x else None) brace

-- a run in braces stands at the front
record IsBraced (t x : List ℕ) : Type 0 where
  rest : List ℕ
  splits : t ≡ 123 ∷ ((x ++ 125 ∷ []) ++ rest)
  all : list_all is_name_byte x ≡ true

braced_is : (t x : List ℕ) → braced_at t ≡ Some x → IsBraced t x
unfolding braced_at
braced_is [] x e = absurd (cc)
braced_is (c ∷ t) x e = by (c == 123 && begins_with 125 (drop (length run) t)) refl e
  where
    run : List ℕ
    run = take_while is_name_byte t

    by : (b : Bool) → (c == 123 && begins_with 125 (drop (length run) t)) ≡ b → (if b then Some run else None) ≡ Some x → IsBraced (c ∷ t) x
    by false f g = absurd (cc)
    by true f g =
        let parts = and_parts (c == 123) (begins_with 125 (drop (length run) t)) f in
        let r = run_of is_name_byte t in
        let front = byte_front 125 (drop (length run) t) parts.1 in
        let same : run ≡ x = cc in
        let first : c ≡ 123 = (let p = parts.0 in grind (arith, nat_tests)) in
        let others : t ≡ (run ++ 125 ∷ []) ++ front.0 =
        r.splits ∙ ap (λ y. run ++ y) (sym (run_rest is_name_byte t run r) ∙ front.1) ∙ sym (append_assoc run (125 ∷ []) front.0) in
        subst (IsBraced (c ∷ t)) same (record {
          rest = front.0;
          splits = ap (λ k. k ∷ t) first ∙ ap (λ y. 123 ∷ y) others;
          all = r.all;
        })

braced_length : (letter : ℕ) (x : List ℕ) → length x + 4 ≡ suc (length (braced letter x))
braced_length letter x = omega (arith, length-append x (125 ∷ []))

pub hex_named : (c x : ℕ) → hex_value c ≡ Some x → is_name_byte c ≡ true
hex_named c x e = by (is_between 48 57 c) (is_between 97 102 c) (is_between 65 70 c) refl refl refl e
  where
    by : (a b k : Bool) → is_between 48 57 c ≡ a → is_between 97 102 c ≡ b → is_between 65 70 c ≡ k →
        (if a then Some (c - 48) else if b then Some (c - 87) else if k then Some (c - 55) else None) ≡ Some x → is_name_byte c ≡ true
    by true b k l m n is = grind (arith, nat_tests)
    by false true k l m n is = grind (arith, nat_tests)
    by false false true l m n is = grind (arith, nat_tests)
    by false false false l m n is = absurd (cc)

-- hexadecimal digits are letters and digits
pub digits_named : (v : ℕ) (h : List ℕ) (c : ℕ) → hex_after v h ≡ Some c → list_all is_name_byte h ≡ true
digits_named v [] c e = refl
digits_named v (b ∷ h) c e = by (hex_value b) refl (λ x. digits_named (16 * v + x) h c) e
  where
    by : (found : Option ℕ) → hex_value b ≡ found → ((x : ℕ) → hex_after (16 * v + x) h ≡ Some c → list_all is_name_byte h ≡ true) →
        elim found [ None ↦ None | Some x ↦ hex_after (16 * v + x) h ] ≡ Some c → (is_name_byte b && list_all is_name_byte h) ≡ true
    by None f again g = absurd (cc)
    by (Some x) f again g = ap (λ k. k && list_all is_name_byte h) (hex_named b x f) ∙ again x g

scalar_test : (c : ℕ) → IsScalar c → is_scalar c ≡ true
scalar_test c is = grind (arith, nat_tests)

scalar_tested : (c : ℕ) → is_scalar c ≡ true → IsScalar c
scalar_tested c is = grind (arith, nat_tests)

-- an escape over bytes, as it is looked at over characters
char_front : {e : List ℕ} {x : Elem} → IsEscape e x → (rest : List ℕ) (p : ℕ) → char_escape_at p (e ++ rest) ≡ narrow_at p (escape_at (e ++ rest))
char_front a_digit rest p = refl
char_front a_word_byte rest p = refl
char_front a_space rest p = refl
char_front newline rest p = refl
char_front tab rest p = refl
char_front carriage_return rest p = refl
char_front (hex a b) rest p = refl
char_front (itself {c = c} punct) rest p =
    let first : (c == 117) ≡ false = grind (arith, nat_tests, punct) in
    let second : (c == 112) ≡ false = grind (arith, nat_tests, punct) in
    let last = narrow_at p (escape_at (c ∷ rest)) in
    ap (λ b. if b then number_in p (braced_at rest) else if c == 112 then property_in p (braced_at rest) else last) first
    ∙ ap (λ b. if b then property_in p (braced_at rest) else last) second

narrow_ok : (x : Elem) (len p : ℕ) → IsNarrow x → narrow_at p (Some (x, len)) ≡ Ok (x, len)
narrow_ok (byte b) len p small = let is : nat_lt b 128 ≡ true = grind (arith, nat_tests) in ap (λ k. if k then Ok (byte b, len) else Err (BadEscape p)) is
narrow_ok (kind s) len p small = refl

property_names : (name rest : List ℕ) (p : ℕ) → name ≢ [] → (found : Option Bytes) → property_set name ≡ found → list_all is_name_byte name ≡ true →
    char_escape_at p (braced 112 name ++ rest) ≡ property_elem p (length name) found
property_names [] rest p some found is all = absurd (some refl)
property_names (c ∷ name) rest p some found is all =
    ap (property_in p) (braced_read (c ∷ name) rest all) ∙ ap (property_elem p (suc (length name))) is

char_escape_read : {e : List ℕ} {x : Elem} → IsCharEscape e x → (rest : List ℕ) (p : ℕ) → char_escape_at p (e ++ rest) ≡ Ok (x, suc (length e))
char_escape_read (narrow {e = e} {x = x} is small) rest p =
    char_front is rest p ∙ ap (narrow_at p) (escape_read is rest) ∙ narrow_ok x (suc (length e)) p small
char_escape_read (number h {c = c} low high digits scalar) rest p =
    let test : (is_scalar c && (nat_le 1 (length h) && nat_le (length h) 6)) ≡ true =
    (let s = scalar_test c scalar in ap (λ b. b && (nat_le 1 (length h) && nat_le (length h) 6)) s ∙ grind (arith, nat_tests)) in
    ap (number_in p) (braced_read h rest (digits_named 0 h c digits)) ∙ ap (number_elem p (length h)) digits
    ∙ ap (λ b. if b then Ok (byte c, length h + 4) else Err (BadEscape p)) test
    ∙ ap (λ n. Ok (byte c, n)) (braced_length 117 h)
char_escape_read (property name {s = s} all some is) rest p =
    property_names name rest p some (Some s) is all ∙ ap (λ n. Ok (kind s, n)) (braced_length 112 name)

unknown_read : (name rest : List ℕ) (p : ℕ) → NamesNoProperty name → char_escape_at p (braced 112 name ++ rest) ≡ Err (UnknownProperty p)
unknown_read name rest p is = property_names name rest p is.some None is.unknown is.run

-- what an answer says of the text after the backslash at p
TellsEscape : Alphabet → List ℕ → ℕ → ElemToken → Type 0
TellsEscape alphabet t p (Ok x) = EscapedOver alphabet t x.0 x.1
TellsEscape alphabet t p (Err e) =
    (e ≡ BadEscape p) ⊎ ((name : List ℕ) × IsUnknown alphabet name × (rest : List ℕ) × (t ≡ braced 112 name ++ rest) × (e ≡ UnknownProperty p))

bytes_told : (t : List ℕ) (p : ℕ) (found : Option (Elem × ℕ)) → escape_at t ≡ found → TellsEscape of_bytes t p (found_or (BadEscape p) found)
unfolding TellsEscape
bytes_told t p None is = inl refl
bytes_told t p (Some x) is = let g = escape_is t x is in record { text = g.text; rest = g.rest; splits = g.splits; is = g.is; takes = g.takes }

narrow_told : (t : List ℕ) (p : ℕ) (found : Option (Elem × ℕ)) → escape_at t ≡ found → TellsEscape of_characters t p (narrow_at p found)
unfolding TellsEscape
narrow_told t p None is = inl refl
narrow_told t p (Some (kind s, len)) is =
    let g = escape_is t (kind s, len) is in record { text = g.text; rest = g.rest; splits = g.splits; is = narrow g.is tt; takes = g.takes }
narrow_told t p (Some (byte b, len)) is = by (nat_lt b 128) refl
  where
    by : (k : Bool) → nat_lt b 128 ≡ k → TellsEscape of_characters t p (if k then Ok (byte b, len) else Err (BadEscape p))
    by true small =
        let g = escape_is t (byte b, len) is in
        record { text = g.text; rest = g.rest; splits = g.splits; is = narrow g.is (grind (arith, nat_tests)); takes = g.takes }
    by false big = inl refl

number_told : (t h : List ℕ) (p : ℕ) (found : Option ℕ) → IsBraced t h → hex_after 0 h ≡ found → TellsEscape of_characters (117 ∷ t) p (number_elem p (length h) found)
unfolding TellsEscape
number_told t h p None is digits = inl refl
number_told t h p (Some c) is digits = by (is_scalar c && (nat_le 1 (length h) && nat_le (length h) 6)) refl
  where
    by : (b : Bool) → (is_scalar c && (nat_le 1 (length h) && nat_le (length h) 6)) ≡ b →
        TellsEscape of_characters (117 ∷ t) p (if b then Ok (byte c, length h + 4) else Err (BadEscape p))
    by false e = inl refl
    by true e =
        let parts = and_parts (is_scalar c) (nat_le 1 (length h) && nat_le (length h) 6) e in
        let bounds = and_parts (nat_le 1 (length h)) (nat_le (length h) 6) parts.1 in
        let low = bounds.0 in
        let high = bounds.1 in
        record {
          text = braced 117 h;
          rest = is.rest;
          splits = ap (λ y. 117 ∷ y) is.splits;
          is = number h (grind (arith, nat_tests)) (grind (arith, nat_tests)) digits (scalar_tested c parts.0);
          takes = braced_length 117 h;
        }

numbers_told : (t : List ℕ) (p : ℕ) (found : Option (List ℕ)) → braced_at t ≡ found → TellsEscape of_characters (117 ∷ t) p (number_in p found)
unfolding TellsEscape
numbers_told t p None is = inl refl
numbers_told t p (Some h) is = number_told t h p (hex_after 0 h) (braced_is t h is) refl

property_told : (t name : List ℕ) (p : ℕ) (found : Option Bytes) → name ≢ [] → IsBraced t name → property_set name ≡ found →
    TellsEscape of_characters (112 ∷ t) p (property_elem p (length name) found)
unfolding TellsEscape
property_told t name p None some is known =
    inr (name, record { run = is.all; some = some; unknown = known }, is.rest, ap (λ y. 112 ∷ y) is.splits, refl)
property_told t name p (Some s) some is known = record {
  text = braced 112 name;
  rest = is.rest;
  splits = ap (λ y. 112 ∷ y) is.splits;
  is = property name is.all some known;
  takes = braced_length 112 name;
}

properties_told : (t : List ℕ) (p : ℕ) (found : Option (List ℕ)) → braced_at t ≡ found → TellsEscape of_characters (112 ∷ t) p (property_in p found)
unfolding TellsEscape
properties_told t p None is = inl refl
properties_told t p (Some []) is = inl refl
properties_told t p (Some (c ∷ name)) is =
    property_told t (c ∷ name) p (property_set (c ∷ name)) (λ e. cc) (braced_is t (c ∷ name) is) refl

chars_told : (t : List ℕ) (p : ℕ) → TellsEscape of_characters t p (char_escape_at p t)
unfolding TellsEscape
chars_told [] p = inl refl
chars_told (c ∷ t) p = by (c == 117) refl (c == 112) refl
  where
    by : (a : Bool) → (c == 117) ≡ a → (b : Bool) → (c == 112) ≡ b →
        TellsEscape of_characters (c ∷ t) p (if a then number_in p (braced_at t) else if b then property_in p (braced_at t) else narrow_at p (escape_at (c ∷ t)))
    by true e b f =
        let is : 117 ≡ c = grind (arith, nat_tests) in
        rw (← is) (numbers_told t p (braced_at t) refl)
    by false e true f =
        let is : 112 ≡ c = grind (arith, nat_tests) in
        rw (← is) (properties_told t p (braced_at t) refl)
    by false e false f = narrow_told (c ∷ t) p (escape_at (c ∷ t)) refl

escape_told : (lang : Dialect) (t : List ℕ) (p : ℕ) → TellsEscape (alphabet_of lang) t p (escape_in lang p t)
escape_told plain_bytes t p = bytes_told t p (escape_at t) refl
escape_told (with_characters trees) t p = chars_told t p

pub escape_in_read : (lang : Dialect) (e : List ℕ) (x : Elem) → IsEscapeOf (alphabet_of lang) e x → (rest : List ℕ) (p : ℕ) →
    escape_in lang p (e ++ rest) ≡ Ok (x, suc (length e))
escape_in_read plain_bytes e x is rest p = ap (found_or (BadEscape p)) (escape_read is rest)
escape_in_read (with_characters trees) e x is rest p = char_escape_read is rest p

pub escape_in_is : (lang : Dialect) (t : List ℕ) (p : ℕ) (x : Elem × ℕ) → escape_in lang p t ≡ Ok x → EscapedOver (alphabet_of lang) t x.0 x.1
unfolding TellsEscape
escape_in_is lang t p x e = subst (TellsEscape (alphabet_of lang) t p) e (escape_told lang t p)

unknown_in_read : (lang : Dialect) (name rest : List ℕ) (p : ℕ) → IsUnknown (alphabet_of lang) name → escape_in lang p (braced 112 name ++ rest) ≡ Err (UnknownProperty p)
unknown_in_read plain_bytes name rest p is = absurd is
unknown_in_read (with_characters trees) name rest p is = unknown_read name rest p is

same_tail : (b : ℕ) (x y : List ℕ) → b ∷ x ≡ b ∷ y → x ≡ y
same_tail b x y e = cc

ok_no_err : (r : ElemToken) (x : Elem × ℕ) (e : FormulaFault) → r ≡ Ok x → r ≡ Err e → ⊥
ok_no_err r x e a b = absurd (cc)

bad_not_unknown : (r : ElemToken) (p : ℕ) → r ≡ Err (BadEscape p) → r ≡ Err (UnknownProperty p) → ⊥
bad_not_unknown r p a b = absurd (cc)

pub escape_fault_is : (lang : Dialect) (text : List ℕ) (p : ℕ) (t : List ℕ) (e : FormulaFault) → drop p text ≡ 92 ∷ t → escape_in lang p t ≡ Err e →
    HasEscapeFault (alphabet_of lang) text p e
unfolding TellsEscape
escape_fault_is lang text p t e stands is = by (subst (TellsEscape (alphabet_of lang) t p) is (escape_told lang t p))
  where
    by : TellsEscape (alphabet_of lang) t p (Err e) → HasEscapeFault (alphabet_of lang) text p e
    by (inl bad) =
        let none : escape_in lang p t ≡ Err (BadEscape p) = is ∙ ap Err bad in
        subst (HasEscapeFault (alphabet_of lang) text p) (sym bad)
        (no_escape (t, stands)
        (λ u x an (rest, other).
        let same = same_tail 92 t (u ++ rest) (sym stands ∙ other) in
        ok_no_err (escape_in lang p t) (x, suc (length u)) (BadEscape p) (ap (escape_in lang p) same ∙ escape_in_read lang u x an rest p) none)
        (λ name an (rest, other).
        let same = same_tail 92 t (braced 112 name ++ rest) (sym stands ∙ other) in
        bad_not_unknown (escape_in lang p t) p none (ap (escape_in lang p) same ∙ unknown_in_read lang name rest p an)))
    by (inr (name, unknown, rest, splits, same)) =
        subst (HasEscapeFault (alphabet_of lang) text p) (sym same)
        (no_property name unknown (rest, stands ∙ ap (λ y. 92 ∷ y) splits))

pub escape_fault_read : (lang : Dialect) (text : List ℕ) (p : ℕ) {e : FormulaFault} → HasEscapeFault (alphabet_of lang) text p e →
    (t : List ℕ) × (drop p text ≡ 92 ∷ t) × (escape_in lang p t ≡ Err e)
unfolding TellsEscape
escape_fault_read lang text p (no_escape (t, stands) never no_name) = (t, stands, by (escape_in lang p t) refl (escape_told lang t p))
  where
    by : (r : ElemToken) → escape_in lang p t ≡ r → TellsEscape (alphabet_of lang) t p r → escape_in lang p t ≡ Err (BadEscape p)
    by (Ok x) is told = absurd (never told.text x.0 told.is (told.rest, stands ∙ ap (λ y. 92 ∷ y) told.splits))
    by (Err e) is (inl bad) = is ∙ ap Err bad
    by (Err e) is (inr (name, unknown, rest, splits, same)) = absurd (no_name name unknown (rest, stands ∙ ap (λ y. 92 ∷ y) splits))
escape_fault_read lang text p (no_property name unknown (rest, stands)) =
    (braced 112 name ++ rest, stands, unknown_in_read lang name rest p unknown)

-- a character past 7F begins with a byte of 80 or more
pub record BeginsWide (u : List ℕ) : Type 0 where
  pub first : ℕ
  pub others : List ℕ
  pub text : u ≡ first ∷ others
  pub big : 128 ≤ first

wide_begins : (c : ℕ) → 128 ≤ c → BeginsWide (encode_utf8 c)
wide_begins c big = by (nat_lt c 2048) refl (nat_lt c 65536) refl
  where
    by : (a : Bool) → nat_lt c 2048 ≡ a → (b : Bool) → nat_lt c 65536 ≡ b → BeginsWide (encode_utf8 c)
    by true e b f = record { first = _; others = _; text = (has_digits c).two big (grind (arith, nat_tests)); big = omega arith }
    by false e true f = record { first = _; others = _; text = (has_digits c).three (grind (arith, nat_tests)) (grind (arith, nat_tests)); big = omega arith }
    by false e false f = record { first = _; others = _; text = (has_digits c).four (grind (arith, nat_tests)); big = omega arith }

pub is_wide_begins : (alphabet : Alphabet) (c : ℕ) → IsWide alphabet c → BeginsWide (encode_utf8 c)
is_wide_begins of_bytes c is = absurd is
is_wide_begins of_characters c is = wide_begins c is.1

pub wide_in_read : (lang : Dialect) (c : ℕ) → IsWide (alphabet_of lang) c → (rest : List ℕ) (p : ℕ) →
    wide_in lang p (encode_utf8 c ++ rest) ≡ Ok (byte c, length (encode_utf8 c))
wide_in_read plain_bytes c is rest p = absurd is
wide_in_read (with_characters trees) c is rest p = ap (char_elem p) (decoded-encode c rest is.0)

-- what an answer says of a text that begins with a byte of 80 or more
TellsWide : Alphabet → List ℕ → ℕ → ElemToken → Type 0
TellsWide alphabet t p (Ok x) = (c : ℕ) × (rest : List ℕ) × IsWide alphabet c × (t ≡ encode_utf8 c ++ rest) × (x ≡ (byte c, length (encode_utf8 c)))
TellsWide alphabet t p (Err e) = (e ≡ Unexpected p) × BeginsNoElem alphabet t

small_first : (c : ℕ) (t rest : List ℕ) → c < 128 → t ≡ encode_utf8 c ++ rest → begins (λ b. nat_lt b 128) t ≡ true
small_first c t rest small e =
    ap (begins (λ b. nat_lt b 128)) (e ∙ ap (λ u. u ++ rest) ((has_digits c).one small)) ∙ grind (arith, nat_tests)

at_least : (c : ℕ) → (c < 128 → ⊥) → 128 ≤ c
at_least c never = elim (cases_lt c 128) [ inl less ↦ absurd (never less) | inr more ↦ more ]

char_told : (t : List ℕ) (p : ℕ) → begins (λ b. nat_lt b 128) t ≡ false → (found : Option ℕ) → (decoded t).char ≡ found →
    TellsWide of_characters t p (elim found [ None ↦ Err (Unexpected p) | Some c ↦ Ok (byte c, (decoded t).size) ])
unfolding TellsWide
char_told t p big None e = (refl, λ c rest is same. let d = ap (λ (x : Decoded). x.char) (ap decoded same ∙ decoded-encode c rest is) in let no = sym e ∙ d in cc)
char_told t p big (Some c) e =
    let h = SpellsChar-decoded t c e in (
      c,
      drop (decoded t).size t,
      (
        h.scalar,
        at_least c (λ small. let no = sym big ∙ small_first c t (drop (decoded t).size t) small h.bytes in
            absurd (cc)),
      ),
      h.bytes,
      ap (λ n. (byte c, n)) (sym h.width),
    )

wide_told : (lang : Dialect) (t : List ℕ) (p : ℕ) → begins (λ b. nat_lt b 128) t ≡ false → TellsWide (alphabet_of lang) t p (wide_in lang p t)
unfolding TellsWide
wide_told plain_bytes t p big = (refl, tt)
wide_told (with_characters trees) t p big = char_told t p big (decoded t).char refl

pub wide_in_is : (lang : Dialect) (t : List ℕ) (p : ℕ) (x : Elem × ℕ) → begins (λ b. nat_lt b 128) t ≡ false → wide_in lang p t ≡ Ok x →
    (c : ℕ) × (rest : List ℕ) × IsWide (alphabet_of lang) c × (t ≡ encode_utf8 c ++ rest) × (x ≡ (byte c, length (encode_utf8 c)))
unfolding TellsWide
wide_in_is lang t p x big e = subst (TellsWide (alphabet_of lang) t p) e (wide_told lang t p big)

pub wide_fault_is : (lang : Dialect) (t : List ℕ) (p : ℕ) (e : FormulaFault) → begins (λ b. nat_lt b 128) t ≡ false → wide_in lang p t ≡ Err e →
    (e ≡ Unexpected p) × BeginsNoElem (alphabet_of lang) t
unfolding TellsWide
wide_fault_is lang t p e big is = subst (TellsWide (alphabet_of lang) t p) is (wide_told lang t p big)

pub wide_fault_read : (lang : Dialect) (t : List ℕ) (p : ℕ) → begins (λ b. nat_lt b 128) t ≡ false → BeginsNoElem (alphabet_of lang) t →
    wide_in lang p t ≡ Err (Unexpected p)
unfolding TellsWide
wide_fault_read plain_bytes t p big none = refl
wide_fault_read (with_characters trees) t p big none = by (wide_in (with_characters trees) p t) refl (wide_told (with_characters trees) t p big)
  where
    by : (r : ElemToken) → wide_in (with_characters trees) p t ≡ r → TellsWide of_characters t p r → wide_in (with_characters trees) p t ≡ Err (Unexpected p)
    by (Ok x) is (c, rest, wide, same, takes) = absurd (none c rest wide.0 same)
    by (Err e) is (same, other) = is ∙ ap Err same
