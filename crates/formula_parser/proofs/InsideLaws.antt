-- What is spelled has no slash but in pairs, so that its closing slash is the first one.
use Rattle.std.proofs.Common.{◌≡◌, ◌≢◌, ℕ, ◌≤◌, Bool, true, List, [], ◌∷◌, ◌++◌, Option, sym, subst, arith, inl, inr}
use Rattle.std.specs.List.{list_all}
use Rattle.std.specs.Char.{encode_utf8}
use Rattle.std.proofs.lemmas.Bool.{and_parts, cases_lt}
use Rattle.span_core.specs.Names.{is_name, is_name_byte}
use Rattle.spanner_model.specs.Tree.{Tree}
use Rattle.unicode_classes.proofs.DigitLaws.{has_digits}
use Rattle.formula_parser.specs.Alphabet.{Alphabet, of_bytes, of_characters, IsWide}
use Rattle.formula_parser.specs.Escapes.{Elem, IsEscape, a_digit, a_word_byte, a_space, newline, tab, carriage_return, hex, itself}
use Rattle.formula_parser.specs.CharEscapes.{IsCharEscape, narrow, number, property, IsEscapeOf, braced}
use Rattle.formula_parser.specs.Classes.{IsElem, plain, wide, escaped, SpellsItem, lone, range, SpellsItems, one_item, more_items, SpellsClass, of_items, of_others}
use Rattle.formula_parser.specs.Names.{head_text}
use Rattle.formula_parser.specs.Repeats.{is_digit, IsNumber, IsRepeat, star, plus, maybe, exactly, at_least, between}
use Rattle.formula_parser.specs.Sets.{Bytes}
use Rattle.formula_parser.specs.Signs as signs
use Rattle.formula_parser.specs.Signs.{IsInside, nothing, pair}
use Rattle.formula_parser.specs.Spells as spells
use Rattle.formula_parser.specs.Spells.{is_tail, IsPlain, SpellsAlt, SpellsSeq, SpellsPiece, SpellsUnit, lone_arm, more_arms, no_piece, more_pieces, once, again, group_of, capture_of}
use Rattle.formula_parser.proofs.ElemTokens.{hex_named, digits_named}
use Rattle.formula_parser.proofs.HeadLaws.{word_all}
use Rattle.formula_parser.proofs.ReadsSpelled.{name_word}

pub inside_append : {t : List ℕ} → IsInside t → (u : List ℕ) → IsInside u → IsInside (t ++ u)
inside_append nothing u h = h
inside_append (signs.lone slash back is) u h = signs.lone slash back (inside_append is u h)
inside_append (pair is) u h = pair (inside_append is u h)

-- one byte that is no slash and no backslash
one_inside : (c : ℕ) → c ≢ 47 → c ≢ 92 → IsInside (c ∷ [])
one_inside c slash back = signs.lone slash back nothing

-- a run of bytes that are none
run_inside : (p : ℕ → Bool) → ((c : ℕ) → p c ≡ true → (c ≢ 47) × (c ≢ 92)) → (t : List ℕ) → list_all p t ≡ true → IsInside t
run_inside p apart [] all = nothing
run_inside p apart (c ∷ t) all =
    let parts = and_parts (p c) (list_all p t) all in
    let far = apart c parts.0 in
    signs.lone far.0 far.1 (run_inside p apart t parts.1)

name_apart : (c : ℕ) → is_name_byte c ≡ true → (c ≢ 47) × (c ≢ 92)
name_apart c h = (λ e. by47 (rw e at h), λ e. by92 (rw e at h))
  where
    by47 : is_name_byte 47 ≡ true → ⊥
    by47 f = absurd (cc)

    by92 : is_name_byte 92 ≡ true → ⊥
    by92 f = absurd (cc)

tail_apart : (c : ℕ) → is_tail c ≡ true → (c ≢ 47) × (c ≢ 92)
tail_apart c h = (λ e. by47 (rw e at h), λ e. by92 (rw e at h))
  where
    by47 : is_tail 47 ≡ true → ⊥
    by47 f = absurd (cc)

    by92 : is_tail 92 ≡ true → ⊥
    by92 f = absurd (cc)

digit_apart : (c : ℕ) → is_digit c ≡ true → (c ≢ 47) × (c ≢ 92)
digit_apart c h = (λ e. by47 (rw e at h), λ e. by92 (rw e at h))
  where
    by47 : is_digit 47 ≡ true → ⊥
    by47 f = absurd (cc)

    by92 : is_digit 92 ≡ true → ⊥
    by92 f = absurd (cc)

names_inside : (t : List ℕ) → list_all is_name_byte t ≡ true → IsInside t
names_inside t all = run_inside is_name_byte name_apart t all

byte_inside : {e : List ℕ} {x : Elem} → IsEscape e x → IsInside (92 ∷ e)
byte_inside a_digit = pair nothing
byte_inside a_word_byte = pair nothing
byte_inside a_space = pair nothing
byte_inside newline = pair nothing
byte_inside tab = pair nothing
byte_inside carriage_return = pair nothing
byte_inside (hex {h = h} {l = l} {x = x} {y = y} a b) =
    let first = name_apart h (hex_named h x a) in
    let second = name_apart l (hex_named l y b) in
    pair (signs.lone first.0 first.1 (signs.lone second.0 second.1 nothing))
byte_inside (itself punct) = pair nothing

braced_inside : (letter : ℕ) (x : List ℕ) → list_all is_name_byte x ≡ true → IsInside (92 ∷ braced letter x)
braced_inside letter x all =
    pair (signs.lone (λ e. omega (arith, e)) (λ e. omega (arith, e))
    (inside_append (names_inside x all) (125 ∷ []) (one_inside 125 (λ e. omega (arith, e)) (λ e. omega (arith, e)))))

char_inside : {e : List ℕ} {x : Elem} → IsCharEscape e x → IsInside (92 ∷ e)
char_inside (narrow is small) = byte_inside is
char_inside (number h {c = c} low high digits scalar) = braced_inside 117 h (digits_named 0 h c digits)
char_inside (property name all some is) = braced_inside 112 name all

escape_inside : (alphabet : Alphabet) (e : List ℕ) (x : Elem) → IsEscapeOf alphabet e x → IsInside (92 ∷ e)
escape_inside of_bytes e x is = byte_inside is
escape_inside of_characters e x is = char_inside is

big_inside : (c : ℕ) (t : List ℕ) → 128 ≤ c → IsInside t → IsInside (c ∷ t)
big_inside c t big is = signs.lone (λ e. omega (arith, e, big)) (λ e. omega (arith, e, big)) is

wide_inside : (alphabet : Alphabet) (c : ℕ) → IsWide alphabet c → IsInside (encode_utf8 c)
wide_inside of_bytes c is = absurd is
wide_inside of_characters c is = elim (cases_lt c 2048) [
  | inl two ↦ subst IsInside (sym ((has_digits c).two is.1 two)) (big_inside _ _ (omega arith) (big_inside _ _ (omega arith) nothing))
  | inr more ↦ elim (cases_lt c 65536) [
    | inl three ↦ subst IsInside (sym ((has_digits c).three more three))
        (big_inside _ _ (omega arith) (big_inside _ _ (omega arith) (big_inside _ _ (omega arith) nothing)))
    | inr four ↦ subst IsInside (sym ((has_digits c).four four))
        (big_inside _ _ (omega arith) (big_inside _ _ (omega arith) (big_inside _ _ (omega arith) (big_inside _ _ (omega arith) nothing))))
  ]
]

elem_inside : {alphabet : Alphabet} {t : List ℕ} {x : Elem} → IsElem alphabet t x → IsInside t
elem_inside (plain {b = b} small n1 n2 n3 n4) = one_inside b n4 n3
elem_inside {alphabet = alphabet} (wide {c = c} is) = wide_inside alphabet c is
elem_inside {alphabet = alphabet} (escaped {e = e} {x = x} is) = escape_inside alphabet e x is

item_inside : {alphabet : Alphabet} {t after : List ℕ} {s : Bytes} → SpellsItem alphabet t s after → IsInside t
item_inside (lone is stops) = elem_inside is
item_inside (range {u = u} is are le) = inside_append (elem_inside is) (45 ∷ u) (signs.lone (λ e. omega (arith, e)) (λ e. omega (arith, e)) (elem_inside are))

items_inside : {alphabet : Alphabet} {t after : List ℕ} {s : Bytes} → SpellsItems alphabet t s after → IsInside t
items_inside (one_item is) = item_inside is
items_inside (more_items {u = u} are is) = inside_append (items_inside are) u (item_inside is)

closed_items : {alphabet : Alphabet} {t after : List ℕ} {s : Bytes} → SpellsItems alphabet t s after → IsInside (t ++ 93 ∷ [])
closed_items are = inside_append (items_inside are) (93 ∷ []) (one_inside 93 (λ e. omega (arith, e)) (λ e. omega (arith, e)))

class_inside : {alphabet : Alphabet} {t after : List ℕ} {s : Bytes} → SpellsClass alphabet t s after → IsInside t
class_inside (of_items first are) = closed_items are
class_inside (of_others are) = signs.lone (λ e. omega (arith, e)) (λ e. omega (arith, e)) (closed_items are)

plain_inside : {alphabet : Alphabet} {t after : List ℕ} {f : Tree} → IsPlain alphabet t f after → IsInside t
plain_inside (spells.literal {b = b} is) = one_inside b is.0.0 is.0.1.1.1.1.1.1.1.1.1.1.1.1.1.1.1.0
plain_inside (spells.wide {b = b} {t = t} big all ends) = big_inside b t (omega (arith, big)) (run_inside is_tail tail_apart t all)
plain_inside (spells.bang none) = one_inside 33 (λ e. omega (arith, e)) (λ e. omega (arith, e))
plain_inside (spells.dot tree) = one_inside 46 (λ e. omega (arith, e)) (λ e. omega (arith, e))
plain_inside {alphabet = alphabet} (spells.escape {e = e} x is some tree) = escape_inside alphabet e x is
plain_inside (spells.class is tree) = signs.lone (λ e. omega (arith, e)) (λ e. omega (arith, e)) (class_inside is.0)

digits_inside : {t : List ℕ} {m : ℕ} → IsNumber t m → IsInside t
digits_inside {t = t} is = run_inside is_digit digit_apart t is.digits

repeat_inside : {u : List ℕ} {least : ℕ} {most : Option ℕ} → IsRepeat u least most → IsInside u
repeat_inside star = one_inside 42 (λ e. omega (arith, e)) (λ e. omega (arith, e))
repeat_inside plus = one_inside 43 (λ e. omega (arith, e)) (λ e. omega (arith, e))
repeat_inside maybe = one_inside 63 (λ e. omega (arith, e)) (λ e. omega (arith, e))
repeat_inside (exactly is) =
    signs.lone (λ e. omega (arith, e)) (λ e. omega (arith, e))
    (inside_append (digits_inside is) (125 ∷ []) (one_inside 125 (λ e. omega (arith, e)) (λ e. omega (arith, e))))
repeat_inside (at_least is) =
    signs.lone (λ e. omega (arith, e)) (λ e. omega (arith, e))
    (inside_append (digits_inside is) (44 ∷ 125 ∷ []) (signs.lone (λ e. omega (arith, e)) (λ e. omega (arith, e)) (one_inside 125 (λ e. omega (arith, e)) (λ e. omega (arith, e)))))
repeat_inside (between {u = u} is are le) =
    signs.lone (λ e. omega (arith, e)) (λ e. omega (arith, e))
    (inside_append (digits_inside is) (44 ∷ (u ++ 125 ∷ [])) (signs.lone (λ e. omega (arith, e)) (λ e. omega (arith, e))
    (inside_append (digits_inside are) (125 ∷ []) (one_inside 125 (λ e. omega (arith, e)) (λ e. omega (arith, e))))))

head_inside : (x : List ℕ) → is_name x ≡ true → IsInside (head_text x)
head_inside x name =
    signs.lone (λ e. omega (arith, e)) (λ e. omega (arith, e))
    (inside_append (names_inside x (word_all x (name_word x name).0)) (123 ∷ []) (one_inside 123 (λ e. omega (arith, e)) (λ e. omega (arith, e))))

mutual
  pub alt_inside : {alphabet : Alphabet} {room : ℕ} {t after : List ℕ} {fs : List Tree} → SpellsAlt alphabet room t fs after → IsInside t
  alt_inside (lone_arm s) = seq_inside s
  alt_inside (more_arms {u = u} s rest) = inside_append (seq_inside s) (124 ∷ u) (signs.lone (λ e. omega (arith, e)) (λ e. omega (arith, e)) (alt_inside rest))

  seq_inside : {alphabet : Alphabet} {room : ℕ} {t after : List ℕ} {fs : List Tree} → SpellsSeq alphabet room t fs after → IsInside t
  seq_inside no_piece = nothing
  seq_inside (more_pieces {u = u} p s) = inside_append (piece_inside p) u (seq_inside s)

  piece_inside : {alphabet : Alphabet} {room : ℕ} {t after : List ℕ} {f : Tree} → SpellsPiece alphabet room t f after → IsInside t
  piece_inside (once u) = unit_inside u
  piece_inside (again {u = v} u sign) = inside_append (unit_inside u) v (repeat_inside sign)

  unit_inside : {alphabet : Alphabet} {room : ℕ} {t after : List ℕ} {f : Tree} → SpellsUnit alphabet room t f after → IsInside t
  unit_inside (spells.plain is) = plain_inside is
  unit_inside (group_of {t = t} alt) =
      signs.lone (λ e. omega (arith, e)) (λ e. omega (arith, e))
      (inside_append (alt_inside alt) (41 ∷ []) (one_inside 41 (λ e. omega (arith, e)) (λ e. omega (arith, e))))
  unit_inside (capture_of {x = x} {t = t} variable alt) =
      inside_append (head_inside x variable.0) (t ++ 125 ∷ [])
      (inside_append (alt_inside alt) (125 ∷ []) (one_inside 125 (λ e. omega (arith, e)) (λ e. omega (arith, e))))
