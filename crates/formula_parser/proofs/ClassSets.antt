-- The sets that classes stand for.
use Rattle.std.proofs.Common.{◌≡◌, ◌≢◌, ℕ, ◌+◌, ◌*◌, ◌-◌, ◌<◌, Bool, true, false, not, ◌||◌, ◌==◌, nat_le, Some, None, IsTrue, ◌↔◌, List, ap, sym, refl, ◌∙◌, arith, if◌then◌else◌}
use Rattle.std.specs.Ordering.{nat_cmp, eq_by_cmp}
use Rattle.std.specs.Cmp.{nat_cmp_total}
use Rattle.std.specs.FinSet as set
use Rattle.std.specs.FinSet.{same_set, nat_cmp-IsAntisymmetric, contains-union, contains-difference, contains-insert, contains-empty, empty_of_len, len-empty}
use Rattle.std.proofs.lemmas.Bool.{and_parts}
use Rattle.std.proofs.lemmas.Bool.Decides.{nat_tests}
use Rattle.span_core.specs.ByteSets.{bytes_between}
use Rattle.span_core.specs.ByteWordLaws.{contains-bytes_between}
use Rattle.formula_parser.specs.Sets.{Bytes, single, others, digits}
use Rattle.formula_parser.specs.Alphabet.{of_bytes}
use Rattle.formula_parser.specs.Escapes.{Elem, byte, kind, elem_set, is_between, hex_value, IsEscape, a_digit, a_word_byte, a_space, newline, tab, carriage_return, hex, itself}
use Rattle.formula_parser.specs.Classes.{IsElem, plain, wide, escaped, AreRange, range_set, SpellsItem, lone, range, SpellsItems, one_item, more_items, SpellsClass, of_items, of_others}

pub union_empty : (s : Bytes) → set.union set.empty s ≡ s
union_empty s = same_set nat_cmp_total nat_cmp-IsAntisymmetric (set.union set.empty s) s
    (λ q. contains-union nat_cmp_total set.empty s q ∙ ap (λ b. b || set.contains s q) (contains-empty nat_cmp q))

-- whether a set is empty, by how many members it has
pub counts_none : (s : Bytes) → (set.len s == 0) ≡ true → s ≡ set.empty
counts_none s h = empty_of_len s (grind (arith, nat_tests))

pub none_counted : (s : Bytes) → s ≡ set.empty → (set.len s == 0) ≡ true
none_counted s e = ap (λ n. n == 0) (ap set.len e ∙ len-empty nat_cmp)

pub some_counted : (s : Bytes) → s ≢ set.empty → (set.len s == 0) ≡ false
some_counted s some = by (set.len s == 0) refl
  where
    by : (b : Bool) → (set.len s == 0) ≡ b → (set.len s == 0) ≡ false
    by true e = absurd (some (counts_none s e))
    by false e = e

pub counted : (b : Bool) (s : Bytes) → IsTrue b ↔ (s ≡ set.empty) → b ≡ (set.len s == 0)
counted true s h = sym (none_counted s (h.0 refl))
counted false s h = by (set.len s == 0) refl
  where
    by : (v : Bool) → (set.len s == 0) ≡ v → false ≡ (set.len s == 0)
    by true e = let no : IsTrue false = h.1 (counts_none s e) in absurd (cc)
    by false e = sym e

-- each member is a byte
abbrev pub AreBytes : Bytes → Type 0
AreBytes s = (q : ℕ) → IsTrue (set.contains s q) → q < 256

pub or_cases : (a b : Bool) (P : Type 0) → (a ≡ true → P) → (b ≡ true → P) → (a || b) ≡ true → P
or_cases true b P first second h = first refl
or_cases false b P first second h = second h

pub union_bytes : (s t : Bytes) → AreBytes s → AreBytes t → AreBytes (set.union s t)
union_bytes s t a b q h = or_cases (set.contains s q) (set.contains t q) (q < 256) (a q) (b q) (sym (contains-union nat_cmp_total s t q) ∙ h)

pub between_bytes : (low high : ℕ) → high < 256 → AreBytes (bytes_between low high)
between_bytes low high le q h =
    let parts = and_parts (nat_le low q) (nat_le q high) (sym (contains-bytes_between low high q) ∙ h) in
    let upper = parts.1 in
    grind (arith, nat_tests)

pub single_bytes : (b : ℕ) → b < 256 → AreBytes (single b)
single_bytes b le q h =
    let is : (eq_by_cmp nat_cmp q b || false) ≡ true = ap (λ x. eq_by_cmp nat_cmp q b || x) (sym (contains-empty nat_cmp q)) ∙ sym (contains-insert nat_cmp_total set.empty b q) ∙ h in
    grind (arith, nat_tests)

pub others_bytes : (s : Bytes) → AreBytes (others s)
others_bytes s q h =
    let parts = and_parts (set.contains (bytes_between 0 255) q) (not (set.contains s q)) (sym (contains-difference nat_cmp_total (bytes_between 0 255) s q) ∙ h) in
    between_bytes 0 255 (omega arith) q parts.0

hex_small : (h x : ℕ) → hex_value h ≡ Some x → x < 16
hex_small h x e = by (is_between 48 57 h) (is_between 97 102 h) (is_between 65 70 h) refl refl refl e
  where
    by : (a b c : Bool) → is_between 48 57 h ≡ a → is_between 97 102 h ≡ b → is_between 65 70 h ≡ c →
        (if a then Some (h - 48) else if b then Some (h - 87) else if c then Some (h - 55) else None) ≡ Some x → x < 16
    by true b c d l u is = let same : h - 48 ≡ x = cc in grind (arith, nat_tests)
    by false true c d l u is = let same : h - 87 ≡ x = cc in grind (arith, nat_tests)
    by false false true d l u is = let same : h - 55 ≡ x = cc in grind (arith, nat_tests)
    by false false false d l u is = absurd (cc)

pub escape_bytes : {e : List ℕ} {x : Elem} → IsEscape e x → AreBytes (elem_set x)
escape_bytes a_digit = between_bytes 48 57 (omega arith)
escape_bytes a_word_byte =
    union_bytes (set.union digits (bytes_between 65 90)) (set.union (single 95) (bytes_between 97 122))
    (union_bytes digits (bytes_between 65 90) (between_bytes 48 57 (omega arith)) (between_bytes 65 90 (omega arith)))
    (union_bytes (single 95) (bytes_between 97 122) (single_bytes 95 (omega arith)) (between_bytes 97 122 (omega arith)))
escape_bytes a_space = union_bytes (bytes_between 9 13) (single 32) (between_bytes 9 13 (omega arith)) (single_bytes 32 (omega arith))
escape_bytes newline = single_bytes 10 (omega arith)
escape_bytes tab = single_bytes 9 (omega arith)
escape_bytes carriage_return = single_bytes 13 (omega arith)
escape_bytes (hex {h = h} {l = l} {x = x} {y = y} a b) = single_bytes (16 * x + y) (omega (arith, hex_small h x a, hex_small l y b))
escape_bytes (itself {c = c} p) = single_bytes c (grind (arith, nat_tests, p))

pub elem_bytes : {u : List ℕ} {x : Elem} → IsElem of_bytes u x → AreBytes (elem_set x)
elem_bytes (plain {b = b} small n1 n2 n3 n4) = single_bytes b (omega (arith, small))
elem_bytes (wide is) = absurd is
elem_bytes (escaped is) = escape_bytes is

-- the last byte of a range
range_bytes : (x y : Elem) → AreRange x y → AreBytes (elem_set y) → AreBytes (range_set x y)
range_bytes (byte a) (byte b) le bytes =
    let has : set.contains (single b) b ≡ true = contains-insert nat_cmp_total set.empty b b ∙ grind (arith, nat_tests) in
    between_bytes a b (bytes b has)
range_bytes (byte a) (kind s) le bytes = absurd le
range_bytes (kind s) y le bytes = absurd le

item_bytes : {t after : List ℕ} {s : Bytes} → SpellsItem of_bytes t s after → AreBytes s
item_bytes (lone is stops) = elem_bytes is
item_bytes (range {x = x} {y = y} is are le) = range_bytes x y le (elem_bytes are)

items_bytes : {t after : List ℕ} {s : Bytes} → SpellsItems of_bytes t s after → AreBytes s
items_bytes (one_item is) = item_bytes is
items_bytes (more_items {s = s} {r = r} are is) = union_bytes s r (items_bytes are) (item_bytes is)

pub class_bytes : {t after : List ℕ} {s : Bytes} → SpellsClass of_bytes t s after → AreBytes s
class_bytes (of_items first are) = items_bytes are
class_bytes (of_others {s = s} are) = others_bytes s
