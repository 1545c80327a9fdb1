-- Sets and their trees, over bytes and over characters.
use Rattle.std.proofs.Common.{◌≡◌, ◌≢◌, ℕ, ◌<◌, Bool, true, false, not, ◌&&◌, ◌||◌, nat_le, List, Option, Some, None, ap, sym, refl, ◌∙◌, subst, arith}
use Rattle.std.specs.Char.{IsScalar}
use Rattle.std.specs.Ordering.{nat_cmp, eq_by_cmp}
use Rattle.std.specs.Cmp.{nat_cmp_total}
use Rattle.std.specs.FinSet as set
use Rattle.std.specs.FinSet.{contains-union, contains-intersection, contains-difference, contains-insert, contains-empty, contains-retain, nat_cmp-IsAntisymmetric}
use Rattle.std.proofs.lemmas.Bool.{and_parts, true≢false}
use Rattle.std.proofs.lemmas.Bool.Decides.{nat_tests}
use Rattle.span_core.specs.ByteSets.{bytes_between}
use Rattle.span_core.specs.ByteWordLaws.{contains-bytes_between}
use Rattle.spanner_model.specs.Tree.{Tree}
use Rattle.unicode_classes.specs.Properties.{meaning}
use Rattle.formula_parser.specs.Sets.{Bytes, single}
use Rattle.formula_parser.specs.CharSets.{all_characters, AreAllCharacters, those_that_pass, property_set}
use Rattle.formula_parser.specs.Alphabet.{Alphabet, of_bytes, of_characters, members, others_of, dot_set, IsSetTree}
use Rattle.formula_parser.specs.Escapes.{Elem, elem_set}
use Rattle.formula_parser.specs.CharEscapes.{IsCharEscape, narrow, number, property, IsEscapeOf, IsEmptyKind}
use Rattle.formula_parser.specs.Classes.{SpellsClass, of_items, of_others}
use Rattle.formula_parser.specs.Dialect.{Dialect, plain_bytes, with_characters, alphabet_of, tree_in, Speaks, is_empty_kind}
use Rattle.formula_parser.proofs.ClassSets.{or_cases, escape_bytes, counts_none, none_counted, some_counted}

-- a set has no number but those of its alphabet
abbrev pub AreIn : Alphabet → Bytes → Type 0
AreIn of_bytes s = Unit {0}
AreIn of_characters s = AreAllCharacters s

-- a set that has a tree
abbrev pub IsFull : Alphabet → Bytes → Type 0
IsFull of_bytes s = Unit {0}
IsFull of_characters s = s ≢ set.empty

pub full_of : (alphabet : Alphabet) (s : Bytes) → s ≢ set.empty → IsFull alphabet s
full_of of_bytes s some = tt
full_of of_characters s some = some

pub set_tree_is : (lang : Dialect) → Speaks lang → (s : Bytes) → IsFull (alphabet_of lang) s → AreIn (alphabet_of lang) s → IsSetTree (alphabet_of lang) s (tree_in lang s)
set_tree_is plain_bytes speaks s some within = refl
set_tree_is (with_characters trees) speaks s some within = speaks.built s some within

pub set_tree_only : (lang : Dialect) → Speaks lang → (s : Bytes) (f : Tree) → IsFull (alphabet_of lang) s → AreIn (alphabet_of lang) s →
    IsSetTree (alphabet_of lang) s f → f ≡ tree_in lang s
set_tree_only plain_bytes speaks s f some within is = is
set_tree_only (with_characters trees) speaks s f some within is = speaks.only s f some within is

pub kind_is_some : (lang : Dialect) (x : Elem) → (IsEmptyKind (alphabet_of lang) x → ⊥) → IsFull (alphabet_of lang) (elem_set x)
kind_is_some plain_bytes x some = tt
kind_is_some (with_characters trees) x some = some

pub kind_full : (lang : Dialect) (x : Elem) → (IsEmptyKind (alphabet_of lang) x → ⊥) → is_empty_kind lang x ≡ false
kind_full plain_bytes x some = refl
kind_full (with_characters trees) x some = some_counted (elem_set x) some

pub kind_empty : (lang : Dialect) (x : Elem) → IsEmptyKind (alphabet_of lang) x → is_empty_kind lang x ≡ true
kind_empty plain_bytes x none = absurd none
kind_empty (with_characters trees) x none = none_counted (elem_set x) none

pub kind_is_full : (lang : Dialect) (x : Elem) → is_empty_kind lang x ≡ false → (IsEmptyKind (alphabet_of lang) x → ⊥) × IsFull (alphabet_of lang) (elem_set x)
kind_is_full plain_bytes x some = (λ h. h, tt)
kind_is_full (with_characters trees) x some =
    let never : elem_set x ≢ set.empty = λ none. true≢false (sym (none_counted (elem_set x) none) ∙ some) in (never, never)

pub kind_is_empty : (lang : Dialect) (x : Elem) → is_empty_kind lang x ≡ true → IsEmptyKind (alphabet_of lang) x
kind_is_empty plain_bytes x none = absurd (true≢false (sym none))
kind_is_empty (with_characters trees) x none = counts_none (elem_set x) none

pub in_all : (c : ℕ) → set.contains all_characters c ≡ true → IsScalar c
unfolding all_characters
in_all c h =
    or_cases (set.contains (bytes_between 0 0xD7FF) c) (set.contains (bytes_between 0xE000 0x10_FFFF) c) (IsScalar c)
    (λ low. let parts = and_parts (nat_le 0 c) (nat_le c 0xD7FF) (sym (contains-bytes_between 0 0xD7FF c) ∙ low) in let most = parts.1 in grind (arith, nat_tests))
    (λ high.
    let parts = and_parts (nat_le 0xE000 c) (nat_le c 0x10_FFFF) (sym (contains-bytes_between 0xE000 0x10_FFFF c) ∙ high) in
    let least = parts.0 in
    let most = parts.1 in
    grind (arith, nat_tests))
    (sym (contains-union nat_cmp_total (bytes_between 0 0xD7FF) (bytes_between 0xE000 0x10_FFFF) c) ∙ h)

pub all_in : (c : ℕ) → IsScalar c → set.contains all_characters c ≡ true
unfolding all_characters
all_in c is =
    contains-union nat_cmp_total (bytes_between 0 0xD7FF) (bytes_between 0xE000 0x10_FFFF) c
    ∙ ap (λ b. b || set.contains (bytes_between 0xE000 0x10_FFFF) c) (contains-bytes_between 0 0xD7FF c)
    ∙ ap (λ b. (nat_le 0 c && nat_le c 0xD7FF) || b) (contains-bytes_between 0xE000 0x10_FFFF c)
    ∙ grind (arith, nat_tests)

pub members_in : (alphabet : Alphabet) (s : Bytes) → AreIn alphabet (members alphabet s)
members_in of_bytes s = tt
members_in of_characters s = λ c h. in_all c (and_parts (set.contains all_characters c) (set.contains s c) (sym (contains-intersection nat_cmp_total all_characters s c) ∙ h)).0

pub others_in : (alphabet : Alphabet) (s : Bytes) → AreIn alphabet (others_of alphabet s)
others_in of_bytes s = tt
others_in of_characters s = λ c h. in_all c (and_parts (set.contains all_characters c) (not (set.contains s c)) (sym (contains-difference nat_cmp_total all_characters s c) ∙ h)).0

pub class_in : {alphabet : Alphabet} {u after : List ℕ} {s : Bytes} → SpellsClass alphabet u s after → AreIn alphabet s
class_in {alphabet = alphabet} (of_items {s = s} first are) = members_in alphabet s
class_in {alphabet = alphabet} (of_others {s = s} are) = others_in alphabet s

small_scalar : (c : ℕ) → c < 256 → IsScalar c
small_scalar c small = grind (arith, nat_tests)

single_in : (c : ℕ) → IsScalar c → AreAllCharacters (single c)
single_in c is q h =
    let same : (eq_by_cmp nat_cmp q c || false) ≡ true = ap (λ x. eq_by_cmp nat_cmp q c || x) (sym (contains-empty nat_cmp q)) ∙ sym (contains-insert nat_cmp_total set.empty c q) ∙ h in
    let equal : c ≡ q = grind (arith, nat_tests) in
    subst IsScalar equal is

passing_in : (found : Option (ℕ → Bool)) (s : Bytes) → those_that_pass found ≡ Some s → AreAllCharacters s
passing_in None s e = absurd (cc)
passing_in (Some test) s e =
    let same : set.retain all_characters test ≡ s = cc in
    subst AreAllCharacters same (λ c h. in_all c (and_parts (set.contains all_characters c) (test c)
    (sym (contains-retain all_characters test c (λ x equal. ap test (sym (nat_cmp-IsAntisymmetric c x equal)))) ∙ h)).0)

pub property_in : (name : List ℕ) (s : Bytes) → property_set name ≡ Some s → AreAllCharacters s
unfolding property_set
property_in name s e = passing_in (meaning name) s e

char_escape_in : {e : List ℕ} {x : Elem} → IsCharEscape e x → AreAllCharacters (elem_set x)
char_escape_in (narrow is small) = λ c h. small_scalar c (escape_bytes is c h)
char_escape_in (number h {c = c} low high digits scalar) = single_in c scalar
char_escape_in (property name {s = s} all some is) = property_in name s is

pub escape_set_in : (alphabet : Alphabet) (e : List ℕ) (x : Elem) → IsEscapeOf alphabet e x → AreIn alphabet (elem_set x)
escape_set_in of_bytes e x is = tt
escape_set_in of_characters e x is = char_escape_in is

pub dot_in : (alphabet : Alphabet) → AreIn alphabet (dot_set alphabet)
dot_in alphabet = others_in alphabet (single 10)

pub dot_full : (alphabet : Alphabet) → IsFull alphabet (dot_set alphabet)
dot_full of_bytes = tt
dot_full of_characters = λ none.
    let apart : set.contains (single 10) 0 ≡ false = contains-insert nat_cmp_total set.empty 10 0 ∙ contains-empty nat_cmp 0 in
    let has : set.contains (dot_set of_characters) 0 ≡ true =
    contains-difference nat_cmp_total all_characters (single 10) 0 ∙ ap (λ v. v && not (set.contains (single 10) 0)) (all_in 0 refl) ∙ ap not apart in
    true≢false (sym has ∙ ap (λ s. set.contains s 0) none ∙ contains-empty nat_cmp 0)
