-- Classes: the text after the `[`, up to and with the `]`.
use Rattle.std.specs.Prelude.{◌≡◌, ◌≢◌, ℕ, ◌+◌, ◌≤◌, ◌<◌, Bool, true, false, not, ◌==◌, List, [], ◌∷◌, ◌++◌, length, drop, if◌then◌else◌}
use Rattle.std.specs.FinSet as set
use Rattle.span_core.specs.ByteSets.{bytes_between}
use Rattle.std.specs.Char.{encode_utf8}
use Rattle.std.specs.Str.{StartsWithNoChar}
use Rattle.formula_parser.specs.Sets.{Bytes}
use Rattle.formula_parser.specs.Runs.{begins_with, StandsAt}
use Rattle.formula_parser.specs.Escapes.{Elem, byte, elem_set}
use Rattle.formula_parser.specs.Alphabet.{Alphabet, of_bytes, of_characters, members, others_of, IsWide}
use Rattle.formula_parser.specs.CharEscapes.{IsEscapeOf, HasEscapeFault}
use Rattle.formula_parser.specs.declared.fault.FormulaFault.{FormulaFault}
use Rattle.formula_parser.specs.declared.fault.FormulaFault.TheVariants.{Unexpected, Unclosed, BadRange}

-- an element: a byte of 00 to 7F other than ] [ / and the backslash, over characters any character past 7F, or an escape
pub data IsElem (alphabet : Alphabet) : List ℕ → Elem → Type 0 where
  plain : {b : ℕ} → b < 128 → b ≢ 93 → b ≢ 91 → b ≢ 92 → b ≢ 47 → IsElem alphabet (b ∷ []) (byte b)
  wide : {c : ℕ} → IsWide alphabet c → IsElem alphabet (encode_utf8 c) (byte c)
  escaped : {e : List ℕ} {x : Elem} → IsEscapeOf alphabet e x → IsElem alphabet (92 ∷ e) x

-- where this text begins, a byte of 80 or more begins no element: over bytes none ever does
abbrev pub BeginsNoElem : Alphabet → List ℕ → Type 0
BeginsNoElem of_bytes t = Unit {0}
BeginsNoElem of_characters t = StartsWithNoChar t

-- Both are single bytes, or single characters, and they do not fall.
abbrev pub AreRange : Elem → Elem → Type 0
AreRange (byte a) (byte b) = a ≤ b
AreRange x y = ⊥

-- the numbers of a range
abbrev pub range_set : Elem → Elem → Bytes
range_set (byte a) (byte b) = bytes_between a b
range_set x y = set.empty

-- after an element: a `-` that no `]` follows
abbrev pub begins_range : List ℕ → Bool
begins_range [] = false
begins_range (c ∷ t) = if c == 45 then not (begins_with 93 t) else false

-- an item, and what it stands for; `after` is the text that follows
pub data SpellsItem (alphabet : Alphabet) : List ℕ → Bytes → List ℕ → Type 0 where
  lone : {t after : List ℕ} {x : Elem} → IsElem alphabet t x → begins_range after ≡ false → SpellsItem alphabet t (elem_set x) after
  range : {t u after : List ℕ} {x y : Elem} → IsElem alphabet t x → IsElem alphabet u y → AreRange x y → SpellsItem alphabet (t ++ 45 ∷ u) (range_set x y) after

-- items, one or more, and their union
pub data SpellsItems (alphabet : Alphabet) : List ℕ → Bytes → List ℕ → Type 0 where
  one_item : {t after : List ℕ} {s : Bytes} → SpellsItem alphabet t s after → SpellsItems alphabet t s after
  more_items : {t u after : List ℕ} {s r : Bytes} → SpellsItems alphabet t s (u ++ after) → SpellsItem alphabet u r after → SpellsItems alphabet (t ++ u) (set.union s r) after

-- the members of the items, or after a `^` all others, perhaps none
pub data SpellsClass (alphabet : Alphabet) : List ℕ → Bytes → List ℕ → Type 0 where
  of_items : {t after : List ℕ} {s : Bytes} → begins_with 94 t ≡ false → SpellsItems alphabet t s (93 ∷ after) → SpellsClass alphabet (t ++ 93 ∷ []) (members alphabet s) after
  of_others : {t after : List ℕ} {s : Bytes} → SpellsItems alphabet t s (93 ∷ after) → SpellsClass alphabet (94 ∷ (t ++ 93 ∷ [])) (others_of alphabet s) after

abbrev pub IsClass : Alphabet → List ℕ → Bytes → List ℕ → Type 0
IsClass alphabet t s after = SpellsClass alphabet t s after × (s ≢ set.empty)

-- the last thing read in a class: nothing, an element and its place, such an element and the `-` of a range, or a range
pub data Within : Type 0 where
  no_item : Within
  after_elem : Elem → ℕ → Within
  after_dash : Elem → ℕ → Within
  after_range : Within

-- what stands before the text t, and does not make it the rest of a range
abbrev pub BeginsItem : Within → List ℕ → Type 0
BeginsItem no_item t = Unit {0}
BeginsItem (after_elem x q) t = begins_range t ≡ false
BeginsItem (after_dash x q) t = ⊥
BeginsItem after_range t = Unit {0}

-- The bytes from the `[` at `from` to before p end so.
pub data ReadsClass (alphabet : Alphabet) (text : List ℕ) (from : ℕ) : ℕ → Within → Type 0 where
  bracket_read : begins_with 94 (drop (from + 1) text) ≡ false → ReadsClass alphabet text from (from + 1) no_item
  negation_read : StandsAt text (from + 1) (94 ∷ []) → ReadsClass alphabet text from (from + 2) no_item
  elem_read : {p : ℕ} {w : Within} {u : List ℕ} {x : Elem} →
      ReadsClass alphabet text from p w → BeginsItem w (drop p text) → IsElem alphabet u x → StandsAt text p u → ReadsClass alphabet text from (p + length u) (after_elem x p)
  dash_read : {p q : ℕ} {x : Elem} →
      ReadsClass alphabet text from p (after_elem x q) → begins_range (drop p text) ≡ true → ReadsClass alphabet text from (p + 1) (after_dash x q)
  range_read : {p q : ℕ} {u : List ℕ} {x y : Elem} →
      ReadsClass alphabet text from p (after_dash x q) → IsElem alphabet u y → StandsAt text p u → AreRange x y → ReadsClass alphabet text from (p + length u) after_range

-- The fault that is met first in the class whose `[` stands at `from`.
pub data HasClassFault (alphabet : Alphabet) (text : List ℕ) (from : ℕ) : FormulaFault → Type 0 where
  nothing_in_class : {p : ℕ} → ReadsClass alphabet text from p no_item → StandsAt text p (93 ∷ []) → HasClassFault alphabet text from (Unexpected p)
  bracket_in_class : {p : ℕ} {w : Within} → ReadsClass alphabet text from p w → StandsAt text p (91 ∷ []) → HasClassFault alphabet text from (Unexpected p)
  wide_in_class : {p b : ℕ} {w : Within} → ReadsClass alphabet text from p w → StandsAt text p (b ∷ []) → 128 ≤ b → BeginsNoElem alphabet (drop p text) →
      HasClassFault alphabet text from (Unexpected p)
  slash_in_class : {p : ℕ} {w : Within} → ReadsClass alphabet text from p w → StandsAt text p (47 ∷ []) → HasClassFault alphabet text from (Unclosed from)
  text_ends_in_class : {p : ℕ} {w : Within} → ReadsClass alphabet text from p w → drop p text ≡ [] → HasClassFault alphabet text from (Unclosed from)
  escape_in_class : {p : ℕ} {w : Within} {e : FormulaFault} → ReadsClass alphabet text from p w → HasEscapeFault alphabet text p e → HasClassFault alphabet text from e
  bad_range : {p q : ℕ} {u : List ℕ} {x y : Elem} → ReadsClass alphabet text from p (after_dash x q) → IsElem alphabet u y → StandsAt text p u →
      (AreRange x y → ⊥) → HasClassFault alphabet text from (BadRange q)
  empty_class : {t after : List ℕ} → drop (from + 1) text ≡ t ++ after → SpellsClass alphabet t set.empty after → HasClassFault alphabet text from (BadRange from)
