-- What the code's sets of characters hold.
use Rattle.std.proofs.Common.{◌≡◌, ◌≢◌, ℕ, ◌+◌, ◌*◌, ◌<◌, ◌≤◌, Bool, true, false, not, ◌&&◌, ◌||◌, nat_le, List, [], ◌∷◌, Option, Some, None, ap, sym, refl, ◌∙◌, arith, ◌⊎◌, inl, inr, if◌then◌else◌}
use Rattle.std.specs.Prelude.{◌↔◌, IsTrue}
use Rattle.std.specs.Char.{IsScalar}
use Rattle.std.specs.Ordering.{nat_cmp, eq_by_cmp}
use Rattle.std.specs.Cmp.{nat_cmp_total}
use Rattle.std.specs.FinSet as set
use Rattle.std.specs.FinSet.{contains-union, contains-intersection, contains-difference, contains-insert, contains-empty, contains-retain, nat_cmp-IsAntisymmetric}
use Rattle.std.proofs.lemmas.Bool.{and_parts, cases_lt, true≢false, or_left, or_right}
use Rattle.std.proofs.lemmas.Bool.Decides.{nat_tests}
use Rattle.span_core.specs.ByteSets.{bytes_between}
use Rattle.span_core.specs.ByteWordLaws.{contains-bytes_between}
use Rattle.span_core.specs.Intervals.{Covers, AreApart}
use Rattle.spanner_model.specs.Tree.{Tree}
use Rattle.unicode_classes.specs.ClassTree.{IsClassTree}
use Rattle.unicode_classes.specs.Properties.{meaning, IsProperty, IsPropertyName}
use Rattle.formula_parser.specs.Sets.{Bytes, single}
use Rattle.formula_parser.specs.CharSets.{all_characters, AreAllCharacters, AreRangesOf, those_that_pass, property_set}
use Rattle.formula_parser.specs.CharView.{Holds, HoldsBelow, scalar_of}
use Rattle.formula_parser.specs.CharEscapes.{hex_after}
use Rattle.formula_parser.specs.Escapes.{hex_value}
use Rattle.formula_parser.specs.Dialect.{AreTrees, is_scalar}
use Rattle.formula_parser.proofs.ClassSets.{or_cases}
use Rattle.formula_parser.proofs.SetTrees.{all_in}
use Rattle.formula_parser.proofs.AllTrees.{none_of_ranges}

-- the set after more numbers were added
abbrev pub IsJoined : List (ℕ × ℕ) → List (ℕ × ℕ) → (ℕ → Type 0) → Type 0
IsJoined new old More = (c : ℕ) → Covers new c ↔ (Covers old c ⊎ More c)

abbrev pub IsCharBetween : ℕ → ℕ → ℕ → Type 0
IsCharBetween low high c = IsScalar c × (low ≤ c) × (c ≤ high)

pub holds_none : Holds [] set.empty
holds_none c = (λ h. absurd h, λ h. absurd (true≢false (sym h.1 ∙ contains-empty nat_cmp c)))

pub has_first : (s t : Bytes) (c : ℕ) → set.contains s c ≡ true → set.contains (set.union s t) c ≡ true
has_first s t c e = contains-union nat_cmp_total s t c ∙ or_left (set.contains s c) (set.contains t c) e

has_second : (s t : Bytes) (c : ℕ) → set.contains t c ≡ true → set.contains (set.union s t) c ≡ true
has_second s t c e = contains-union nat_cmp_total s t c ∙ or_right (set.contains s c) (set.contains t c) e

pub holds_more : (new old : List (ℕ × ℕ)) (s t : Bytes) (More : ℕ → Type 0) → Holds old s → ((c : ℕ) → More c ↔ (IsScalar c × IsTrue (set.contains t c))) →
    IsJoined new old More → Holds new (set.union s t)
holds_more new old s t More holds more joined c = (
  λ h. elim ((joined c).0 h) [
    | inl k ↦ (let v = (holds c).0 k in (v.0, has_first s t c v.1))
    | inr k ↦ (let v = (more c).0 k in (v.0, has_second s t c v.1))
  ],
  λ h. or_cases (set.contains s c) (set.contains t c) (Covers new c)
      (λ e. (joined c).1 (inl ((holds c).1 (h.0, e)))) (λ e. (joined c).1 (inr ((more c).1 (h.0, e))))
      (sym (contains-union nat_cmp_total s t c) ∙ h.1),
)

pub holds_union : (new old other : List (ℕ × ℕ)) (s t : Bytes) → Holds old s → Holds other t → IsJoined new old (Covers other) → Holds new (set.union s t)
holds_union new old other s t holds more joined = holds_more new old s t (Covers other) holds more joined

between_is : (low high c : ℕ) → IsCharBetween low high c ↔ (IsScalar c × IsTrue (set.contains (bytes_between low high) c))
between_is low high c = (
  λ h. (h.0, contains-bytes_between low high c ∙ (let a = h.1 in let b = h.2 in grind (arith, nat_tests))),
  λ h. (let parts = and_parts (nat_le low c) (nat_le c high) (sym (contains-bytes_between low high c) ∙ h.1) in
      let a = parts.0 in
      let b = parts.1 in
      (h.0, grind (arith, nat_tests), grind (arith, nat_tests))),
)

pub holds_range : (new old : List (ℕ × ℕ)) (s : Bytes) (low high : ℕ) → Holds old s → IsJoined new old (IsCharBetween low high) →
    Holds new (set.union s (bytes_between low high))
holds_range new old s low high holds joined = holds_more new old s (bytes_between low high) (IsCharBetween low high) holds (between_is low high) joined

single_is : (c q : ℕ) → set.contains (single c) q ≡ true → q ≡ c
single_is c q h =
    let same : (eq_by_cmp nat_cmp q c || false) ≡ true =
    ap (λ x. eq_by_cmp nat_cmp q c || x) (sym (contains-empty nat_cmp q)) ∙ sym (contains-insert nat_cmp_total set.empty c q) ∙ h in
    grind (arith, nat_tests)

pub single_has : (c : ℕ) → set.contains (single c) c ≡ true
single_has c = contains-insert nat_cmp_total set.empty c c ∙ grind (arith, nat_tests)

pub holds_single : (new old : List (ℕ × ℕ)) (c : ℕ) → old ≡ [] → IsJoined new old (IsCharBetween c c) → Holds new (set.insert set.empty c)
holds_single new old c none joined q = (
  λ h. elim ((joined q).0 h) [
    | inl k ↦ absurd (rw none at k)
    | inr k ↦ (k.0, (let same : c ≡ q = omega (arith, k.1, k.2) in rw (← same) (single_has c)))
  ],
  λ h. (let same = single_is c q h.1 in (joined q).1 (inr (h.0, omega (arith, same), omega (arith, same)))),
)

pub holds_others : (new old : List (ℕ × ℕ)) (s : Bytes) → Holds old s → ((c : ℕ) → Covers new c ↔ (IsScalar c × (Covers old c → ⊥))) →
    Holds new (set.difference all_characters s)
holds_others new old s holds others c = (
  λ h. (let v = (others c).0 h in (v.0, contains-difference nat_cmp_total all_characters s c ∙ both (set.contains s c) refl v.0 v.1)),
  λ h. (others c).1 (
    h.0,
    λ k. (let v = (holds c).0 k in
        let parts = and_parts (set.contains all_characters c) (not (set.contains s c)) (sym (contains-difference nat_cmp_total all_characters s c) ∙ h.1) in
        true≢false (sym parts.1 ∙ ap not v.1)),
  ),
)
  where
    both : (b : Bool) → set.contains s c ≡ b → IsScalar c → (Covers old c → ⊥) → (set.contains all_characters c && not (set.contains s c)) ≡ true
    both true e scalar never = absurd (never ((holds c).1 (scalar, e)))
    both false e scalar never = ap (λ k. k && not (set.contains s c)) (all_in c scalar) ∙ ap not e

pub holds_members : (ranges : List (ℕ × ℕ)) (s : Bytes) → Holds ranges s → Holds ranges (set.intersection all_characters s)
holds_members ranges s holds c = (
  λ h. (let v = (holds c).0 h in (v.0, contains-intersection nat_cmp_total all_characters s c ∙ ap (λ k. k && set.contains s c) (all_in c v.0) ∙ v.1)),
  λ h. (holds c).1 (h.0, (and_parts (set.contains all_characters c) (set.contains s c) (sym (contains-intersection nat_cmp_total all_characters s c) ∙ h.1)).1),
)

pub ranges_are : (ranges : List (ℕ × ℕ)) (s : Bytes) → Holds ranges s → AreAllCharacters s → AreApart ranges → AreRangesOf s ranges
ranges_are ranges s holds all apart = record { apart = apart; same = λ c. (λ h. ((holds c).0 h).1, λ h. (holds c).1 (all c h, h)) }

-- the tree of a set
pub tree_is : (trees : Bytes → Tree) → AreTrees trees → (ranges : List (ℕ × ℕ)) (s : Bytes) (f : Tree) → Holds ranges s → AreAllCharacters s → AreApart ranges →
    ¬ (ranges ≡ []) → IsClassTree ranges f → ¬ (s ≡ set.empty) × (f ≡ trees s)
tree_is trees are ranges s f holds all apart some is =
    let r = ranges_are ranges s holds all apart in
    let full : s ≢ set.empty = λ none. some (no_ranges ranges s r none) in
    (full, are.only s f full all (ranges, r, is))
  where
    no_ranges : (ranges : List (ℕ × ℕ)) (s : Bytes) → AreRangesOf s ranges → s ≡ set.empty → ranges ≡ []
    no_ranges [] s r none = refl
    no_ranges (part ∷ rest) s r none =
        let has = (r.same part.0).0 (inl (omega arith, r.apart.0)) in
        absurd (true≢false (sym has ∙ ap (λ t. set.contains t part.0) none ∙ contains-empty nat_cmp part.0))

pub none_is : (ranges : List (ℕ × ℕ)) (s : Bytes) → Holds ranges s → AreAllCharacters s → AreApart ranges → ranges ≡ [] → s ≡ set.empty
none_is ranges s holds all apart none = none_of_ranges s ranges (ranges_are ranges s holds all apart) none

-- the set of a property
pub property_is : (name : List ℕ) (ranges : List (ℕ × ℕ)) → IsProperty name ranges → (s : Bytes) × (property_set name ≡ Some s) × Holds ranges s
unfolding property_set
property_is name ranges (test, known, apart, covers) =
    let s = set.retain all_characters test in
    let tells : (c : ℕ) → set.contains s c ≡ (set.contains all_characters c && test c) = λ c. contains-retain all_characters test c (λ x equal. ap test (sym (nat_cmp-IsAntisymmetric c x equal))) in (
      s,
      ap those_that_pass known,
      λ c. (
        λ h. (let v = (covers c).0 h in (v.0, tells c ∙ ap (λ k. k && test c) (all_in c v.0) ∙ v.1)),
        λ h. (covers c).1 (h.0, (and_parts (set.contains all_characters c) (test c) (sym (tells c) ∙ h.1)).1),
      ),
    )

pub no_property_is : (name : List ℕ) → ¬ IsPropertyName name → property_set name ≡ None
unfolding property_set
no_property_is name never = by (meaning name) refl
  where
    by : (found : Option (ℕ → Bool)) → meaning name ≡ found → those_that_pass (meaning name) ≡ None
    by None e = ap those_that_pass e
    by (Some test) e = absurd (never (test, e))

-- no number that large is a character's
pub too_large : (v : ℕ) (t : List ℕ) → 0x11_0000 ≤ v → scalar_of (hex_after v t) ≡ None
too_large v [] big = let no : is_scalar v ≡ false = grind (arith, nat_tests) in ap (λ b. if b then Some v else None) no
too_large v (c ∷ t) big = by (hex_value c) (λ x. too_large (16 * v + x) t (omega (arith, big)))
  where
    by : (found : Option ℕ) → ((x : ℕ) → scalar_of (hex_after (16 * v + x) t) ≡ None) →
        scalar_of (elim found [ None ↦ None | Some x ↦ hex_after (16 * v + x) t ]) ≡ None
    by None again = refl
    by (Some x) again = again x

-- sets of bytes, byte by byte
pub takes_byte : (new old : List (ℕ × ℕ)) (b : ℕ) (s : Bytes) → b < 256 → set.contains s b ≡ true → HoldsBelow old b s → IsJoined new old (IsCharBetween b b) →
    HoldsBelow new (b + 1) s
takes_byte new old b s small has holds joined c = (
  λ h. elim ((joined c).0 h) [
    | inl k ↦ (let v = (holds c).0 k in (omega (arith, v.0), v.1))
    | inr k ↦ (omega (arith, k.2), (let same : b ≡ c = omega (arith, k.1, k.2) in rw (← same) has))
  ],
  λ h. elim (cases_lt c b) [
    | inl less ↦ (joined c).1 (inl ((holds c).1 (less, h.1)))
    | inr more ↦ (let same : c ≡ b = omega (arith, more, h.0) in (joined c).1 (inr (byte_scalar c (omega (arith, small, same)), omega (arith, same), omega (arith, same))))
  ],
)
  where
    byte_scalar : (c : ℕ) → c < 256 → IsScalar c
    byte_scalar c small = grind (arith, nat_tests)

pub leaves_byte : (old : List (ℕ × ℕ)) (b : ℕ) (s : Bytes) → set.contains s b ≡ false → HoldsBelow old b s → HoldsBelow old (b + 1) s
leaves_byte old b s none holds c = (
  λ h. (let v = (holds c).0 h in (omega (arith, v.0), v.1)),
  λ h. elim (cases_lt c b) [
    | inl less ↦ (holds c).1 (less, h.1)
    | inr more ↦ (let same : c ≡ b = omega (arith, more, h.0) in absurd (true≢false (sym h.1 ∙ ap (set.contains s) same ∙ none)))
  ],
)
