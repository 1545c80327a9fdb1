-- The tree of a set from the trees of its texts of each length.
use Rattle.std.proofs.Common.{◌≡◌, ℕ, suc, ◌+◌, ◌-◌, ◌*◌, ◌/◌, ◌^◌, ◌<◌, ◌≤◌, ◌⊎◌, ◌↔◌, List, [], ◌∷◌, ◌++◌, length, refl, sym, ap, subst, inl, inr, arith, ◌∙◌}
use Rattle.std.specs.Char.{encode_utf8}
use Rattle.std.proofs.lemmas.Bool.{cases_lt}
use Rattle.span_core.specs.Intervals.{Covers, AreApart}
use Rattle.spanner_model.specs.Tree.{Tree}
use Rattle.unicode_classes.specs.Texts.{AreCharacters, IsPartOf}
use Rattle.unicode_classes.specs.Joined.{digits, IsBlockText}
use Rattle.unicode_classes.specs.ClassTree.{IsTreeOf, IsLongText, AreArms, no_length, no_text, some_text}
use Rattle.unicode_classes.specs.Arms.{IsWithBlock}
use Rattle.unicode_classes.proofs.RangeLaws.{Ranges, scalar_below}
use Rattle.std.proofs.Math.Nat.{div-lt_iff_lt-mul}
use Rattle.unicode_classes.proofs.DigitLaws.{has_digits}
use Rattle.unicode_classes.proofs.UnitLaws.{unit_positive}
use Rattle.unicode_classes.proofs.TreeFits.{length-digits}
use Rattle.unicode_classes.proofs.PlainLaws.{some_number}
use Rattle.unicode_classes.proofs.TreeLaws.{tree_same}

none_behind : (ranges : Ranges) (ns : List ℕ) (arms : List Tree) (n : ℕ) → ((w : List ℕ) → IsLongText ranges n w → ⊥) → AreArms ranges ns arms → AreArms ranges (ns ++ n ∷ []) arms
none_behind ranges _ _ n none no_length = no_text none no_length
none_behind ranges _ arms n none (no_text {n = m} {ns} other rest) = no_text other (none_behind ranges ns arms n none rest)
none_behind ranges _ _ n none (some_text {n = m} {ns} {f} {arms} w is tree rest) = some_text w is tree (none_behind ranges ns arms n none rest)

some_behind : (ranges : Ranges) (ns : List ℕ) (arms : List Tree) (n : ℕ) (f : Tree) (w : List ℕ) → IsLongText ranges n w →
    IsTreeOf n (IsLongText ranges n) f → AreArms ranges ns arms → AreArms ranges (ns ++ n ∷ []) (arms ++ f ∷ [])
some_behind ranges _ _ n f w is tree no_length = some_text w is tree no_length
some_behind ranges _ arms n f w is tree (no_text {n = m} {ns} other rest) = no_text other (some_behind ranges ns arms n f w is tree rest)
some_behind ranges _ _ n f w is tree (some_text {n = m} {ns} {f = g} {arms} v isv t rest) = some_text v isv t (some_behind ranges ns arms n f w is tree rest)

-- the characters from `from` on and below `end` are those whose texts have so many bytes after the first, and these are digits after the base
pub record IsBlock (base tails from end : ℕ) : Type 0 where
  pub text : (c : ℕ) → from ≤ c → c < end → encode_utf8 c ≡ digits base tails c
  pub long : (c : ℕ) → c < 1114112 → length (encode_utf8 c) ≡ suc tails → (from ≤ c) × (c < end)

-- the number of bytes of a text
lengths : (c : ℕ) → ((c < 128) × (length (encode_utf8 c) ≡ 1)) ⊎
    (((128 ≤ c) × (c < 2048) × (length (encode_utf8 c) ≡ 2)) ⊎ (((2048 ≤ c) × (c < 65536) × (length (encode_utf8 c) ≡ 3)) ⊎ ((65536 ≤ c) × (length (encode_utf8 c) ≡ 4))))
lengths c =
    let d = has_digits c in
    elim (cases_lt c 128) [
      | inl a ↦ inl (a, ap length (d.one a) ∙ length-digits 0 0 c)
      | inr a ↦ elim (cases_lt c 2048) [
        | inl b ↦ inr (inl (a, b, ap length (d.two a b) ∙ length-digits 192 1 c))
        | inr b ↦ elim (cases_lt c 65536) [
          | inl e ↦ inr (inr (inl (b, e, ap length (d.three b e) ∙ length-digits 224 2 c)))
          | inr e ↦ inr (inr (inr (e, ap length (d.four e) ∙ length-digits 240 3 c)))
        ]
      ]
    ]

pub block_one : IsBlock 0 0 0 128
block_one = record {
  text = λ c l m. (has_digits c).one m;
  long = λ c l e. elim (lengths c) [ inl a ↦ (omega arith, a.0) | inr r ↦ absurd (elim r [ inl b ↦ omega (arith, b.2) | inr s ↦ elim s [ inl b ↦ omega (arith, b.2) | inr b ↦ omega (arith, b.1) ] ]) ];
}

pub block_two : IsBlock 192 1 128 2048
block_two = record {
  text = λ c l m. (has_digits c).two l m;
  long = λ c l e. elim (lengths c) [
    | inl a ↦ absurd (omega (arith, a.1))
    | inr r ↦
        elim r [ inl b ↦ (b.0, b.1) | inr s ↦ absurd (elim s [ inl b ↦ omega (arith, b.2) | inr b ↦ omega (arith, b.1) ]) ]
  ];
}

pub block_three : IsBlock 224 2 2048 65536
block_three = record {
  text = λ c l m. (has_digits c).three l m;
  long = λ c l e. elim (lengths c) [
    | inl a ↦ absurd (omega (arith, a.1))
    | inr r ↦
        elim r [ inl b ↦ absurd (omega (arith, b.2)) | inr s ↦ elim s [ inl b ↦ (b.0, b.1) | inr b ↦ absurd (omega (arith, b.1)) ] ]
  ];
}

pub block_four : IsBlock 240 3 65536 1114112
block_four = record {
  text = λ c l m. (has_digits c).four l;
  long = λ c l e. elim (lengths c) [
    | inl a ↦ absurd (omega (arith, a.1))
    | inr r ↦
        elim r [ inl b ↦ absurd (omega (arith, b.2)) | inr s ↦ elim s [ inl b ↦ absurd (omega (arith, b.2)) | inr b ↦ (b.0, l) ] ]
  ];
}

-- the set has the numbers of the ranges from `from` on and below `end`
abbrev pub IsPart : Ranges → ℕ → ℕ → Ranges → Type 0
IsPart ranges from end part = (q : ℕ) → Covers part q ↔ IsPartOf ranges from end (0 + q)

texts_of : (base tails from end : ℕ) (ranges part : Ranges) → AreCharacters ranges → IsBlock base tails from end → IsPart ranges from end part →
    (w : List ℕ) → IsBlockText base tails part w ↔ IsLongText ranges tails w
texts_of base tails from end ranges part are block is w = (
  λ t. (let p = (is t.0).0 t.1 in
      let covers : Covers ranges t.0 = subst (Covers ranges) (omega arith) p.0 in
      let e : encode_utf8 t.0 ≡ w = block.text t.0 (omega (arith, p.1)) (omega (arith, p.2)) ∙ t.2 in
      ((t.0, covers, e), ap length (sym t.2) ∙ length-digits base tails t.0)),
  λ h. (let c = h.0 in
      let l = block.long c.0 (scalar_below c.0 (are c.0 c.1)) (ap length c.2 ∙ h.1) in
      (c.0, (is c.0).1 (subst (Covers ranges) (omega arith) c.1, omega (arith, l.0), omega (arith, l.1)), sym (block.text c.0 l.0 l.1) ∙ c.2)),
)

pub next_arm : (base tails from end : ℕ) (ranges part : Ranges) (ns : List ℕ) (arms new : List Tree) → AreCharacters ranges → AreApart part → IsBlock base tails from end → IsPart ranges from end part
    → IsWithBlock base tails part arms new → AreArms ranges ns arms → AreArms ranges (ns ++ tails ∷ []) new
next_arm base tails from end ranges part ns arms new are apart block is (inl none) old =
    subst (AreArms ranges (ns ++ tails ∷ [])) (sym none.1) (none_behind ranges ns arms tails (λ w h. (let t = (texts_of base tails from end ranges part are block is w).1 h in
    subst (λ (rs : Ranges). Covers rs t.0) none.0 t.1)) old)
next_arm base tails from end ranges part ns arms new are apart block is (inr some) old =
    let v = some_number part apart some.0 in
    let w = digits base tails v.0 in
    let text = (texts_of base tails from end ranges part are block is w).0 (v.0, v.1, refl) in
    let tree = tree_same tails (IsBlockText base tails part) (IsLongText ranges tails) some.1 (texts_of base tails from end ranges part are block is) some.2 in
    subst (AreArms ranges (ns ++ tails ∷ [])) (sym some.3) (some_behind ranges ns arms tails some.1 w text tree old)

-- the numbers of a part have so many digits, and the first of them makes a byte
pub part_few : (tails from end : ℕ) (ranges part : Ranges) → IsPart ranges from end part → end ≤ 64 * 64 ^ tails → (v : ℕ) → Covers part v → v < 64 * 64 ^ tails
part_few tails from end ranges part is l v c = (let p = (is v).0 c in omega (arith, p.2))

pub part_bytes : (base tails from end : ℕ) (ranges part : Ranges) → IsPart ranges from end part → base < 256 → end ≤ (256 - base) * 64 ^ tails → (v : ℕ) → Covers part v → base + v / 64 ^ tails < 256
part_bytes base tails from end ranges part is b l v c =
    let p = (is v).0 c in
    let d : v / 64 ^ tails < 256 - base = (div-lt_iff_lt-mul {k = 64 ^ tails} {x = v} {y = 256 - base} (unit_positive tails)).1 (omega (arith, p.2, l)) in
    omega arith
