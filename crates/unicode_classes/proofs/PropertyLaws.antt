-- Names that are looked up, and ranges of a table of Unicode that are gone through.
use Rattle.std.proofs.Common.{◌≡◌, ℕ, ◌+◌, ◌<◌, ◌≤◌, ◌⊎◌, ◌↔◌, Bool, true, false, ◌&&◌, List, [], ◌∷◌, length, get_or, drop, map, Result, Ok, Err, Some, None, refl, sym, ap, inl, inr, arith, ◌∙◌}
use Rattle.std.specs.Prelude.{if◌then◌else◌, nat_le, ◌==◌, IsTrue, IfOk}
use Rattle.std.specs.Char.{IsScalar}
use Rattle.std.proofs.lemmas.Bool.{and_parts, and_from, or_cases, or_left, or_right, leb-true, le-leb, eqb-true, eq-eqb, true≢false}
use Rattle.std.proofs.lemmas.List.{drop_more}
use Rattle.std.proofs.Math.ListN.{drop_of_length-le}
use Rattle.span_core.specs.Intervals.{Covers}
use Rattle.span_core.specs.IntervalSteps.{StartUpTo}
use Rattle.unicode.specs.Rows.{in_ranges, ranges_rise, is_range, HasExactly, IsRising}
use Rattle.unicode.specs.Steps.{is_between}
use Rattle.unicode_classes.specs.Properties.{look_up, names, property_of, has_property, test_of, meaning, IsPropertyName, IsProperty}
use Rattle.unicode_classes.specs.declared.properties.Meaning.{Meaning}
use Rattle.unicode_classes.specs.declared.properties.Named.{Named}
use Rattle.unicode_classes.proofs.RangeLaws.{Ranges, scalar_below}
use Rattle.unicode_classes.proofs.OneRanges.{one_ranges}
use Rattle.unicode_classes.proofs.TreesAreOne.{same_truth}

-- ---- names

-- what is looked up is not among the entries that were gone through
abbrev pub IsLeft : List Named → List ℕ → ℕ → Type 0
IsLeft all name k = look_up (map property_of (drop k all)) name ≡ look_up (map property_of all) name

-- ---- ranges of a table

-- the set has the characters of the ranges that were gone through, and those that are left begin at `next` or later
pub record AreGathered (all set : Ranges) (k next : ℕ) : Type 0 where
  pub rise : ranges_rise next (drop k all) ≡ true
  pub starts : (at : ℕ) → next ≤ at → StartUpTo set at
  pub covered : (c : ℕ) → (Covers set c ⊎ (IsScalar c × IsTrue (in_ranges (drop k all) c))) ↔ (IsScalar c × IsTrue (in_ranges all c))

pub gathered_first : (all : Ranges) → IsRising all → AreGathered all [] 0 0
gathered_first all rise = record { rise = rise; starts = λ at l. tt; covered = λ c. (λ s. elim s [ inl none ↦ absurd none | inr h ↦ h ], λ h. inr h) }

pub record IsNext (p : ℕ × ℕ) (next : ℕ) (rest : Ranges) : Type 0 where
  pub low : next ≤ p.0
  pub up : p.0 ≤ p.1
  pub rise : ranges_rise (p.1 + 1) rest ≡ true

next_of : (p : ℕ × ℕ) (rest : Ranges) (next : ℕ) → ranges_rise next (p ∷ rest) ≡ true → IsNext p next rest
unfolding ranges_rise
next_of p rest next h =
    let a = and_parts (nat_le next p.0 && is_range p) (ranges_rise (p.1 + 1) rest) h in
    let b = and_parts (nat_le next p.0) (is_range p) a.0 in
    let d = and_parts (nat_le p.0 p.1) (nat_le p.1 1114111) b.1 in
    record { low = leb-true next p.0 b.0; up = leb-true p.0 p.1 d.0; rise = a.1 }

pub gathered_next : (all set : Ranges) (k next : ℕ) → k < length all → AreGathered all set k next → IsNext (get_or all k (0, 0)) next (drop (k + 1) all)
gathered_next all set k next l old = next_of (get_or all k (0, 0)) (drop (k + 1) all) next (rw (← drop_more all k (0, 0) l) old.rise)

in_next : (p : ℕ × ℕ) (rest : Ranges) (c : ℕ) → IsTrue (in_ranges (p ∷ rest) c) ↔ (((p.0 ≤ c) × (c ≤ p.1)) ⊎ IsTrue (in_ranges rest c))
unfolding in_ranges
in_next p rest c = (
  λ h. elim (or_cases (nat_le p.0 c && nat_le c p.1) (in_ranges rest c) h) [
    | inl a ↦ (let b = and_parts (nat_le p.0 c) (nat_le c p.1) a in inl (leb-true p.0 c b.0, leb-true c p.1 b.1))
    | inr r ↦ inr r
  ],
  λ s. elim s [
    | inl w ↦ or_left (nat_le p.0 c && nat_le c p.1) (in_ranges rest c) (and_from (nat_le p.0 c) (nat_le c p.1) (le-leb p.0 c w.0) (le-leb c p.1 w.1))
    | inr r ↦ or_right (nat_le p.0 c && nat_le c p.1) (in_ranges rest c) r
  ],
)

in_left : (all : Ranges) (k c : ℕ) → k < length all → IsTrue (in_ranges (drop k all) c) ↔ ((((get_or all k (0, 0)).0 ≤ c) × (c ≤ (get_or all k (0, 0)).1)) ⊎ IsTrue (in_ranges (drop (k + 1) all) c))
in_left all k c l =
    rw (drop_more all k (0, 0) l)
    (in_next (get_or all k (0, 0)) (drop (k + 1) all) c)

pub gathered_more : (all set new : Ranges) (k next : ℕ) → k < length all
    → ((c : ℕ) → Covers new c ↔ (Covers set c ⊎ (IsScalar c × ((get_or all k (0, 0)).0 ≤ c) × (c ≤ (get_or all k (0, 0)).1))))
    → ((at : ℕ) → (get_or all k (0, 0)).0 ≤ at → (get_or all k (0, 0)).1 ≤ at → StartUpTo new at)
    → AreGathered all set k next → AreGathered all new (k + 1) ((get_or all k (0, 0)).1 + 1)
gathered_more all set new k next l added starts old =
    let n = gathered_next all set k next l old in record {
      rise = n.rise;
      starts = λ at g. starts at (omega (arith, n.up)) (omega arith);
      covered = λ c. (
        λ s. elim s [
          | inl h ↦ elim ((added c).0 h) [
            | inl o ↦ (old.covered c).0 (inl o)
            | inr a ↦ (old.covered c).0 (inr (a.0, (in_left all k c l).1 (inl (a.1, a.2))))
          ]
          | inr r ↦ (old.covered c).0 (inr (r.0, (in_left all k c l).1 (inr r.1)))
        ],
        λ h. elim ((old.covered c).1 h) [
          | inl o ↦ inl ((added c).1 (inl o))
          | inr r ↦ elim ((in_left all k c l).0 r.1) [
            | inl w ↦ inl ((added c).1 (inr (r.0, w.0, w.1)))
            | inr t ↦ inr (r.0, t)
          ]
        ],
      );
    }

none_in : (c : ℕ) → IsTrue (in_ranges [] c) → ⊥
unfolding in_ranges
none_in c h = true≢false (sym h)

pub gathered_end : (all set : Ranges) (k next : ℕ) (test : ℕ → Bool) → length all ≤ k → HasExactly all test → AreGathered all set k next → (c : ℕ) → Covers set c ↔ (IsScalar c × IsTrue (test c))
gathered_end all set k next test l exactly old c = (
  λ h. (let r = (old.covered c).0 (inl h) in (r.0, sym (exactly c (omega (arith, scalar_below c r.0))) ∙ r.1)),
  λ r. elim ((old.covered c).1 (r.0, exactly c (omega (arith, scalar_below c r.0)) ∙ r.1)) [
    | inl h ↦ h
    | inr t ↦ absurd (none_in c (rw (← drop_of_length-le all l) t.1))
  ],
)

-- ---- tests

pub between_same : (v n : ℕ) → is_between v v n ≡ (n == v)
between_same v n = same_truth (is_between v v n) (n == v) (
  λ h. (let a = and_parts (nat_le v n) (nat_le n v) h in let l = leb-true v n a.0 in let m = leb-true n v a.1 in eq-eqb n v (omega arith)),
  λ h. (let e = eqb-true n v h in and_from (nat_le v n) (nat_le n v) (le-leb v n (omega arith)) (le-leb n v (omega arith))),
)

pub between_one : (b : Bool) → is_between 1 1 (if b then 1 else 0) ≡ b
between_one true = refl
between_one false = refl

pub same_test : (set : Ranges) (p q : ℕ → Bool) → ((c : ℕ) → c ≤ 1114111 → p c ≡ q c) → ((c : ℕ) → Covers set c ↔ (IsScalar c × IsTrue (p c))) → (c : ℕ) → Covers set c ↔ (IsScalar c × IsTrue (q c))
same_test set p q same h c = (
  λ x. (let r = (h c).0 x in (r.0, sym (same c (omega (arith, scalar_below c r.0))) ∙ r.1)),
  λ r. (h c).1 (r.0, same c (omega (arith, scalar_below c r.0)) ∙ r.1),
)

-- the set that a call gives, where it gives one
pub given_test : {E : Type 0} (r : Result Ranges E) (p q : ℕ → Bool) → ((c : ℕ) → c ≤ 1114111 → p c ≡ q c) →
    IfOk r (λ s. (c : ℕ) → Covers s c ↔ (IsScalar c × IsTrue (p c))) → IfOk r (λ s. (c : ℕ) → Covers s c ↔ (IsScalar c × IsTrue (q c)))
given_test (Ok s) p q same h = same_test s p q same h
given_test (Err e) p q same h = h

-- ---- a name means one set

pub one_property : (name : List ℕ) (r s : Ranges) → IsProperty name r → IsProperty name s → r ≡ s
one_property name r s p q =
    let same : p.0 ≡ q.0 = some_is (sym p.1 ∙ q.1) in
    let other : (c : ℕ) → Covers s c ↔ (IsScalar c × IsTrue (p.0 c)) = rw (← same) at q.3 in
    one_ranges r s p.2 q.2 (λ c. (λ h. (other c).1 ((p.3 c).0 h), λ h. (p.3 c).1 ((other c).0 h)))
  where
    some_is : {m n : ℕ → Bool} → Some m ≡ Some n → m ≡ n
    some_is e = cc

-- a name that is looked up
pub meaning_some : (name : List ℕ) (m : Meaning) → Some m ≡ look_up names name → meaning name ≡ Some (has_property m)
unfolding meaning
meaning_some name m e = ap test_of (sym e)

pub meaning_none : (name : List ℕ) → None ≡ look_up names name → IsPropertyName name → ⊥
unfolding meaning
meaning_none name e is = absurd (let f : None ≡ Some is.0 = ap test_of e ∙ is.1 in cc)
