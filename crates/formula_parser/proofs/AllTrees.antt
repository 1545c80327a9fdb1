-- Each set of characters has its tree.
use Rattle.std.proofs.Common.{◌≡◌, ◌≢◌, ℕ, zero, suc, ◌+◌, ◌<◌, ◌≤◌, Bool, true, false, ◌&&◌, List, [], ◌∷◌, ap, sym, refl, ◌∙◌, subst, arith, inl, inr}
use Rattle.std.specs.Prelude.{IsTrue}
use Rattle.std.specs.Char.{IsScalar}
use Rattle.std.specs.List.{AllByRecursion}
use Rattle.std.specs.Ordering.{nat_cmp}
use Rattle.std.specs.Cmp.{nat_cmp_total}
use Rattle.std.specs.FinSet as set
use Rattle.std.specs.FinSet.{same_set, nat_cmp-IsAntisymmetric, contains-intersection, contains-empty}
use Rattle.std.proofs.lemmas.Bool.{and_parts, cases_lt, true≢false}
use Rattle.std.proofs.lemmas.Bool.Decides.{nat_tests}
use Rattle.std.proofs.Math.Bool.{and-false}
use Rattle.span_core.specs.Intervals.{Covers, AreApart}
use Rattle.spanner_model.specs.Tree.{Tree, alt_end}
use Rattle.unicode_classes.specs.Texts.{AreCharacters}
use Rattle.unicode_classes.specs.ClassTree.{IsClassTree}
use Rattle.unicode_classes.specs.Laws.{RangesAreOne, ClassTreesAreOne, EachSetHasATree}
use Rattle.formula_parser.specs.Sets.{Bytes}
use Rattle.formula_parser.specs.CharSets.{all_characters, AreAllCharacters, AreRangesOf, IsTreeOf}
use Rattle.formula_parser.specs.Dialect.{AreTrees}
use Rattle.formula_parser.proofs.SetTrees.{in_all, all_in}

-- the ranges of the numbers from one on and below another that pass a test
record Found (test : ℕ → Bool) (from end : ℕ) : Type 0 where
  ranges : List (ℕ × ℕ)
  apart : AreApart ranges
  after : AllByRecursion (λ part. from ≤ part.0) ranges
  within : (c : ℕ) → Covers ranges c → (from ≤ c) × (c < end) × IsTrue (test c)
  each : (c : ℕ) → from ≤ c → c < end → IsTrue (test c) → Covers ranges c

later : (from : ℕ) (ranges : List (ℕ × ℕ)) → AllByRecursion (λ part. from + 1 ≤ part.0) ranges → AllByRecursion (λ part. from ≤ part.0) ranges
later from [] h = tt
later from (part ∷ ranges) h = (omega (arith, h.0), later from ranges h.1)

-- all start past the first one
rest_past : (a b from : ℕ) (rest : List (ℕ × ℕ)) → a ≤ b → from < a → AllByRecursion (λ next. b + 1 < next.0) rest → AllByRecursion (λ next. from + 1 < next.0) rest
rest_past a b from [] le lt h = tt
rest_past a b from (part ∷ rest) le lt h = (omega (arith, h.0), rest_past a b from rest le lt h.1)

rest_from : (a b from : ℕ) (rest : List (ℕ × ℕ)) → a ≤ b → from < a → AllByRecursion (λ next. b + 1 < next.0) rest → AllByRecursion (λ part. from ≤ part.0) rest
rest_from a b from [] le lt h = tt
rest_from a b from (part ∷ rest) le lt h = (omega (arith, h.0), rest_from a b from rest le lt h.1)

-- one number more, at the front
with_front : (test : ℕ → Bool) (from end : ℕ) → from < end → IsTrue (test from) → (f : Found test (from + 1) end) →
    (ranges : List (ℕ × ℕ)) → ranges ≡ f.ranges → Found test from end
with_front test from end less passes f [] is = record {
  ranges = (from, from) ∷ [];
  apart = (omega arith, tt, tt);
  after = (omega arith, tt);
  within = λ c h. elim h [
    | inl w ↦ (w.0, omega (arith, less, w.1), (let e : from ≡ c = omega (arith, w.0, w.1) in rw (← e) passes))
    | inr none ↦ absurd none
  ];
  each = λ c low high has. elim (cases_lt from c) [
    | inl more ↦ absurd (rw (← is) at (f.each c (omega (arith, more)) high has))
    | inr here ↦ inl (low, omega (arith, here))
  ];
}
with_front test from end less passes f ((a, b) ∷ rest) is =
    let apart : AreApart ((a, b) ∷ rest) = subst AreApart (sym is) f.apart in
    let after : AllByRecursion (λ part. from + 1 ≤ part.0) ((a, b) ∷ rest) = subst (AllByRecursion (λ part. from + 1 ≤ part.0)) (sym is) f.after in
    let start = after.0 in
    let rises = apart.0 in
    let within : (c : ℕ) → Covers ((a, b) ∷ rest) c → (from + 1 ≤ c) × (c < end) × IsTrue (test c) =
    rw (← is) at f.within in
    let each : (c : ℕ) → from + 1 ≤ c → c < end → IsTrue (test c) → Covers ((a, b) ∷ rest) c =
    rw (← is) at f.each in
    elim (cases_lt (from + 1) a) [
      | inl gap ↦ record {
        ranges = (from, from) ∷ ((a, b) ∷ rest);
        apart = (omega arith, (gap, rest_past a b from rest rises (omega (arith, gap)) apart.1), apart);
        after = (omega arith, (omega (arith, gap), rest_from a b from rest rises (omega (arith, gap)) apart.1));
        within = λ c h. elim h [
          | inl w ↦ (w.0, omega (arith, less, w.1), (let e : from ≡ c = omega (arith, w.0, w.1) in rw (← e) passes))
          | inr k ↦ (let w = within c k in (omega (arith, w.0), w.1, w.2))
        ];
        each = λ c low high has. elim (cases_lt from c) [
          | inl more ↦ inr (each c (omega (arith, more)) high has)
          | inr here ↦ inl (low, omega (arith, here))
        ];
      }
      | inr touch ↦ (let same : a ≡ from + 1 = omega (arith, touch, start) in record {
        ranges = (from, b) ∷ rest;
        apart = (omega (arith, same, rises), apart.1, apart.2);
        after = (omega arith, rest_from a b from rest rises (omega (arith, same)) apart.1);
        within = λ c h. elim h [
          | inl w ↦ elim (cases_lt from c) [
            | inl more ↦ (let v = within c (inl (omega (arith, same, more), w.1)) in (omega (arith, v.0), v.1, v.2))
            | inr here ↦ (w.0, omega (arith, less, here), (let e : from ≡ c = omega (arith, w.0, here) in rw (← e) passes))
          ]
          | inr k ↦ (let v = within c (inr k) in (omega (arith, v.0), v.1, v.2))
        ];
        each = λ c low high has. elim (cases_lt from c) [
          | inl more ↦ elim (each c (omega (arith, more)) high has) [ inl w ↦ inl (low, w.1) | inr k ↦ inr k ]
          | inr here ↦ inl (low, omega (arith, same, rises, here))
        ];
      })
    ]

without_front : (test : ℕ → Bool) (from end : ℕ) → (IsTrue (test from) → ⊥) → Found test (from + 1) end → Found test from end
without_front test from end fails f = record {
  ranges = f.ranges;
  apart = f.apart;
  after = later from f.ranges f.after;
  within = λ c h. (let w = f.within c h in (omega (arith, w.0), w.1, w.2));
  each = λ c low high has. elim (cases_lt from c) [
    | inl more ↦ f.each c (omega (arith, more)) high has
    | inr here ↦ absurd (fails (let e : c ≡ from = omega (arith, low, here) in rw (← e) has))
  ];
}

found : (test : ℕ → Bool) (count from end : ℕ) → from + count ≡ end → Found test from end
found test zero from end is = record {
  ranges = [];
  apart = tt;
  after = tt;
  within = λ c h. absurd h;
  each = λ c low high has. absurd (omega (arith, low, high, is));
}
found test (suc count) from end is = by (test from) refl (found test count (from + 1) end (omega (arith, is)))
  where
    by : (b : Bool) → test from ≡ b → Found test (from + 1) end → Found test from end
    by true e f = with_front test from end (omega (arith, is)) e f f.ranges refl
    by false e f = without_front test from end (λ h. true≢false (sym h ∙ e)) f

below_all : (c : ℕ) → IsScalar c → c < 0x11_0000
below_all c is = grind (arith, nat_tests)

-- each set of characters has its ranges
pub ranges_of : (s : Bytes) → AreAllCharacters s → (ranges : List (ℕ × ℕ)) × AreRangesOf s ranges
ranges_of s all =
    let f = found (set.contains s) 0x11_0000 0 0x11_0000 (omega arith) in
    (f.ranges, record { apart = f.apart; same = λ c. (λ h. (f.within c h).2, λ has. f.each c (omega arith) (below_all c (all c has)) has) })

pub are_characters : (s : Bytes) (ranges : List (ℕ × ℕ)) → AreAllCharacters s → AreRangesOf s ranges → AreCharacters ranges
are_characters s ranges all are = λ c h. all c ((are.same c).0 h)

pub none_of_ranges : (s : Bytes) (ranges : List (ℕ × ℕ)) → AreRangesOf s ranges → ranges ≡ [] → s ≡ set.empty
none_of_ranges s ranges are none =
    same_set nat_cmp_total nat_cmp-IsAntisymmetric s set.empty (λ c. by c (set.contains s c) refl)
  where
    by : (c : ℕ) (b : Bool) → set.contains s c ≡ b → set.contains s c ≡ set.contains (set.empty {R = nat_cmp}) c
    by c true e = absurd (rw none at ((are.same c).1 e))
    by c false e = e ∙ sym (contains-empty nat_cmp c)

-- the characters among the members of a set
abbrev characters_in : Bytes → Bytes
characters_in s = set.intersection all_characters s

characters_are : (s : Bytes) → AreAllCharacters (characters_in s)
characters_are s = λ c h. in_all c (and_parts (set.contains all_characters c) (set.contains s c) (sym (contains-intersection nat_cmp_total all_characters s c) ∙ h)).0

characters_same : (s : Bytes) → AreAllCharacters s → characters_in s ≡ s
characters_same s all = same_set nat_cmp_total nat_cmp-IsAntisymmetric (characters_in s) s (λ c. contains-intersection nat_cmp_total all_characters s c ∙ by c (set.contains s c) refl)
  where
    by : (c : ℕ) (b : Bool) → set.contains s c ≡ b → (set.contains all_characters c && set.contains s c) ≡ set.contains s c
    by c true e = ap (λ b. b && set.contains s c) (all_in c (all c e))
    by c false e = ap (λ b. set.contains all_characters c && b) e ∙ and-false (set.contains all_characters c) ∙ sym e

-- the tree of a set that has ranges
tree_of_ranges : EachSetHasATree → (ranges : List (ℕ × ℕ)) → AreApart ranges → AreCharacters ranges → Tree
tree_of_ranges has [] apart are = alt_end
tree_of_ranges has (part ∷ rest) apart are = (has (part ∷ rest) apart are (λ e. cc)).0

pub all_trees : EachSetHasATree → Bytes → Tree
all_trees has s =
    let r = ranges_of (characters_in s) (characters_are s) in
    tree_of_ranges has r.0 r.1.apart (are_characters (characters_in s) r.0 (characters_are s) r.1)

tree_is : (has : EachSetHasATree) (ranges : List (ℕ × ℕ)) (apart : AreApart ranges) (are : AreCharacters ranges) → ranges ≢ [] →
    IsClassTree ranges (tree_of_ranges has ranges apart are)
unfolding tree_of_ranges
tree_is has [] apart are some = absurd (some refl)
tree_is has (part ∷ rest) apart are some = (has (part ∷ rest) apart are (λ e. cc)).1

pub are_trees : RangesAreOne → ClassTreesAreOne → (has : EachSetHasATree) → AreTrees (all_trees has)
unfolding all_trees
are_trees one_ranges one_class has = record { built = built; only = only }
  where
    built : (s : Bytes) → s ≢ set.empty → AreAllCharacters s → IsTreeOf s (all_trees has s)
    built s some all =
        let r = ranges_of (characters_in s) (characters_are s) in
        let are : AreRangesOf s r.0 = subst (λ t. AreRangesOf t r.0) (characters_same s all) r.1 in
        (r.0, are, tree_is has r.0 r.1.apart (are_characters (characters_in s) r.0 (characters_are s) r.1) (λ e. some (none_of_ranges s r.0 are e)))

    only : (s : Bytes) (f : Tree) → s ≢ set.empty → AreAllCharacters s → IsTreeOf s f → f ≡ all_trees has s
    only s f some all (ranges, are, tree) =
        let r = ranges_of (characters_in s) (characters_are s) in
        let mine : AreRangesOf s r.0 = subst (λ t. AreRangesOf t r.0) (characters_same s all) r.1 in
        let same : ranges ≡ r.0 = one_ranges ranges r.0 are.apart mine.apart
        (λ c. (λ h. (mine.same c).1 ((are.same c).0 h), λ h. (are.same c).1 ((mine.same c).0 h))) in
        one_class r.0 f (tree_of_ranges has r.0 r.1.apart (are_characters (characters_in s) r.0 (characters_are s) r.1))
        (rw (← same) tree)
        (tree_is has r.0 r.1.apart (are_characters (characters_in s) r.0 (characters_are s) r.1) (λ e. some (none_of_ranges s r.0 mine e)))
