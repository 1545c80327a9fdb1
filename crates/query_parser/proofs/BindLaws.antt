-- The tests of a query one by one: which are known, and the first that is not.
use Rattle.std.proofs.Common.{◌≡◌, ℕ, zero, suc, ◌+◌, true, false, List, [], ◌∷◌, take, Option, Some, None, inl, inr, refl, arith}
use Rattle.std.specs.Prelude.{slice_get, IfSome, IfNone, is_none}
use Rattle.span_tests.specs.Listed.{IsNamed, IsFirstNamed}
use Rattle.spanner_model.specs.declared.tested.Asked.{Asked}
use Rattle.spanner_model.specs.Passing.{AreKnown, Known}
use Rattle.query_parser.specs.Binding.{FirstUnknown}

pub unknown_at : (k : Known) (asked : List Asked) (i : ℕ) (a : Asked) → AreKnown k (take i asked) → slice_get asked i ≡ Some a → ¬ IsNamed k.tests a.test → FirstUnknown k asked a.at
unknown_at k [] i a before is not = absurd (cc)
unknown_at k (b ∷ asked) zero a before is not =
    let same : b ≡ a = cc in
    inl (rw same (not, refl))
unknown_at k (b ∷ asked) (suc i) a before is not =
    inr (before b (inl refl), unknown_at k asked i a (λ c h. before c (inr h)) is not)

known_next : (k : Known) (asked : List Asked) (i : ℕ) (a : Asked) → AreKnown k (take i asked) → slice_get asked i ≡ Some a → IsNamed k.tests a.test → AreKnown k (take (suc i) asked)
known_next k [] i a before is there = absurd (cc)
known_next k (b ∷ asked) zero a before is there = λ c h. elim h [
  | inl e ↦ (let same : a ≡ c = cc in rw (← same) there)
  | inr h ↦ absurd h
]
known_next k (b ∷ asked) (suc i) a before is there =
    let later = known_next k asked i a (λ c h. before c (inr h)) is there in
    λ c h. elim h [ inl e ↦ before c (inl e) | inr h ↦ later c h ]

pub known_more : (k : Known) (asked : List Asked) (i : ℕ) (a : Asked) → AreKnown k (take i asked) → slice_get asked i ≡ Some a → IsNamed k.tests a.test → AreKnown k (take (i + 1) asked)
known_more k asked i a before is there =
    let e : suc i ≡ i + 1 = omega arith in
    rw (← e) (known_next k asked i a before is there)

pub named_of : (tests : List (List ℕ × ℕ)) (name : List ℕ) (r : Option ℕ) → is_none r ≡ false → IfSome r (IsFirstNamed tests name) → IsNamed tests name
named_of tests name None some first = absurd (cc)
named_of tests name (Some k) some first = (k, first.here)

pub not_named : (tests : List (List ℕ × ℕ)) (name : List ℕ) (r : Option ℕ) → is_none r ≡ true → IfNone r (¬ IsNamed tests name) → ¬ IsNamed tests name
not_named tests name None none not = not
not_named tests name (Some k) none not = absurd (cc)
