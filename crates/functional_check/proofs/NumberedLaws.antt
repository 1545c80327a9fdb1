-- Sets of names by their numbers.
use Rattle.std.proofs.Common.{◌≡◌, ◌≢◌, ℕ, zero, suc, ◌-◌, ◌*◌, ◌/◌, ◌%◌, ◌^◌, ◌<◌, ◌≤◌, ◌⊎◌, ◌↔◌, Bool, true, false, List, [], ◌∷◌, length, take, Some, IsTrue, inl, inr, refl, sym, ap, ◌∙◌, subst, arith, nat_eq, bit_and, bit_or, w32}
use Rattle.std.specs.Prelude.{slice_get, if◌then◌else◌}
use Rattle.std.specs.Int.{bit_at}
use Rattle.std.proofs.lemmas.Bool.{cases_lt}
use Rattle.std.proofs.lemmas.Bool.Decides.{nat_tests}
use Rattle.std.proofs.lemmas.Nat.{one_shl}
use Rattle.std.proofs.lemmas.Nat.Bits.{bit_at_and, bit_at_or, bit_at_not, bit_at-lt, bit_at_above, bit_at-pow_same, bit_at-pow_other, shr_and_one}
use Rattle.std.proofs.lemmas.Option.{slice_get_within}
use Rattle.span_core.specs.NameSets.{Ascending}
use Rattle.span_core.specs.Lists.{Has, AreDistinct}
use Rattle.span_core.proofs.HasLaws.{Has-slice_get}
use Rattle.spanner_model.specs.Captures.{VarName}
use Rattle.spanner_model.specs.Gathered.{Adds}
use Rattle.spanner_model.proofs.NameLaws.{ascending-distinct}
use Rattle.functional_check.specs.declared.name_bits.NameBits.{NameBits}
use Rattle.functional_check.specs.Faults.{IsLeast}
use Rattle.functional_check.specs.Numbered.{HasNumber, names_where, members}
use Rattle.functional_check.proofs.LeastLaws.{lower_in_front}

-- ---- the names at some places

place_by : (p : ℕ → Bool) (y : VarName) (names later : List VarName) (x : VarName) (b : Bool) → p 0 ≡ b → (Has later x → (k : ℕ) × (slice_get (y ∷ names) k ≡ Some x) × (p k ≡ true)) →
    Has (if b then y ∷ later else later) x → (k : ℕ) × (slice_get (y ∷ names) k ≡ Some x) × (p k ≡ true)
place_by p y names later x true e next (inl is) = (0, ap Some is, e)
place_by p y names later x true e next (inr h) = next h
place_by p y names later x false e next h = next h

place_where : (p : ℕ → Bool) (names : List VarName) (x : VarName) → Has (names_where p names) x → (k : ℕ) × (slice_get names k ≡ Some x) × (p k ≡ true)
place_where p [] x h = absurd h
place_where p (y ∷ names) x h =
    place_by p y names (names_where (λ k. p (suc k)) names) x (p 0) refl (λ g. let q = place_where (λ k. p (suc k)) names x g in (suc q.0, q.1, q.2)) h

where_place : (p : ℕ → Bool) (names : List VarName) (x : VarName) (k : ℕ) → slice_get names k ≡ Some x → p k ≡ true → Has (names_where p names) x
where_place p [] x k at t = absurd (cc)
where_place p (y ∷ names) x zero at t =
    let e : y ≡ x = cc in
    rw t (inl e)
where_place p (y ∷ names) x (suc k) at t = by (p 0) (where_place (λ j. p (suc j)) names x k at t)
  where
    by : (b : Bool) → Has (names_where (λ j. p (suc j)) names) x → Has (if b then y ∷ names_where (λ j. p (suc j)) names else names_where (λ j. p (suc j)) names) x
    by true h = inr h
    by false h = h

-- a name stands at one place
one_place : (names : List VarName) (i j : ℕ) (x : VarName) → AreDistinct names → slice_get names i ≡ Some x → slice_get names j ≡ Some x → i ≡ j
one_place [] i j x d a b = absurd (cc)
one_place (y ∷ names) zero zero x d a b = refl
one_place (y ∷ names) zero (suc j) x d a b = absurd (let e : y ≡ x = cc in d.0 (subst (Has names) (sym e) (Has-slice_get names j x b)))
one_place (y ∷ names) (suc i) zero x d a b = absurd (let e : y ≡ x = cc in d.0 (subst (Has names) (sym e) (Has-slice_get names i x a)))
one_place (y ∷ names) (suc i) (suc j) x d a b = ap suc (one_place names i j x d.1 a b)

front_place : (names : List VarName) (k : ℕ) (x : VarName) → Has (take k names) x → (i : ℕ) × (i < k) × (slice_get names i ≡ Some x)
front_place names zero x h = absurd h
front_place [] (suc k) x h = absurd h
front_place (y ∷ names) (suc k) x (inl e) = (zero, omega arith, ap Some e)
front_place (y ∷ names) (suc k) x (inr h) = let q = front_place names k x h in (suc q.0, omega (arith, q.1), q.2)

-- ---- the names of a set

number_of : (names : List VarName) (s : NameBits) (x : VarName) → Has (members names s) x → (k : ℕ) × (slice_get names k ≡ Some x) × HasNumber s k
unfolding members
number_of names s x h =
    let q = place_where (λ k. nat_eq (bit_at s.bits k) 1) names x h in
    let t : nat_eq (bit_at s.bits q.0) 1 ≡ true = q.2 in
    (q.0, q.1, grind (arith, nat_tests))

has_number : (names : List VarName) (s : NameBits) (x : VarName) (k : ℕ) → slice_get names k ≡ Some x → HasNumber s k → Has (members names s) x
unfolding members
has_number names s x k at h = where_place (λ j. nat_eq (bit_at s.bits j) 1) names x k at (ap (λ n. nat_eq n 1) h)

pub members_within : (names : List VarName) (s : NameBits) (x : VarName) → Has (members names s) x → Has names x
members_within names s x h = let q = number_of names s x h in Has-slice_get names q.0 x q.1

pub members_none : (names : List VarName) (s : NameBits) → ((k : ℕ) → HasNumber s k → ⊥) → (x : VarName) → Has (members names s) x → ⊥
members_none names s none x h = let q = number_of names s x h in none q.0 q.2

-- of no name, where there is none to add
pub members_nothing : (names : List VarName) (s : NameBits) (P : VarName → Type 0) → ((k : ℕ) → HasNumber s k → ⊥) → ((x : VarName) → P x → ⊥) → Adds [] P (members names s)
members_nothing names s P none out x = (
  λ h. absurd (members_none names s none x h),
  λ h. elim h as (λ _. Has (members names s) x) [ inl n ↦ absurd n | inr p ↦ absurd (out x p) ],
)

pub members_one : (names : List VarName) (n : ℕ) (name : VarName) (s : NameBits) → slice_get names n ≡ Some name → ((k : ℕ) → HasNumber s k ↔ (k ≡ n)) →
    (x : VarName) → Has (members names s) x ↔ ((name ≡ x) × Has names x)
members_one names n name s at is x = (
  λ h.
      let q = number_of names s x h in
      let here : slice_get names n ≡ Some x = rw (← (is q.0).0 q.2) q.1 in
      (let e : name ≡ x = cc in e, Has-slice_get names n x here),
  λ p. has_number names s x n (at ∙ ap Some p.0) ((is n).1 refl),
)

pub members_either : (names : List VarName) (a b r : NameBits) → ((k : ℕ) → HasNumber r k ↔ (HasNumber a k ⊎ HasNumber b k)) → Adds (members names a) (Has (members names b)) (members names r)
members_either names a b r is x = (
  λ h.
      let q = number_of names r x h in
      elim ((is q.0).0 q.2) as (λ _. Has (members names a) x ⊎ Has (members names b) x) [ inl n ↦ inl (has_number names a x q.0 q.1 n) | inr n ↦ inr (has_number names b x q.0 q.1 n) ],
  λ h. elim h as (λ _. Has (members names r) x) [
    | inl g ↦ (let q = number_of names a x g in has_number names r x q.0 q.1 ((is q.0).1 (inl q.2)))
    | inr g ↦ (let q = number_of names b x g in has_number names r x q.0 q.1 ((is q.0).1 (inr q.2)))
  ],
)

pub members_both : (names : List VarName) (a b r : NameBits) → Ascending names → ((k : ℕ) → HasNumber r k ↔ (HasNumber a k × HasNumber b k)) →
    (x : VarName) → Has (members names r) x ↔ (Has (members names a) x × Has (members names b) x)
members_both names a b r up is x = (
  λ h.
      let q = number_of names r x h in
      let p = (is q.0).0 q.2 in
      (has_number names a x q.0 q.1 p.0, has_number names b x q.0 q.1 p.1),
  λ h.
      let i = number_of names a x h.0 in
      let j = number_of names b x h.1 in
      let same : j.0 ≡ i.0 = one_place names j.0 i.0 x (ascending-distinct names up) j.1 i.1 in
      has_number names r x i.0 i.1 ((is i.0).1 (i.2, subst (HasNumber b) same j.2)),
)

pub members_without : (names : List VarName) (a b r : NameBits) → Ascending names → ((k : ℕ) → HasNumber r k ↔ (HasNumber a k × (HasNumber b k → ⊥))) →
    (x : VarName) → Has (members names r) x ↔ (Has (members names a) x × (Has (members names b) x → ⊥))
members_without names a b r up is x = (
  λ h.
      let q = number_of names r x h in
      let p = (is q.0).0 q.2 in (
        has_number names a x q.0 q.1 p.0,
        λ g. let j = number_of names b x g in p.1 (subst (HasNumber b) (one_place names j.0 q.0 x (ascending-distinct names up) j.1 q.1) j.2),
      ),
  λ h. let i = number_of names a x h.0 in has_number names r x i.0 i.1 ((is i.0).1 (i.2, λ n. h.1 (has_number names b x i.0 i.1 n))),
)

-- the same names, or none
pub members_when : (names : List VarName) (a r : NameBits) (P Q : Type 0) → ((k : ℕ) → HasNumber r k ↔ (P × Q × HasNumber a k)) →
    (x : VarName) → Has (members names r) x ↔ (P × Q × Has (members names a) x)
members_when names a r P Q is x = (
  λ h. let q = number_of names r x h in let p = (is q.0).0 q.2 in (p.0, p.1, has_number names a x q.0 q.1 p.2),
  λ h. let q = number_of names a x h.2 in has_number names r x q.0 q.1 ((is q.0).1 (h.0, h.1, q.2)),
)

pub tells_number : (names : List VarName) (s : NameBits) (k : ℕ) (name : VarName) → Ascending names → slice_get names k ≡ Some name →
    IsTrue (nat_eq (bit_and (s.bits / 2 ^ k) 1) 1) ↔ Has (members names s) name
tells_number names s k name up at = (
  λ t. let b : HasNumber s k = sym (shr_and_one s.bits k) ∙ (let e : bit_and (s.bits / 2 ^ k) 1 ≡ 1 = grind (arith, nat_tests) in e) in has_number names s name k at b,
  λ h.
      let q = number_of names s name h in
      let same : q.0 ≡ k = one_place names q.0 k name (ascending-distinct names up) q.1 at in
      ap (λ n. nat_eq n 1) (shr_and_one s.bits k ∙ subst (HasNumber s) same q.2),
)

-- ---- the least name

pub least_number : (names : List VarName) (s : NameBits) (k : ℕ) (name : VarName) → Ascending names → slice_get names k ≡ Some name → HasNumber s k →
    ((i : ℕ) → i < k → bit_at s.bits i ≡ 0) → IsLeast (Has (members names s)) name
least_number names s k name up at here below = (
  has_number names s name k at here,
  λ y h lt.
      let q = number_of names s y h in
      let i = front_place names k y (lower_in_front names k name y up at (members_within names s y h) lt) in
      let same : q.0 ≡ i.0 = one_place names q.0 i.0 y (ascending-distinct names up) q.1 i.2 in
      let one : bit_at s.bits i.0 ≡ 1 = subst (HasNumber s) same q.2 in
      let none : bit_at s.bits i.0 ≡ 0 = below i.0 i.1 in
      absurd (omega (arith, one, none)),
)

pub none_numbered : (names : List VarName) (s : NameBits) (k : ℕ) → length names ≤ k → ((i : ℕ) → i < k → bit_at s.bits i ≡ 0) → (x : VarName) → Has (members names s) x → ⊥
none_numbered names s k le below x h =
    let q = number_of names s x h in
    let within = slice_get_within names q.0 x q.1 in
    let none : bit_at s.bits q.0 ≡ 0 = below q.0 (omega (arith, le, within)) in
    let one : bit_at s.bits q.0 ≡ 1 = q.2 in
    absurd (omega (arith, one, none))

-- ---- bits

pub either_bit : (a b k : ℕ) → (bit_at (bit_or a b) k ≡ 1) ↔ ((bit_at a k ≡ 1) ⊎ (bit_at b k ≡ 1))
either_bit a b k = (
  λ e. by (bit_at a k) refl e,
  λ h. elim h as (λ _. bit_at (bit_or a b) k ≡ 1) [
    | inl e ↦ omega (arith, bit_at_or a b k, bit_at-lt b k, e)
    | inr e ↦ omega (arith, bit_at_or a b k, bit_at-lt a k, e)
  ],
)
  where
    by : (n : ℕ) → bit_at a k ≡ n → bit_at (bit_or a b) k ≡ 1 → (bit_at a k ≡ 1) ⊎ (bit_at b k ≡ 1)
    by zero is e = inr (omega (arith, bit_at_or a b k, is, e))
    by (suc n) is e = inl (omega (arith, bit_at-lt a k, is))

pub both_bits : (a b k : ℕ) → (bit_at (bit_and a b) k ≡ 1) ↔ ((bit_at a k ≡ 1) × (bit_at b k ≡ 1))
both_bits a b k = (
  λ e. (omega (arith, bit_at_and a b k, bit_at-lt a k, bit_at-lt b k, e), omega (arith, bit_at_and a b k, bit_at-lt a k, bit_at-lt b k, e)),
  λ h. omega (arith, bit_at_and a b k, h.0, h.1),
)

pub bit_without : (a b k : ℕ) → a < 2 ^ 32 → b < 2 ^ 32 → (bit_at (bit_and a (2 ^ 32 - 1 - b)) k ≡ 1) ↔ ((bit_at a k ≡ 1) × (bit_at b k ≡ 1 → ⊥))
bit_without a b k fits_a fits_b = elim (cases_lt k 32) as (λ _. (bit_at (bit_and a (2 ^ 32 - 1 - b)) k ≡ 1) ↔ ((bit_at a k ≡ 1) × (bit_at b k ≡ 1 → ⊥))) [ inl l ↦ inside l | inr l ↦ outside l ]
  where
    inside : k < 32 → (bit_at (bit_and a (2 ^ 32 - 1 - b)) k ≡ 1) ↔ ((bit_at a k ≡ 1) × (bit_at b k ≡ 1 → ⊥))
    inside l =
        let n : bit_at (2 ^ 32 - 1 - b) k ≡ 1 - bit_at b k = bit_at_not w32 b k fits_b l in
        let two = bit_at_and a (2 ^ 32 - 1 - b) k in (
          λ e. (omega (arith, two, n, bit_at-lt a k, e), λ t. absurd (omega (arith, two, n, t, e))),
          λ h. let ne : bit_at b k ≢ 1 = h.1 in omega (arith, two, n, bit_at-lt b k, h.0, ne),
        )

    outside : 32 ≤ k → (bit_at (bit_and a (2 ^ 32 - 1 - b)) k ≡ 1) ↔ ((bit_at a k ≡ 1) × (bit_at b k ≡ 1 → ⊥))
    outside l =
        let none = bit_at_above a 32 k fits_a l in
        (λ e. absurd (omega (arith, bit_at_and a (2 ^ 32 - 1 - b) k, none, e)), λ h. absurd (omega (arith, none, h.0)))

pub single_bit : (n k : ℕ) → n < 32 → (bit_at (1 * 2 ^ n % 2 ^ 32) k ≡ 1) ↔ (k ≡ n)
single_bit n k l =
    let is : 1 * 2 ^ n % 2 ^ 32 ≡ 2 ^ n = one_shl n 32 l in
    rw is (
      λ e. by (nat_eq k n) refl e,
      λ e. rw e (bit_at-pow_same n),
    )
  where
    by : (b : Bool) → nat_eq k n ≡ b → bit_at (2 ^ n) k ≡ 1 → k ≡ n
    by true e one = grind (arith, nat_tests)
    by false e one = let ne : k ≢ n = grind (arith, nat_tests) in absurd (omega (arith, bit_at-pow_other n k ne, one))
