-- Faults of concatenations and alternations, part by part.
use Rattle.std.proofs.Common.{◌≡◌, ℕ, zero, suc, ◌+◌, ◌≤◌, ◌⊎◌, ◌↔◌, true, List, [], ◌∷◌, ◌++◌, length, take, Some, Result, Ok, Err, inl, inr, refl, sym, subst}
use Rattle.std.specs.Prelude.{slice_get}
use Rattle.spanner_model.proofs.GatheredLaws.{in_more, parts_in_turn, gathered_next, gathered_same}
use Rattle.std.specs.Result.{IsOk, IsErrAnd}
use Rattle.std.proofs.lemmas.List.{take_all}
use Rattle.span_core.specs.Lists.{Has}
use Rattle.spanner_model.specs.Gathered.{Adds}
use Rattle.spanner_model.specs.Tree.{Tree, cat_all, alt_all}
use Rattle.spanner_model.specs.Captures.{VarName}
use Rattle.spanner_model.specs.Sequential.{HasVar, IsSequential}
use Rattle.span_core.proofs.HasLaws.{Has-append_cases}
use Rattle.spanner_model.proofs.TreeLaws.{part_has, arms_have, take_at_more}
use Rattle.functional_check.specs.declared.checking.CheckFault.{CheckFault}
use Rattle.functional_check.specs.declared.checking.CheckFault.TheVariants.{BoundTwice}
use Rattle.functional_check.specs.Faults.{IsLeast, InTwoParts, OwnFault, HasSequentialParts, InnerFault, IsFault}
use Rattle.functional_check.specs.declared.name_bits.NameBits.{NameBits}
use Rattle.functional_check.specs.Checked.{Checked}
use Rattle.functional_check.proofs.LeastLaws.{least_same}
use Rattle.functional_check.proofs.FaultLaws.{no_fault}

abbrev pub AllSequential : List Tree → Type 0
AllSequential ts = (t : Tree) → Has ts t → IsSequential t

-- the first part that has a fault gives it
pub cat_inner : (ts : List Tree) (k : ℕ) (t : Tree) (e : CheckFault) → slice_get ts k ≡ Some t → AllSequential (take k ts) → IsFault t e → InnerFault (cat_all ts) e
cat_inner [] k t e at ok h = absurd (cc)
cat_inner (u ∷ ts) zero t e at ok h = inl (let f : u ≡ t = cc in rw f h)
cat_inner (u ∷ ts) (suc k) t e at ok h = inr (ok u (inl refl), cat_inner ts k t e at (λ w a. ok w (inr a)) h)

pub alt_inner : (ts : List Tree) (k : ℕ) (t : Tree) (e : CheckFault) → slice_get ts k ≡ Some t → AllSequential (take k ts) → IsFault t e → InnerFault (alt_all ts) e
alt_inner [] k t e at ok h = absurd (cc)
alt_inner (u ∷ ts) zero t e at ok h = inl (let f : u ≡ t = cc in rw f h)
alt_inner (u ∷ ts) (suc k) t e at ok h = inr (ok u (inl refl), alt_inner ts k t e at (λ w a. ok w (inr a)) h)

pub cat_parts_sequential : (ts : List Tree) → AllSequential ts → HasSequentialParts (cat_all ts)
cat_parts_sequential [] ok = tt
cat_parts_sequential (t ∷ ts) ok = (ok t (inl refl), cat_parts_sequential ts (λ w a. ok w (inr a)))

pub sequential_more : (ts : List Tree) (t : Tree) → AllSequential ts → IsSequential t → AllSequential (ts ++ t ∷ [])
sequential_more ts t ok h u a = elim (Has-append_cases ts (t ∷ []) u a) as (λ _. IsSequential u) [
  | inl b ↦ ok u b
  | inr b ↦ elim b as (λ _. IsSequential u) [ inl e ↦ subst IsSequential e h | inr n ↦ absurd n ]
]

-- ---- concatenations

in_more_of : (ts : List Tree) (t : Tree) (x : VarName) → HasVar (cat_all ts) x ⊎ HasVar t x → HasVar (cat_all (ts ++ t ∷ [])) x
in_more_of ts t x h = (in_more HasVar (λ us. HasVar (cat_all us)) parts_in_turn ts t x).1 h

of_in_more : (ts : List Tree) (t : Tree) (x : VarName) → HasVar (cat_all (ts ++ t ∷ [])) x → HasVar (cat_all ts) x ⊎ HasVar t x
of_in_more ts t x h = (in_more HasVar (λ us. HasVar (cat_all us)) parts_in_turn ts t x).0 h

-- with one part more
pub two_more : (ts : List Tree) (t : Tree) (x : VarName) → (InTwoParts (cat_all ts) x ⊎ (HasVar (cat_all ts) x × HasVar t x)) ↔ InTwoParts (cat_all (ts ++ t ∷ [])) x
two_more [] t x = (
  λ h. elim h as (λ _. (HasVar t x × ⊥) ⊎ ⊥) [ inl n ↦ absurd n | inr p ↦ absurd p.0 ],
  λ h. elim h as (λ _. ⊥ ⊎ (⊥ × HasVar t x)) [ inl p ↦ absurd p.1 | inr n ↦ absurd n ],
)
two_more (u ∷ ts) t x =
    let later = two_more ts t x in (
      λ h. elim h as (λ _. (HasVar u x × HasVar (cat_all (ts ++ t ∷ [])) x) ⊎ InTwoParts (cat_all (ts ++ t ∷ [])) x) [
        | inl two ↦ elim two as (λ _. (HasVar u x × HasVar (cat_all (ts ++ t ∷ [])) x) ⊎ InTwoParts (cat_all (ts ++ t ∷ [])) x) [
          | inl p ↦ inl (p.0, in_more_of ts t x (inl p.1))
          | inr q ↦ inr (later.0 (inl q))
        ]
        | inr p ↦ elim p.0 as (λ _. (HasVar u x × HasVar (cat_all (ts ++ t ∷ [])) x) ⊎ InTwoParts (cat_all (ts ++ t ∷ [])) x) [
          | inl a ↦ inl (a, in_more_of ts t x (inr p.1))
          | inr b ↦ inr (later.0 (inr (b, p.1)))
        ]
      ],
      λ h. elim h as (λ _. ((HasVar u x × HasVar (cat_all ts) x) ⊎ InTwoParts (cat_all ts) x) ⊎ ((HasVar u x ⊎ HasVar (cat_all ts) x) × HasVar t x)) [
        | inl p ↦ elim (of_in_more ts t x p.1) as (λ _. ((HasVar u x × HasVar (cat_all ts) x) ⊎ InTwoParts (cat_all ts) x) ⊎ ((HasVar u x ⊎ HasVar (cat_all ts) x) × HasVar t x)) [
          | inl a ↦ inl (inl (p.0, a))
          | inr b ↦ inr (inl p.0, b)
        ]
        | inr q ↦ elim (later.1 q) as (λ _. ((HasVar u x × HasVar (cat_all ts) x) ⊎ InTwoParts (cat_all ts) x) ⊎ ((HasVar u x ⊎ HasVar (cat_all ts) x) × HasVar t x)) [
          | inl a ↦ inl (inr a)
          | inr b ↦ inr (inr b.0, b.1)
        ]
      ],
    )

pub cat_sequential : (ts : List Tree) → AllSequential ts → ((x : VarName) → InTwoParts (cat_all ts) x → ⊥) → IsSequential (cat_all ts)
cat_sequential [] ok none = tt
cat_sequential (t ∷ ts) ok none = (ok t (inl refl), cat_sequential ts (λ w a. ok w (inr a)) (λ x h. none x (inr h)), λ x a b. none x (inl (a, b)))

pub cat_own : (ts : List Tree) (x : VarName) → IsLeast (InTwoParts (cat_all ts)) x → OwnFault (cat_all ts) (BoundTwice x)
cat_own [] x h = absurd h.0
cat_own (t ∷ ts) x h = h

-- ---- alternations

pub alt_sequential : (ts : List Tree) → AllSequential ts → IsSequential (alt_all ts)
alt_sequential [] ok = tt
alt_sequential (t ∷ ts) ok = (ok t (inl refl), alt_sequential ts (λ w a. ok w (inr a)))

-- ---- what the check leaves

-- an answer is Ok exactly where the formula is sequential
pub checked_tells : (names : List VarName) (f : Tree) (r : Result NameBits CheckFault) → Checked names f r → IsOk r ↔ IsSequential f
checked_tells names f (Ok vars) h = (λ _. h.0, λ _. refl)
checked_tells names f (Err e) h = (λ t. absurd (cc), λ ok. absurd (no_fault f e ok h))

-- the variables of a part are among the names that have those of all
pub part_among : (names : List VarName) (ts : List Tree) (t : Tree) → Has ts t → ((x : VarName) → HasVar (cat_all ts) x → Has names x) → (x : VarName) → HasVar t x → Has names x
part_among names ts t has among x v = among x (part_has ts t x has v)

-- a fault of a part is one of the concatenation, and of the alternation
pub cat_fault : (ts : List Tree) (k : ℕ) (t : Tree) (e : CheckFault) → slice_get ts k ≡ Some t → AllSequential (take k ts) → IsFault t e → IsFault (cat_all ts) e
cat_fault ts k t e at ok h = inl (cat_inner ts k t e at ok h)

pub alt_fault : (ts : List Tree) (k : ℕ) (t : Tree) (e : CheckFault) → slice_get ts k ≡ Some t → AllSequential (take k ts) → IsFault t e → IsFault (alt_all ts) e
alt_fault ts k t e at ok h = inl (alt_inner ts k t e at ok h)

-- the parts before a place, and that part
pub sequential_next : (ts : List Tree) (k : ℕ) (t : Tree) → slice_get ts k ≡ Some t → AllSequential (take k ts) → IsSequential t → AllSequential (take (k + 1) ts)
sequential_next ts k t at ok h = subst AllSequential (sym (take_at_more ts k t at)) (sequential_more (take k ts) t ok h)

vars_are : (f : Tree) (vars : List VarName) (x : VarName) → Adds [] (HasVar f) vars → Has vars x ↔ HasVar f x
vars_are f vars x h = (λ a. elim ((h x).0 a) as (λ _. HasVar f x) [ inl n ↦ absurd n | inr v ↦ v ], λ v. (h x).1 (inr v))

-- the names that two parts share, with one part more
pub twice_next : (ts : List Tree) (k : ℕ) (t : Tree) (vars part twice both next : List VarName) → slice_get ts k ≡ Some t →
    Adds [] (HasVar (cat_all (take k ts))) vars → ((x : VarName) → Has part x ↔ HasVar t x) → ((x : VarName) → Has twice x ↔ InTwoParts (cat_all (take k ts)) x) →
    ((x : VarName) → Has both x ↔ (Has vars x × Has part x)) → Adds twice (Has both) next → (x : VarName) → Has next x ↔ InTwoParts (cat_all (take (k + 1) ts)) x
twice_next ts k t vars part twice both next at before here old shared added x =
    let front = take k ts in
    let are = vars_are (cat_all front) vars x before in
    let more = two_more front t x in
    rw (take_at_more ts k t at) (
      λ h. more.0 (elim ((added x).0 h) as (λ _. InTwoParts (cat_all front) x ⊎ (HasVar (cat_all front) x × HasVar t x)) [
        | inl o ↦ inl ((old x).0 o)
        | inr s ↦ (let p = (shared x).0 s in inr (are.0 p.0, (here x).0 p.1))
      ]),
      λ h. (added x).1 (elim (more.1 h) as (λ _. Has twice x ⊎ Has both x) [
        | inl o ↦ inl ((old x).1 o)
        | inr p ↦ inr ((shared x).1 (are.1 p.0, (here x).1 p.1))
      ]),
    )

pub vars_next : (ts : List Tree) (k : ℕ) (t : Tree) (vars part all : List VarName) → slice_get ts k ≡ Some t →
    Adds [] (HasVar (cat_all (take k ts))) vars → ((x : VarName) → Has part x ↔ HasVar t x) → Adds vars (Has part) all → Adds [] (HasVar (cat_all (take (k + 1) ts))) all
vars_next ts k t vars part all at before here added =
    gathered_next HasVar (λ us. HasVar (cat_all us)) parts_in_turn ts k t [] vars all at before (gathered_same vars all (Has part) (HasVar t) true here added)

-- the end of the parts
pub cat_done_fault : (ts : List Tree) (k : ℕ) (x : VarName) (twice : List VarName) → length ts ≤ k → AllSequential (take k ts) →
    ((y : VarName) → Has twice y ↔ InTwoParts (cat_all (take k ts)) y) → IsLeast (Has twice) x → IsFault (cat_all ts) (BoundTwice x)
cat_done_fault ts k x twice le ok are least =
    let all : take k ts ≡ ts = take_all k ts le in
    inr (
      cat_parts_sequential ts (subst AllSequential all ok),
      cat_own ts x (rw (← all) (least_same (Has twice) (InTwoParts (cat_all (take k ts))) (Some x) are least)),
    )

pub cat_done : (ts : List Tree) (k : ℕ) (vars twice : List VarName) → length ts ≤ k → AllSequential (take k ts) → Adds [] (HasVar (cat_all (take k ts))) vars →
    ((y : VarName) → Has twice y ↔ InTwoParts (cat_all (take k ts)) y) → ((y : VarName) → Has twice y → ⊥) → IsSequential (cat_all ts) × ((x : VarName) → Has vars x ↔ HasVar (cat_all ts) x)
cat_done ts k vars twice le ok added are none =
    let all : take k ts ≡ ts = take_all k ts le in (
      cat_sequential ts (subst AllSequential all ok) (rw (← all) (λ x h. none x ((are x).1 h))),
      λ x. vars_are (cat_all ts) vars x (rw (← all) added),
    )

pub alt_done : (ts : List Tree) (k : ℕ) (vars : List VarName) → length ts ≤ k → AllSequential (take k ts) → Adds [] (HasVar (cat_all (take k ts))) vars →
    IsSequential (alt_all ts) × ((x : VarName) → Has vars x ↔ HasVar (alt_all ts) x)
alt_done ts k vars le ok added =
    let all : take k ts ≡ ts = take_all k ts le in (
      alt_sequential ts (subst AllSequential all ok),
      λ x.
          let is = vars_are (cat_all ts) vars x (rw (← all) added) in
          (λ h. (arms_have ts x).1 (is.0 h), λ v. is.1 ((arms_have ts x).0 v)),
    )

-- an error that is handed on
pub checked_err : (names : List VarName) (f : Tree) (r : Result NameBits CheckFault) (e : CheckFault) → IsErrAnd r (λ g. g ≡ e) → IsFault f e → Checked names f r
checked_err names f (Ok vars) e h fault = absurd h
checked_err names f (Err g) e h fault = subst (IsFault f) (sym h) fault
