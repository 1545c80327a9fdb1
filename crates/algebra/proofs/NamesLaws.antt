-- Names of two sets.
use Rattle.std.proofs.Common.{◌≡◌, ℕ, suc, ◌<◌, ◌≤◌, ◌⊎◌, ◌↔◌, Bool, true, false, List, [], ◌∷◌, length, inl, inr, refl, sym, ap, arith, ◌∙◌}
use Rattle.std.specs.Prelude.{IsTrue, Contains}
use Rattle.std.specs.Bool.{OnTrue}
use Rattle.std.specs.FinSet as set
use Rattle.std.specs.declared.cmp.Ordering.{Ordering}
use Rattle.std.specs.declared.cmp.Ordering.TheVariants.{Less, Equal, Greater}
use Rattle.span_core.specs.NameSets.{Ascending, by_order, name_cmp, with_name}
use Rattle.span_core.proofs.NameSetLaws.{with_ascends}
use Rattle.spanner_model.specs.Captures.{VarName}
use Rattle.span_core.specs.Lists.{Has}
use Rattle.span_core.proofs.HasLaws.{Contains-Has}
use Rattle.spanner_model.proofs.NameLaws.{with_cases, with_here, with_there}
use Rattle.algebra.specs.JoinedNames.{all_names}

pub truly : {P : Type 0} (b : Bool) → IsTrue b → OnTrue b P → P
truly true t p = p
truly false t p = absurd (let e : false ≡ true = t in cc)

-- a name that is put in is one more, or was there
one_more : (x : VarName) (names : List VarName) → (length (with_name x names) ≡ suc (length names)) ⊎ (Has names x × (length (with_name x names) ≡ length names))
one_more x [] = inl refl
one_more x (y ∷ names) = go (name_cmp x y) refl (one_more x names)
  where
    go : (o : Ordering) → name_cmp x y ≡ o → (length (with_name x names) ≡ suc (length names)) ⊎ (Has names x × (length (with_name x names) ≡ length names)) →
        (length (by_order o (x ∷ (y ∷ names)) (y ∷ names) (y ∷ with_name x names)) ≡ suc (suc (length names)))
        ⊎ (Has (y ∷ names) x × (length (by_order o (x ∷ (y ∷ names)) (y ∷ names) (y ∷ with_name x names)) ≡ suc (length names)))
    go Less e rest = inl refl
    go Equal e rest = inr (inl (sym (set.slice_cmp-IsAntisymmetric set.nat_cmp-IsAntisymmetric x y e)), refl)
    go Greater e (inl l) = inl (ap suc l)
    go Greater e (inr r) = inr (inr r.0, ap suc r.1)

no_fewer : (names more : List VarName) → length names ≤ length (all_names names more)
no_fewer names [] = omega arith
no_fewer names (x ∷ more) =
    elim (one_more x names) as (λ _. length names ≤ length (all_names (with_name x names) more)) [
      | inl l ↦ omega (arith, l, no_fewer (with_name x names) more)
      | inr r ↦ omega (arith, r.1, no_fewer (with_name x names) more)
    ]

pub room_or_there : (names : List VarName) (x : VarName) (more : List VarName) (most : ℕ) → length (all_names (with_name x names) more) ≤ most →
    Contains names x ⊎ (length names < most)
room_or_there names x more most le =
    elim (one_more x names) [
      | inl l ↦ inr (omega (arith, l, no_fewer (with_name x names) more, le))
      | inr r ↦ inl (Contains-Has names x r.0)
    ]

-- all names, by names that are equal
pub names_by : {all a b names1 names2 : List VarName} → all ≡ all_names a b → a ≡ names1 → b ≡ names2 → all ≡ all_names names1 names2
names_by e f g = e ∙ (λ i. all_names (f i) (g i))

pub all_ascend : (more names : List VarName) → Ascending names → Ascending (all_names names more)
all_ascend [] names h = h
all_ascend (x ∷ more) names h = all_ascend more (with_name x names) (with_ascends x names h)

all_keep : (names more : List VarName) (x : VarName) → Has names x → Has (all_names names more) x
all_keep names [] x h = h
all_keep names (y ∷ more) x h = all_keep (with_name y names) more x (with_there y x names h)

all_there : (names more : List VarName) (x : VarName) → Has more x → Has (all_names names more) x
all_there names [] x h = absurd h
all_there names (y ∷ more) x (inl e) = all_keep (with_name y names) more x (rw (← e) (with_here y names))
all_there names (y ∷ more) x (inr h) = all_there (with_name y names) more x h

all_cases : (names more : List VarName) (x : VarName) → Has (all_names names more) x → Has names x ⊎ Has more x
all_cases names [] x h = inl h
all_cases names (y ∷ more) x h =
    elim (all_cases (with_name y names) more x h) [
      | inl a ↦ elim (with_cases y x names a) [ inl e ↦ inr (inl e) | inr b ↦ inl b ]
      | inr a ↦ inr (inr a)
    ]

pub all_are : (names more : List VarName) (x : VarName) → Has (all_names names more) x ↔ (Has names x ⊎ Has more x)
all_are names more x = (all_cases names more x, λ h. elim h [ inl a ↦ all_keep names more x a | inr a ↦ all_there names more x a ])
