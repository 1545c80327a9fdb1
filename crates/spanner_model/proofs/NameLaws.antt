-- Sets of names as ascending lists: membership, and that two with the same members are one.
use Rattle.std.proofs.Common.{◌≡◌, ◌⊎◌, Bool, true, false, ◌||◌, List, [], ◌∷◌, inl, inr, refl, sym, ap, ◌∙◌, subst}
use Rattle.std.specs.List.{AllByRecursion, list_any}
use Rattle.std.specs.List.Sorted.{IsStrictlySortedBy}
use Rattle.std.specs.Cmp.Lexicographic.{nat_list_cmp_total}
use Rattle.std.specs.declared.cmp.Ordering.{Ordering}
use Rattle.std.specs.declared.cmp.Ordering.TheVariants.{Less, Equal, Greater}
use Rattle.std.proofs.lemmas.Cmp.{tied_itself}
use Rattle.std.specs.Str.{bytes_eq}
use Rattle.std.proofs.lemmas.Map.Lookups.{exact_bytes}
use Rattle.std.proofs.lemmas.Slice.Eq.{bytes_eq-Decides}
use Rattle.span_core.specs.NameSets.{name_cmp, Ascending, by_order, with_name}
use Rattle.spanner_model.specs.Captures.{VarName}
use Rattle.span_core.specs.Lists.{Has, AreDistinct}

with_cases_by : (o : Ordering) (x y z : VarName) (names : List VarName) → name_cmp x y ≡ o → (Has (with_name x names) z → (x ≡ z) ⊎ Has names z) →
    Has (by_order o (x ∷ (y ∷ names)) (y ∷ names) (y ∷ with_name x names)) z → (x ≡ z) ⊎ Has (y ∷ names) z
with_cases_by Less x y z names e later (inl f) = inl f
with_cases_by Less x y z names e later (inr h) = inr h
with_cases_by Equal x y z names e later h = inr h
with_cases_by Greater x y z names e later (inl f) = inr (inl f)
with_cases_by Greater x y z names e later (inr h) = elim (later h) as (λ _. (x ≡ z) ⊎ Has (y ∷ names) z) [ inl f ↦ inl f | inr w ↦ inr (inr w) ]

-- the set with one name more has that name, and those that it had
pub with_cases : (x z : VarName) (names : List VarName) → Has (with_name x names) z → (x ≡ z) ⊎ Has names z
with_cases x z [] h = h
with_cases x z (y ∷ names) h = with_cases_by (name_cmp x y) x y z names refl (with_cases x z names) h

with_here_by : (o : Ordering) (x y : VarName) (names : List VarName) → name_cmp x y ≡ o → Has (with_name x names) x →
    Has (by_order o (x ∷ (y ∷ names)) (y ∷ names) (y ∷ with_name x names)) x
with_here_by Less x y names e later = inl refl
with_here_by Equal x y names e later = inl (sym (exact_bytes x y e))
with_here_by Greater x y names e later = inr later

pub with_here : (x : VarName) (names : List VarName) → Has (with_name x names) x
with_here x [] = inl refl
with_here x (y ∷ names) = with_here_by (name_cmp x y) x y names refl (with_here x names)

with_there_by : (o : Ordering) (x y z : VarName) (names : List VarName) → (Has names z → Has (with_name x names) z) → Has (y ∷ names) z →
    Has (by_order o (x ∷ (y ∷ names)) (y ∷ names) (y ∷ with_name x names)) z
with_there_by Less x y z names later h = inr h
with_there_by Equal x y z names later h = h
with_there_by Greater x y z names later (inl f) = inl f
with_there_by Greater x y z names later (inr h) = inr (later h)

pub with_there : (x z : VarName) (names : List VarName) → Has names z → Has (with_name x names) z
with_there x z [] h = absurd h
with_there x z (y ∷ names) h = with_there_by (name_cmp x y) x y z names (with_there x z names) h

-- a name below all of a list is not in it
pub below_all : (x z : VarName) (names : List VarName) → AllByRecursion (λ y. name_cmp x y ≡ Less) names → Has names z → name_cmp x z ≡ Less
below_all x z [] a h = absurd h
below_all x z (y ∷ names) a (inl e) = ap (name_cmp x) (sym e) ∙ a.0
below_all x z (y ∷ names) a (inr h) = below_all x z names a.1 h

-- no name is below itself
pub not_below_itself : (x : VarName) → name_cmp x x ≡ Less → ⊥
not_below_itself x h = let e : Less ≡ Equal = sym h ∙ tied_itself nat_list_cmp_total x in absurd (cc)

pub ascending-distinct : (names : List VarName) → Ascending names → AreDistinct names
unfolding IsStrictlySortedBy
ascending-distinct [] up = tt
ascending-distinct (x ∷ names) up = (λ h. not_below_itself x (below_all x x names up.0 h), ascending-distinct names up.1)

-- no two names are each below the other
pub not_both_below : (x y : VarName) → name_cmp x y ≡ Less → name_cmp y x ≡ Less → ⊥
not_both_below x y a b = not_below_itself x (nat_list_cmp_total.trans x y x a b)

heads_are : (x y : VarName) (xs ys : List VarName) → Ascending (x ∷ xs) → Ascending (y ∷ ys) → Has (y ∷ ys) x → Has (x ∷ xs) y → x ≡ y
unfolding IsStrictlySortedBy
heads_are x y xs ys up vp (inl e) b = sym e
heads_are x y xs ys up vp (inr a) (inl e) = e
heads_are x y xs ys up vp (inr a) (inr b) = absurd (not_both_below x y (below_all x y xs up.0 b) (below_all y x ys vp.0 a))

-- a member of the tail of one ascending list is in the tail of another with the same head
in_tail : (x z : VarName) (xs ys : List VarName) → Ascending (x ∷ xs) → Has xs z → Has (x ∷ ys) z → Has ys z
unfolding IsStrictlySortedBy
in_tail x z xs ys up a (inl e) = absurd (not_below_itself x (ap (name_cmp x) e ∙ below_all x z xs up.0 a))
in_tail x z xs ys up a (inr h) = h

-- ascending lists with the same members are equal
pub same_names : (xs ys : List VarName) → Ascending xs → Ascending ys → ((z : VarName) → Has xs z → Has ys z) → ((z : VarName) → Has ys z → Has xs z) → xs ≡ ys
unfolding IsStrictlySortedBy
same_names [] [] up vp f g = refl
same_names [] (y ∷ ys) up vp f g = absurd (g y (inl refl))
same_names (x ∷ xs) [] up vp f g = absurd (f x (inl refl))
same_names (x ∷ xs) (y ∷ ys) up vp f g =
    let e : x ≡ y = heads_are x y xs ys up vp (f x (inl refl)) (g y (inl refl)) in
    let vp' : Ascending (x ∷ ys) = subst (λ (h : VarName). Ascending (h ∷ ys)) (sym e) vp in
    let rest : xs ≡ ys = same_names xs ys up.1 vp.1
    (λ z h. in_tail x z xs ys up h (subst (λ (k : VarName). Has (k ∷ ys) z) (sym e) (f z (inr h))))
    (λ z h. in_tail x z ys xs vp' h (subst (λ (k : List VarName). Has k z) (ap (λ k. x ∷ k) refl) (g z (inr h)))) in
    ap (λ k. k ∷ xs) e ∙ ap (λ k. y ∷ k) rest

-- a name of the list is found by its bytes
pub list_any-Has : (names : List VarName) (x : VarName) → Has names x → list_any (λ y. bytes_eq y x) names ≡ true
list_any-Has [] x h = absurd h
list_any-Has (y ∷ names) x (inl e) = ap (λ b. b || list_any (λ z. bytes_eq z x) names) ((bytes_eq-Decides y x).1 e)
list_any-Has (y ∷ names) x (inr h) = by (bytes_eq y x) (list_any (λ z. bytes_eq z x) names) (list_any-Has names x h)
  where
    by : (a b : Bool) → b ≡ true → (a || b) ≡ true
    by true b e = refl
    by false b e = e

-- and what is found by its bytes is a name of the list
pub Has-list_any : (names : List VarName) (x : VarName) → list_any (λ y. bytes_eq y x) names ≡ true → Has names x
Has-list_any [] x h = absurd (cc)
Has-list_any (y ∷ names) x h = by (bytes_eq y x) refl (Has-list_any names x)
  where
    by : (a : Bool) → bytes_eq y x ≡ a → (list_any (λ z. bytes_eq z x) names ≡ true → Has names x) → Has (y ∷ names) x
    by true e later = inl ((bytes_eq-Decides y x).0 e)
    by false e later = inr (later (ap (λ b. b || list_any (λ z. bytes_eq z x) names) (sym e) ∙ h))
