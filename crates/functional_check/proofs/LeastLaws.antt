-- Least names.
use Rattle.std.proofs.Common.{◌≡◌, ℕ, zero, suc, ◌⊎◌, ◌↔◌, Bool, true, false, List, [], ◌∷◌, take, Option, Some, None, IsTrue, Contains, is_some, inl, inr, refl, sym, ap, ◌∙◌}
use Rattle.std.specs.Prelude.{slice_get}
use Rattle.std.specs.Option.{IfSome, IfNone}
use Rattle.span_core.proofs.HasLaws.{Has-slice_get, Contains-Has}
use Rattle.spanner_model.proofs.NameLaws.{below_all, not_below_itself, not_both_below}
use Rattle.std.specs.List.Sorted.{IsStrictlySortedBy}
use Rattle.std.specs.Ordering.{ordering_reverse}
use Rattle.std.specs.Cmp.Lexicographic.{nat_list_cmp_total}
use Rattle.std.specs.declared.cmp.Ordering.{Ordering}
use Rattle.std.specs.declared.cmp.Ordering.TheVariants.{Less, Equal, Greater}
use Rattle.std.proofs.lemmas.Map.Lookups.{exact_bytes}
use Rattle.span_core.specs.NameSets.{name_cmp, Ascending, by_order}
use Rattle.spanner_model.specs.Captures.{VarName}
use Rattle.span_core.specs.Lists.{Has, AtMost}
use Rattle.functional_check.specs.Faults.{IsLeast, IsLeastOf}

-- ---- order

turned : (x y : VarName) → name_cmp x y ≡ Greater → name_cmp y x ≡ Less
turned x y e = nat_list_cmp_total.antisymm y x ∙ ap ordering_reverse e

-- ---- least

least_by : (P : VarName → Type 0) (x y : VarName) (o : Ordering) → name_cmp x y ≡ o → IsLeast P x → IsLeast P y → x ≡ y
least_by P x y Less e h g = absurd (g.1 x h.0 e)
least_by P x y Equal e h g = exact_bytes x y e
least_by P x y Greater e h g = absurd (h.1 y g.0 (turned x y e))

pub least_one : (P : VarName → Type 0) (x y : VarName) → IsLeast P x → IsLeast P y → x ≡ y
least_one P x y h g = least_by P x y (name_cmp x y) refl h g

pub least_same : (P Q : VarName → Type 0) (o : Option VarName) → ((x : VarName) → P x ↔ Q x) → IsLeastOf P o → IsLeastOf Q o
least_same P Q None same h = λ x q. h x ((same x).1 q)
least_same P Q (Some x) same h = ((same x).0 h.0, λ y q. h.1 y ((same y).1 q))

-- the lesser of two names, where they are there
abbrev pub smaller_of : Option VarName → Option VarName → Option VarName
smaller_of None b = b
smaller_of (Some x) None = Some x
smaller_of (Some x) (Some y) = by_order (name_cmp x y) (Some x) (Some x) (Some y)

both_by : (P Q : VarName → Type 0) (x y : VarName) (o : Ordering) → name_cmp x y ≡ o → IsLeast P x → IsLeast Q y → IsLeastOf (λ z. P z ⊎ Q z) (by_order o (Some x) (Some x) (Some y))
both_by P Q x y Less e h g = (inl h.0, λ z a lt. elim a [ inl p ↦ h.1 z p lt | inr q ↦ g.1 z q (nat_list_cmp_total.trans z x y lt e) ])
both_by P Q x y Equal e h g = (inl h.0, λ z a lt. elim a [ inl p ↦ h.1 z p lt | inr q ↦ g.1 z q (rw (← exact_bytes x y e) lt) ])
both_by P Q x y Greater e h g = (inr g.0, λ z a lt. elim a [ inl p ↦ h.1 z p (nat_list_cmp_total.trans z y x lt (turned x y e)) | inr q ↦ g.1 z q lt ])

-- the least name of either
pub least_both : (P Q : VarName → Type 0) (a b : Option VarName) → IsLeastOf P a → IsLeastOf Q b → IsLeastOf (λ z. P z ⊎ Q z) (smaller_of a b)
least_both P Q None None h g = λ x a. elim a [ inl p ↦ h x p | inr q ↦ g x q ]
least_both P Q None (Some y) h g = (inr g.0, λ z a lt. elim a [ inl p ↦ h z p | inr q ↦ g.1 z q lt ])
least_both P Q (Some x) None h g = (inl h.0, λ z a lt. elim a [ inl p ↦ h.1 z p lt | inr q ↦ g z q ])
least_both P Q (Some x) (Some y) h g = both_by P Q x y (name_cmp x y) refl h g

-- ---- in a set

-- what is less than the name at a place stands before that place
pub lower_in_front : (names : List VarName) (k : ℕ) (name z : VarName) → Ascending names → slice_get names k ≡ Some name → Has names z → name_cmp z name ≡ Less → Has (take k names) z
unfolding IsStrictlySortedBy
lower_in_front [] k name z up at h lt = absurd h
lower_in_front (y ∷ names) zero name z up at (inl e) lt = absurd (let f : y ≡ name = cc in not_below_itself z (rw (sym f ∙ e) at lt))
lower_in_front (y ∷ names) zero name z up at (inr h) lt =
    absurd (let f : y ≡ name = cc in not_both_below y z (below_all y z names up.0 h) (rw f lt))
lower_in_front (y ∷ names) (suc k) name z up at (inl e) lt = inl e
lower_in_front (y ∷ names) (suc k) name z up at (inr h) lt = inr (lower_in_front names k name z up.1 at h lt)

pub least_at : (names : List VarName) (k : ℕ) (name : VarName) (P : VarName → Type 0) → Ascending names → slice_get names k ≡ Some name → Has names name → P name →
    ((x : VarName) → Has (take k names) x → P x → ⊥) → IsLeast (λ x. Has names x × P x) name
least_at names k name P up at has p none = ((has, p), λ y h lt. none y (lower_in_front names k name y up at h.0 lt) h.1)

-- ---- at most so many

pub at_most_less : (n : ℕ) (P Q : VarName → Type 0) → ((x : VarName) → P x → Q x) → AtMost n Q → AtMost n P
at_most_less n P Q in_q h = (h.0, h.1, λ x p. h.2 x (in_q x p))

-- ---- what std's search answers

pub has_from : (names : List VarName) (x : VarName) (o : Option ℕ) (r : Bool) → r ≡ is_some o → IfSome o (λ k. slice_get names k ≡ Some x) → IfNone o (Contains names x → ⊥) → IsTrue r ↔ Has names x
has_from names x None true e some none = absurd (cc)
has_from names x None false e some none = (λ t. absurd (cc), λ h. absurd (none (Contains-Has names x h)))
has_from names x (Some k) true e some none = (λ t. Has-slice_get names k x some, λ h. refl)
has_from names x (Some k) false e some none = absurd (cc)
