-- Whether names have a property can be told, and so the least of them that has it; and whether names are too many.
use Rattle.std.proofs.Common.{◌≡◌, ◌≤◌, ◌⊎◌, ◌↔◌, ◌||◌, Bool, true, false, nat_lt, List, [], ◌∷◌, length, Option, Some, None, inl, inr, refl, sym, subst, arith}
use Rattle.std.specs.declared.cmp.Ordering.TheVariants.{Less}
use Rattle.std.proofs.lemmas.Bool.Decides.{nat_tests}
use Rattle.span_core.specs.declared.TheConstants.{MOST_VARIABLES}
use Rattle.span_core.specs.NameSets.{name_cmp, with_name, Ascending}
use Rattle.span_core.proofs.NameSetLaws.{with_ascends, none_are_variables}
use Rattle.spanner_model.specs.Captures.{VarName}
use Rattle.span_core.specs.Lists.{Has, AtMost}
use Rattle.spanner_model.proofs.Deciding.{Told}
use Rattle.span_core.proofs.HasLaws.{distinct-le}
use Rattle.spanner_model.proofs.NameLaws.{with_cases, with_here, with_there, not_below_itself, ascending-distinct}
use Rattle.functional_check.specs.Faults.{IsLeast, IsLeastOf}
use Rattle.functional_check.proofs.LeastLaws.{smaller_of, least_both, least_same, at_most_less}
use Rattle.query_parser.specs.Reads.{is_among, finds_room}
use Rattle.query_parser.proofs.Lists.{among_not, room_keeps}

-- ---- told

pub told_both : {P Q : Type 0} → Told P → Told Q → Told (P × Q)
told_both (inl p) (inl q) = inl (p, q)
told_both (inl p) (inr n) = inr (λ h. n h.1)
told_both (inr n) q = inr (λ h. n h.0)

pub told_not : {P : Type 0} → Told P → Told (¬ P)
told_not (inl p) = inr (λ n. n p)
told_not (inr n) = inl n

-- what is told and is not denied holds
pub held : {P : Type 0} → Told P → ((P → ⊥) → ⊥) → P
held (inl p) n = p
held (inr m) n = absurd (n m)

-- ---- the least name of a list

least_alone : (P : VarName → Type 0) (y : VarName) → Told (P y) → (o : Option VarName) × IsLeastOf (λ z. (y ≡ z) × P z) o
least_alone P y (inl p) = (Some y, ((refl, p), λ z h less. not_below_itself y (rw (← h.0) at less)))
least_alone P y (inr n) = (None, λ x h. n (subst P (sym h.0) h.1))

spread : (P : VarName → Type 0) (y : VarName) (names : List VarName) (z : VarName) → (((y ≡ z) × P z) ⊎ (Has names z × P z)) ↔ (Has (y ∷ names) z × P z)
spread P y names z = (
  λ h. elim h as (λ _. Has (y ∷ names) z × P z) [ inl a ↦ (inl a.0, a.1) | inr b ↦ (inr b.0, b.1) ],
  λ h. elim h.0 as (λ _. ((y ≡ z) × P z) ⊎ (Has names z × P z)) [ inl e ↦ inl (e, h.1) | inr m ↦ inr (m, h.1) ],
)

least_listed : (P : VarName → Type 0) → ((x : VarName) → Told (P x)) → (names : List VarName) → (o : Option VarName) × IsLeastOf (λ z. Has names z × P z) o
least_listed P told [] = (None, λ x h. h.0)
least_listed P told (y ∷ names) =
    let (a, first) = least_alone P y (told y) in
    let (b, others) = least_listed P told names in (
      smaller_of a b,
      least_same (λ z. ((y ≡ z) × P z) ⊎ (Has names z × P z)) (λ z. Has (y ∷ names) z × P z) (smaller_of a b) (spread P y names)
          (least_both (λ z. (y ≡ z) × P z) (λ z. Has names z × P z) a b first others),
    )

least_by : (P : VarName → Type 0) (o : Option VarName) → IsLeastOf P o → ((x : VarName) × IsLeast P x) ⊎ ((x : VarName) → P x → ⊥)
least_by P None h = inr h
least_by P (Some x) h = inl (x, h)

-- the least name that has the property, where all that have it are listed; or that there is none
pub least_or_none : (P : VarName → Type 0) → ((x : VarName) → Told (P x)) → (names : List VarName) → ((x : VarName) → P x → Has names x) →
    ((x : VarName) × IsLeast P x) ⊎ ((x : VarName) → P x → ⊥)
least_or_none P told names all =
    let (o, h) = least_listed P told names in
    least_by P o (least_same (λ z. Has names z × P z) P o (λ x. (λ h. h.1, λ p. (all x p, p))) h)

-- ---- how many names there are

abbrev RoomFor : List VarName → List VarName → Type 0
RoomFor old names = AtMost MOST_VARIABLES (λ x. Has old x ⊎ Has names x)

in_next : (y : VarName) (old names : List VarName) (x : VarName) → Has (with_name y old) x ⊎ Has names x → Has old x ⊎ Has (y ∷ names) x
in_next y old names x (inl h) = elim (with_cases y x old h) as (λ _. Has old x ⊎ Has (y ∷ names) x) [ inl e ↦ inr (inl e) | inr o ↦ inl o ]
in_next y old names x (inr h) = inr (inr h)

from_next : (y : VarName) (old names : List VarName) (x : VarName) → Has old x ⊎ Has (y ∷ names) x → Has (with_name y old) x ⊎ Has names x
from_next y old names x (inl h) = inl (with_there y x old h)
from_next y old names x (inr (inl e)) = inl (subst (Has (with_name y old)) e (with_here y old))
from_next y old names x (inr (inr h)) = inr h

told_next : (y : VarName) (old names : List VarName) → Told (RoomFor (with_name y old) names) → Told (RoomFor old (y ∷ names))
told_next y old names (inl few) = inl (at_most_less MOST_VARIABLES (λ x. Has old x ⊎ Has (y ∷ names) x) (λ x. Has (with_name y old) x ⊎ Has names x) (from_next y old names) few)
told_next y old names (inr many) =
    inr (λ few. many (at_most_less MOST_VARIABLES (λ x. Has (with_name y old) x ⊎ Has names x) (λ x. Has old x ⊎ Has (y ∷ names) x) (in_next y old names) few))

no_room : (y : VarName) (old names : List VarName) → Ascending old → finds_room old y ≡ false → RoomFor old (y ∷ names) → ⊥
no_room y old names up none few = by (is_among old y) refl none
  where
    by : (b : Bool) → is_among old y ≡ b → (b || nat_lt (length old) MOST_VARIABLES) ≡ false → ⊥
    by true e h = absurd (cc)
    by false e h =
        let full : MOST_VARIABLES ≤ length old = grind (arith, nat_tests) in
        let more = distinct-le (y ∷ old) few.0 (among_not old y e, ascending-distinct old up)
        (λ x h. few.2 x (elim h as (λ _. Has old x ⊎ Has (y ∷ names) x) [ inl is ↦ inr (inl is) | inr o ↦ inl o ])) in
        omega (arith, more, full, few.1)

told_room : (names old : List VarName) → Ascending old → length old ≤ MOST_VARIABLES → Told (RoomFor old names)
told_room [] old up few = inl (old, few, λ x h. elim h as (λ _. Has old x) [ inl o ↦ o | inr n ↦ absurd n ])
told_room (y ∷ names) old up few = by (finds_room old y) refl (told_room names)
  where
    by : (b : Bool) → finds_room old y ≡ b → ((others : List VarName) → Ascending others → length others ≤ MOST_VARIABLES → Told (RoomFor others names)) → Told (RoomFor old (y ∷ names))
    by true e later = told_next y old names (later (with_name y old) (with_ascends y old up) (room_keeps old y up few e))
    by false e later = inr (no_room y old names up e)

-- whether the names are too many
pub told_few : (names : List VarName) → Told (AtMost MOST_VARIABLES (Has names))
told_few names = by (told_room names [] none_are_variables.ascending (omega arith))
  where
    by : Told (RoomFor [] names) → Told (AtMost MOST_VARIABLES (Has names))
    by (inl few) = inl (at_most_less MOST_VARIABLES (Has names) (λ x. Has [] x ⊎ Has names x) (λ x h. inr h) few)
    by (inr many) = inr (λ few. many (at_most_less MOST_VARIABLES (λ x. Has [] x ⊎ Has names x) (Has names) (λ x h. elim h as (λ _. Has names x) [ inl n ↦ absurd n | inr m ↦ m ]) few))
