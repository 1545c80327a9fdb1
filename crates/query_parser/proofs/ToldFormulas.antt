-- A formula is sequential or has a fault.
use Rattle.std.proofs.Common.{◌≡◌, ◌⊎◌, List, [], ◌∷◌, ◌++◌, Some, inl, inr, refl}
use Rattle.spanner_model.specs.Captures.{VarName}
use Rattle.span_core.specs.Lists.{Has}
use Rattle.spanner_model.specs.Tree.{Tree, empty, one, cat_end, cat, alt_end, alt, rep, cap}
use Rattle.spanner_model.specs.Sequential.{HasVar, IsSequential}
use Rattle.spanner_model.specs.WellBuilt.{IsBuilt, AreParts, AreArms}
use Rattle.spanner_model.proofs.Deciding.{Told, told_var, told_either}
use Rattle.span_core.proofs.HasLaws.{Has-append_left, Has-append_right, Has-append_cases}
use Rattle.functional_check.specs.declared.checking.CheckFault.{CheckFault}
use Rattle.functional_check.specs.declared.checking.CheckFault.TheVariants.{BoundTwice, UnderRepeat}
use Rattle.functional_check.specs.Faults.{IsLeast, InTwoParts, HasSequentialParts, InnerFault, IsFault}
use Rattle.query_parser.proofs.ToldNames.{told_both, least_or_none}
use Rattle.query_parser.proofs.SureLaws.{told_most}

-- the names of a formula
abbrev pub formula_names : Tree → List VarName
formula_names empty = []
formula_names (one s) = []
formula_names cat_end = []
formula_names (cat f rest) = formula_names f ++ formula_names rest
formula_names alt_end = []
formula_names (alt f rest) = formula_names f ++ formula_names rest
formula_names (rep f least most) = formula_names f
formula_names (cap x f) = x ∷ formula_names f

either_listed : (a b : List VarName) (x : VarName) {P Q : Type 0} → (P → Has a x) → (Q → Has b x) → P ⊎ Q → Has (a ++ b) x
either_listed a b x p q (inl h) = Has-append_left a b x (p h)
either_listed a b x p q (inr h) = Has-append_right a b x (q h)

either_named : (a b : List VarName) (x : VarName) {P Q : Type 0} → (Has a x → P) → (Has b x → Q) → Has (a ++ b) x → P ⊎ Q
either_named a b x {P} {Q} p q h = elim (Has-append_cases a b x h) as (λ _. P ⊎ Q) [ inl m ↦ inl (p m) | inr m ↦ inr (q m) ]

pub var_listed : (f : Tree) (x : VarName) → HasVar f x → Has (formula_names f) x
var_listed empty x h = h
var_listed (one s) x h = h
var_listed cat_end x h = h
var_listed (cat f rest) x h = either_listed (formula_names f) (formula_names rest) x (var_listed f x) (var_listed rest x) h
var_listed alt_end x h = h
var_listed (alt f rest) x h = either_listed (formula_names f) (formula_names rest) x (var_listed f x) (var_listed rest x) h
var_listed (rep f least most) x h = var_listed f x h
var_listed (cap y f) x (inl e) = inl e
var_listed (cap y f) x (inr h) = inr (var_listed f x h)

pub listed_var : (f : Tree) (x : VarName) → Has (formula_names f) x → HasVar f x
listed_var empty x h = h
listed_var (one s) x h = h
listed_var cat_end x h = h
listed_var (cat f rest) x h = either_named (formula_names f) (formula_names rest) x (listed_var f x) (listed_var rest x) h
listed_var alt_end x h = h
listed_var (alt f rest) x h = either_named (formula_names f) (formula_names rest) x (listed_var f x) (listed_var rest x) h
listed_var (rep f least most) x h = listed_var f x h
listed_var (cap y f) x (inl e) = inl e
listed_var (cap y f) x (inr h) = inr (listed_var f x h)

-- ---- concatenations

told_two : (f : Tree) (x : VarName) → Told (InTwoParts f x)
told_two (cat f rest) x = told_either (told_both (told_var f x) (told_var rest x)) (told_two rest x)
told_two empty x = inr (λ h. h)
told_two (one s) x = inr (λ h. h)
told_two cat_end x = inr (λ h. h)
told_two alt_end x = inr (λ h. h)
told_two (alt f rest) x = inr (λ h. h)
told_two (rep f least most) x = inr (λ h. h)
told_two (cap y f) x = inr (λ h. h)

two_var : (f : Tree) (x : VarName) → InTwoParts f x → HasVar f x
two_var (cat f rest) x (inl h) = inl h.0
two_var (cat f rest) x (inr h) = inr (two_var rest x h)
two_var empty x h = absurd h
two_var (one s) x h = absurd h
two_var cat_end x h = absurd h
two_var alt_end x h = absurd h
two_var (alt f rest) x h = absurd h
two_var (rep f least most) x h = absurd h
two_var (cap y f) x h = absurd h

parts_sequential : (f : Tree) → AreParts f → HasSequentialParts f → ((x : VarName) → InTwoParts f x → ⊥) → IsSequential f
parts_sequential cat_end c ok none = tt
parts_sequential (cat f rest) c ok none = (ok.0, parts_sequential rest c.1 ok.1 (λ x h. none x (inr h)), λ x a b. none x (inl (a, b)))
parts_sequential _ c ok none = absurd c

arms_sequential : (f : Tree) → AreArms f → HasSequentialParts f → IsSequential f
arms_sequential alt_end c ok = tt
arms_sequential (alt f rest) c ok = (ok.0, arms_sequential rest c.1 ok.1)
arms_sequential _ c ok = absurd c

-- ---- formulas

abbrev pub SequentialOrFault : Tree → Type 0
SequentialOrFault f = IsSequential f ⊎ ((e : CheckFault) × IsFault f e)

-- the parts of a concatenation, and the arms of an alternation
abbrev PartsOrFault : Tree → Type 0
PartsOrFault f = HasSequentialParts f ⊎ ((e : CheckFault) × InnerFault f e)

mutual
  pub sequential_or_fault : (f : Tree) → IsBuilt f → SequentialOrFault f
  sequential_or_fault empty c = inl tt
  sequential_or_fault (one s) c = inl tt
  sequential_or_fault cat_end c = inl tt
  sequential_or_fault (cat f rest) c = by (sequential_or_fault f c.0) (parts_or_fault rest c.1)
    where
      twice : IsSequential f → HasSequentialParts rest → ((x : VarName) × IsLeast (InTwoParts (cat f rest)) x) ⊎ ((x : VarName) → InTwoParts (cat f rest) x → ⊥) → SequentialOrFault (cat f rest)
      twice ok others (inl h) = inr (BoundTwice h.0, inr ((ok, others), h.1))
      twice ok others (inr none) = inl (ok, parts_sequential rest c.1 others (λ x h. none x (inr h)), λ x a b. none x (inl (a, b)))

      by : SequentialOrFault f → PartsOrFault rest → SequentialOrFault (cat f rest)
      by (inr h) later = inr (h.0, inl (inl h.1))
      by (inl ok) (inr h) = inr (h.0, inl (inr (ok, h.1)))
      by (inl ok) (inl others) =
          twice ok others (least_or_none (InTwoParts (cat f rest)) (told_two (cat f rest)) (formula_names (cat f rest)) (λ x h. var_listed (cat f rest) x (two_var (cat f rest) x h)))
  sequential_or_fault alt_end c = inl tt
  sequential_or_fault (alt f rest) c = by (sequential_or_fault f c.0) (arms_or_fault rest c.1)
    where
      by : SequentialOrFault f → PartsOrFault rest → SequentialOrFault (alt f rest)
      by (inr h) later = inr (h.0, inl (inl h.1))
      by (inl ok) (inr h) = inr (h.0, inl (inr (ok, h.1)))
      by (inl ok) (inl others) = inl (ok, arms_sequential rest c.1 others)
  sequential_or_fault (rep f least most) c = by (sequential_or_fault f c.0) (told_most most)
    where
      under : IsSequential f → (most ≡ Some 1 → ⊥) → ((x : VarName) × IsLeast (HasVar f) x) ⊎ ((x : VarName) → HasVar f x → ⊥) → SequentialOrFault (rep f least most)
      under ok many (inl h) = inr (UnderRepeat h.0, inr (ok, (many, h.1)))
      under ok many (inr none) = inl (ok, inl none)

      by : SequentialOrFault f → Told (most ≡ Some 1) → SequentialOrFault (rep f least most)
      by (inr h) once = inr (h.0, inl h.1)
      by (inl ok) (inl once) = inl (ok, inr once)
      by (inl ok) (inr many) = under ok many (least_or_none (HasVar f) (told_var f) (formula_names f) (var_listed f))
  sequential_or_fault (cap x f) c = by (sequential_or_fault f c.0) (told_var f x)
    where
      by : SequentialOrFault f → Told (HasVar f x) → SequentialOrFault (cap x f)
      by (inr h) own = inr (h.0, inl h.1)
      by (inl ok) (inl h) = inr (BoundTwice x, inr (ok, (refl, h)))
      by (inl ok) (inr none) = inl (ok, none)

  parts_or_fault : (f : Tree) → AreParts f → PartsOrFault f
  parts_or_fault cat_end c = inl tt
  parts_or_fault (cat f rest) c = by (sequential_or_fault f c.0) (parts_or_fault rest c.1)
    where
      by : SequentialOrFault f → PartsOrFault rest → PartsOrFault (cat f rest)
      by (inr h) later = inr (h.0, inl h.1)
      by (inl ok) (inr h) = inr (h.0, inr (ok, h.1))
      by (inl ok) (inl others) = inl (ok, others)
  parts_or_fault _ c = absurd c

  arms_or_fault : (f : Tree) → AreArms f → PartsOrFault f
  arms_or_fault alt_end c = inl tt
  arms_or_fault (alt f rest) c = by (sequential_or_fault f c.0) (arms_or_fault rest c.1)
    where
      by : SequentialOrFault f → PartsOrFault rest → PartsOrFault (alt f rest)
      by (inr h) later = inr (h.0, inl h.1)
      by (inl ok) (inr h) = inr (h.0, inr (ok, h.1))
      by (inl ok) (inl others) = inl (ok, others)
  arms_or_fault _ c = absurd c
