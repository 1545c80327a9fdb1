-- Laws of `Fit`: a part does not end before it begins, and a fit captures each sure variable, and none but the formula's variables.
use Rattle.std.proofs.Common.{◌≡◌, ℕ, zero, suc, ◌≤◌, ◌⊎◌, List, [], ◌∷◌, length, inl, inr, refl, sym, subst, arith}
use Rattle.std.proofs.lemmas.Option.{slice_get_within}
use Rattle.spanner_model.specs.Tree.{Tree, empty, one, cat_end, cat, alt_end, alt, rep, cap}
use Rattle.spanner_model.specs.Captures.{VarName, Captures, Captured}
use Rattle.spanner_model.specs.Fit.{Piece, Times, Fit}
use Rattle.spanner_model.specs.Sequential.{HasVar, IsSure}
use Rattle.spanner_model.proofs.CapturesLaws.{Captured-append_left, Captured-append_right, Captured-append_cases}

-- pieces one after another do not end before they begin
pub times_le : (P : Piece) → ((i j : ℕ) (m : Captures) → P i j m → i ≤ j) → (c i j : ℕ) (m : Captures) → Times P c i j m → i ≤ j
times_le P le zero i j m h = omega arith
times_le P le (suc c) i j m h = omega (arith, le i h.0 h.1 h.3, times_le P le c h.0 j h.2 h.4)

pub fit_le : (f : Tree) (d : List ℕ) (i j : ℕ) (m : Captures) → Fit f d i j m → i ≤ j
fit_le empty d i j m h = omega arith
fit_le (one set) d i j m h = omega arith
fit_le cat_end d i j m h = omega arith
fit_le (cat f rest) d i j m h = omega (arith, fit_le f d i h.0 h.1 h.3, fit_le rest d h.0 j h.2 h.4)
fit_le alt_end d i j m h = absurd h
fit_le (alt f rest) d i j m (inl h) = fit_le f d i j m h
fit_le (alt f rest) d i j m (inr h) = fit_le rest d i j m h
fit_le (rep f least most) d i j m h = times_le (Fit f d) (λ i j m. fit_le f d i j m) h.0 i j m h.3
fit_le (cap x f) d i j m h = omega (arith, fit_le f d i j h.1 h.4)

-- no capture of an empty list
none_captured : (m : Captures) (x : VarName) → m ≡ [] → Captured m x → ⊥
none_captured m x e h = subst (λ n. Captured n x) e h

times_vars : (P : Piece) (V : VarName → Type 0) → ((i j : ℕ) (m : Captures) → P i j m → (x : VarName) → Captured m x → V x) →
    (c i j : ℕ) (m : Captures) → Times P c i j m → (x : VarName) → Captured m x → V x
times_vars P V only zero i j m h x a = absurd (none_captured m x h.1 a)
times_vars P V only (suc c) i j m h x a =
    elim (Captured-append_cases h.1 h.2 x (subst (λ n. Captured n x) h.6 a)) [
      | inl b ↦ only i h.0 h.1 h.3 x b
      | inr b ↦ times_vars P V only c h.0 j h.2 h.4 x b
    ]

-- a fit captures variables of the formula alone
pub fit_only_vars : (f : Tree) (d : List ℕ) (i j : ℕ) (m : Captures) → Fit f d i j m → (x : VarName) → Captured m x → HasVar f x
fit_only_vars empty d i j m h x a = none_captured m x h.1 a
fit_only_vars (one set) d i j m h x a = none_captured m x h.4 a
fit_only_vars cat_end d i j m h x a = none_captured m x h.1 a
fit_only_vars (cat f rest) d i j m h x a =
    elim (Captured-append_cases h.1 h.2 x (subst (λ n. Captured n x) h.6 a)) [
      | inl b ↦ inl (fit_only_vars f d i h.0 h.1 h.3 x b)
      | inr b ↦ inr (fit_only_vars rest d h.0 j h.2 h.4 x b)
    ]
fit_only_vars alt_end d i j m h x a = h
fit_only_vars (alt f rest) d i j m (inl h) x a = inl (fit_only_vars f d i j m h x a)
fit_only_vars (alt f rest) d i j m (inr h) x a = inr (fit_only_vars rest d i j m h x a)
fit_only_vars (rep f least most) d i j m h x a =
    times_vars (Fit f d) (HasVar f) (λ i j m. fit_only_vars f d i j m) h.0 i j m h.3 x a
fit_only_vars (cap y f) d i j m h x a =
    elim (subst (λ n. Captured n x) h.6 a) as (λ _. (y ≡ x) ⊎ HasVar f x) [
      | inl e ↦ inl e
      | inr b ↦ inr (fit_only_vars f d i j h.1 h.4 x b)
    ]

-- of exactly one piece
once_captured : (P : Piece) (c i j : ℕ) (m : Captures) (x : VarName) → 1 ≡ c → Times P c i j m →
    ((k : ℕ) (n : Captures) → P i k n → Captured n x) → Captured m x
once_captured P zero i j m x e t each = absurd (omega (arith, e))
once_captured P (suc c) i j m x e t each =
    subst (λ n. Captured n x) (sym t.6) (Captured-append_left t.1 t.2 x (each t.0 t.1 t.3))

-- a fit captures each sure variable
pub fit_sure : (f : Tree) (d : List ℕ) (i j : ℕ) (m : Captures) → Fit f d i j m → (x : VarName) → IsSure f x → Captured m x
fit_sure empty d i j m h x s = absurd s
fit_sure (one set) d i j m h x s = absurd s
fit_sure cat_end d i j m h x s = absurd s
fit_sure (cat f rest) d i j m h x (inl s) =
    subst (λ n. Captured n x) (sym h.6) (Captured-append_left h.1 h.2 x (fit_sure f d i h.0 h.1 h.3 x s))
fit_sure (cat f rest) d i j m h x (inr s) =
    subst (λ n. Captured n x) (sym h.6) (Captured-append_right h.1 h.2 x (fit_sure rest d h.0 j h.2 h.4 x s))
fit_sure alt_end d i j m h x s = absurd h
fit_sure (alt f rest) d i j m (inl h) x s = fit_sure f d i j m h x s.0
fit_sure (alt f rest) d i j m (inr h) x s = fit_sure rest d i j m h x s.1
fit_sure (rep f least most) d i j m h x s =
    let low : least ≤ h.0 = h.1 in
    let high : h.0 ≤ 1 = h.2 1 s.1 in
    once_captured (Fit f d) h.0 i j m x (omega (arith, low, high, s.0)) h.3 (λ k n g. fit_sure f d i k n g x s.2)
fit_sure (cap y f) d i j m h x s =
    subst (λ n. Captured n x) (sym h.6) (elim s as (λ _. (y ≡ x) ⊎ Captured h.1 x) [
      | inl e ↦ inl e
      | inr w ↦ inr (fit_sure f d i j h.1 h.4 x w)
    ])

-- without variables nothing is captured
pub nothing_captured : (m : Captures) → ((x : VarName) → Captured m x → ⊥) → m ≡ []
nothing_captured [] none = refl
nothing_captured (c ∷ m) none = absurd (none c.0 (inl refl))

pub fit_no_vars : (f : Tree) (d : List ℕ) (i j : ℕ) (m : Captures) → ((x : VarName) → HasVar f x → ⊥) → Fit f d i j m → m ≡ []
fit_no_vars f d i j m none h = nothing_captured m (λ x a. none x (fit_only_vars f d i j m h x a))

pub times_within : (P : Piece) (n : ℕ) → ((i j : ℕ) (m : Captures) → i ≤ n → P i j m → j ≤ n) → (c i j : ℕ) (m : Captures) → i ≤ n → Times P c i j m → j ≤ n
times_within P n stays zero i j m le h = omega arith
times_within P n stays (suc c) i j m le h = times_within P n stays c h.0 j h.2 (stays i h.0 h.1 le h.3) h.4

-- a fit that begins in the document ends in it
pub fit_within : (f : Tree) (d : List ℕ) (i j : ℕ) (m : Captures) → i ≤ length d → Fit f d i j m → j ≤ length d
fit_within empty d i j m le h = omega arith
fit_within (one set) d i j m le h = omega (arith, slice_get_within d i h.0 h.1)
fit_within cat_end d i j m le h = omega arith
fit_within (cat f rest) d i j m le h = fit_within rest d h.0 j h.2 (fit_within f d i h.0 h.1 le h.3) h.4
fit_within alt_end d i j m le h = absurd h
fit_within (alt f rest) d i j m le (inl h) = fit_within f d i j m le h
fit_within (alt f rest) d i j m le (inr h) = fit_within rest d i j m le h
fit_within (rep f least most) d i j m le h = times_within (Fit f d) (length d) (λ i j m. fit_within f d i j m) h.0 i j m le h.3
fit_within (cap x f) d i j m le h = fit_within f d i j h.1 le h.4
