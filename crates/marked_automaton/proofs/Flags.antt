-- The places of the flags that are set.
use Rattle.std.proofs.Common.{◌≡◌, ℕ, zero, suc, ◌+◌, ◌<◌, ◌↔◌, ◌⊎◌, Bool, true, false, IsTrue, List, [], ◌∷◌, ◌++◌, length, get_or, inl, inr, refl, sym, ap, subst, arith, ◌∙◌}
use Rattle.std.proofs.Math.ListN.{set}
use Rattle.std.specs.Prelude.{replicate}
use Rattle.span_core.specs.Lists.{Has}
use Rattle.marked_automaton.specs.Inside.{flagged}

-- the place of a flag that is set
pub flag_of-flagged : (k : ℕ) (flags : List Bool) (p : ℕ) → Has (flagged k flags) p →
    (i : ℕ) × (i < length flags) × (p ≡ k + i) × (get_or flags i false ≡ true)
flag_of-flagged k [] p h = absurd h
flag_of-flagged k (true ∷ flags) p (inl e) = (zero, omega arith, omega (arith, e), refl)
flag_of-flagged k (true ∷ flags) p (inr h) =
    let r = flag_of-flagged (suc k) flags p h in (suc r.0, omega (arith, r.1), omega (arith, r.2), r.3)
flag_of-flagged k (false ∷ flags) p h =
    let r = flag_of-flagged (suc k) flags p h in (suc r.0, omega (arith, r.1), omega (arith, r.2), r.3)

pub flagged_of-flag : (k : ℕ) (flags : List Bool) (i p : ℕ) → p ≡ k + i → get_or flags i false ≡ true → Has (flagged k flags) p
flagged_of-flag k [] i p at h = absurd (cc)
flagged_of-flag k (true ∷ flags) zero p at h = inl (omega arith)
flagged_of-flag k (true ∷ flags) (suc i) p at h = inr (flagged_of-flag (suc k) flags i p (omega arith) h)
flagged_of-flag k (false ∷ flags) zero p at h = absurd (cc)
flagged_of-flag k (false ∷ flags) (suc i) p at h = flagged_of-flag (suc k) flags i p (omega arith) h

-- from 0
pub is_flagged : (flags : List Bool) (p : ℕ) → IsTrue (get_or flags p false) → Has (flagged 0 flags) p
is_flagged flags p h = flagged_of-flag 0 flags p p (omega arith) h

pub flagged_is : (flags : List Bool) (p : ℕ) → Has (flagged 0 flags) p → IsTrue (get_or flags p false)
flagged_is flags p h =
    let r = flag_of-flagged 0 flags p h in
    let at : r.0 ≡ p = omega (arith, r.2) in
    subst (λ i. IsTrue (get_or flags i false)) at r.3

pub flagged_within : (flags : List Bool) (p : ℕ) → Has (flagged 0 flags) p → p < length flags
flagged_within flags p h = let r = flag_of-flagged 0 flags p h in omega (arith, r.1, r.2)

-- the flag that stands there
pub flag_at : (flags : List Bool) (p : ℕ) (b : Bool) → p < length flags → b ≡ get_or flags p b → IsTrue b ↔ Has (flagged 0 flags) p
flag_at flags p b within e =
    let same : b ≡ get_or flags p false = e ∙ any flags p b within in
    ((λ h. is_flagged flags p (sym same ∙ h)), (λ h. same ∙ flagged_is flags p h))
  where
    any : (flags : List Bool) (p : ℕ) (b : Bool) → p < length flags → get_or flags p b ≡ get_or flags p false
    any [] p b l = absurd (omega arith)
    any (c ∷ flags) zero b l = refl
    any (c ∷ flags) (suc p) b l = any flags p b (omega arith)

-- no flag is set
pub flagged_none : (k n : ℕ) → flagged k (replicate n false) ≡ []
flagged_none k zero = refl
flagged_none k (suc n) = flagged_none (suc k) n

-- flags that are not set, behind others
pub flagged_more : (k : ℕ) (flags : List Bool) (n : ℕ) → flagged k (flags ++ replicate n false) ≡ flagged k flags
flagged_more k [] n = flagged_none k n
flagged_more k (true ∷ flags) n = ap (λ xs. k ∷ xs) (flagged_more (suc k) flags n)
flagged_more k (false ∷ flags) n = flagged_more (suc k) flags n

-- with one flag more
pub set_cases : (flags : List Bool) (i p : ℕ) → get_or (set flags i true) p false ≡ true → (get_or flags p false ≡ true) ⊎ (p ≡ i)
set_cases [] i p h = inl h
set_cases (b ∷ flags) zero zero h = inr refl
set_cases (b ∷ flags) zero (suc p) h = inl h
set_cases (b ∷ flags) (suc i) zero h = inl h
set_cases (b ∷ flags) (suc i) (suc p) h = elim (set_cases flags i p h) [ inl a ↦ inl a | inr e ↦ inr (ap suc e) ]

pub set_here : (flags : List Bool) (i : ℕ) → i < length flags → get_or (set flags i true) i false ≡ true
set_here [] i h = absurd (omega arith)
set_here (b ∷ flags) zero h = refl
set_here (b ∷ flags) (suc i) h = set_here flags i (omega arith)

pub set_there : (flags : List Bool) (i p : ℕ) → get_or flags p false ≡ true → get_or (set flags i true) p false ≡ true
set_there [] i p h = h
set_there (b ∷ flags) zero zero h = refl
set_there (b ∷ flags) zero (suc p) h = h
set_there (b ∷ flags) (suc i) zero h = h
set_there (b ∷ flags) (suc i) (suc p) h = set_there flags i p h

pub flagged_set : (flags : List Bool) (i p : ℕ) → i < length flags →
    Has (flagged 0 (set flags i true)) p ↔ (Has (flagged 0 flags) p ⊎ (p ≡ i))
flagged_set flags i p within = (there, back)
  where
    there : Has (flagged 0 (set flags i true)) p → Has (flagged 0 flags) p ⊎ (p ≡ i)
    there h =
        let r = flag_of-flagged 0 (set flags i true) p h in
        elim (set_cases flags i r.0 r.3) [
          | inl a ↦ inl (flagged_of-flag 0 flags r.0 p r.2 a)
          | inr e ↦ inr (omega (arith, r.2, e))
        ]

    back : Has (flagged 0 flags) p ⊎ (p ≡ i) → Has (flagged 0 (set flags i true)) p
    back (inl h) = let r = flag_of-flagged 0 flags p h in flagged_of-flag 0 (set flags i true) r.0 p r.2 (set_there flags i r.0 r.3)
    back (inr e) = flagged_of-flag 0 (set flags i true) i p (omega (arith, e)) (set_here flags i within)
