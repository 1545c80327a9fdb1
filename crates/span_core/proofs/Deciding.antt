-- What can be told: that it is so, or that it is not.
use Rattle.std.proofs.Common.{ℕ, ◌≤◌, ◌⊎◌, inl, inr, arith}
use Rattle.std.proofs.lemmas.Bool.{cases_lt}

abbrev pub Decided : Type 0 → Type 0
Decided P = P ⊎ (P → ⊥)

pub decide_both : (P Q : Type 0) → Decided P → Decided Q → Decided (P × Q)
decide_both P Q (inl p) (inl q) = inl (p, q)
decide_both P Q (inl p) (inr never) = inr (λ h. never h.1)
decide_both P Q (inr never) d = inr (λ h. never h.0)

pub decide_either : (P Q : Type 0) → Decided P → Decided Q → Decided (P ⊎ Q)
decide_either P Q (inl p) d = inl (inl p)
decide_either P Q (inr never) (inl q) = inl (inr q)
decide_either P Q (inr never) (inr nowhere) = inr (λ h. elim h [ inl p ↦ never p | inr q ↦ nowhere q ])

pub decide_not : (P : Type 0) → Decided P → Decided (P → ⊥)
decide_not P (inl p) = inr (λ never. never p)
decide_not P (inr never) = inl never

pub decide_le : (a b : ℕ) → Decided (a ≤ b)
decide_le a b = elim (cases_lt b a) [ inl l ↦ inr (λ h. omega (arith, l, h)) | inr l ↦ inl (omega (arith, l)) ]
