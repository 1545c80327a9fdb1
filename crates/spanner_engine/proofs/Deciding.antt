-- What can be told of members of lists, and of numbers.
use Rattle.std.proofs.Common.{◌≡◌, ℕ, zero, suc, ◌<◌, Bool, true, false, List, [], ◌∷◌, inl, inr, refl, sym, subst, arith}
use Rattle.std.specs.Prelude.{◌↔◌, IsTrue}
use Rattle.std.proofs.lemmas.Bool.{cases_lt, true≢false}
use Rattle.span_core.specs.Lists.{Has}
use Rattle.span_core.proofs.Deciding.{Decided}

pub decide_same : (P Q : Type 0) → P ↔ Q → Decided P → Decided Q
decide_same P Q both (inl p) = inl (both.0 p)
decide_same P Q both (inr never) = inr (λ q. never (both.1 q))

pub decide_true : (b : Bool) → Decided (IsTrue b)
decide_true true = inl refl
decide_true false = inr (λ e. true≢false (sym e))

-- of some element of a list
pub decide_some : {X : Type 0} (P : X → Type 0) (xs : List X) → ((x : X) → Has xs x → Decided (P x)) → Decided ((x : X) × Has xs x × P x)
decide_some P [] decide = inr (λ h. absurd h.1)
decide_some {X} P (x ∷ xs) decide = go (decide x (inl refl)) (decide_some P xs (λ y h. decide y (inr h)))
  where
    go : Decided (P x) → Decided ((y : X) × Has xs y × P y) → Decided ((y : X) × Has (x ∷ xs) y × P y)
    go (inl p) later = inl (x, inl refl, p)
    go (inr never) (inl h) = inl (h.0, inr h.1, h.2)
    go (inr never) (inr nowhere) = inr (λ h. elim h.1 [ inl e ↦ never (subst P (sym e) h.2) | inr k ↦ nowhere (h.0, k, h.2) ])

-- of some number below n
pub decide_below : (P : ℕ → Type 0) → ((k : ℕ) → Decided (P k)) → (n : ℕ) → Decided ((k : ℕ) × (k < n) × P k)
decide_below P decide zero = inr (λ h. omega (arith, h.1))
decide_below P decide (suc n) = go (decide_below P decide n) (decide n)
  where
    go : Decided ((k : ℕ) × (k < n) × P k) → Decided (P n) → Decided ((k : ℕ) × (k < suc n) × P k)
    go (inl h) d = inl (h.0, omega (arith, h.1), h.2)
    go (inr nowhere) (inl p) = inl (n, omega arith, p)
    go (inr nowhere) (inr never) = inr (λ h. elim (cases_lt h.0 n) [
      | inl low ↦ nowhere (h.0, low, h.2)
      | inr high ↦ never (let e : h.0 ≡ n = omega (arith, h.1, high) in subst P e h.2)
    ])

-- what can be told of each number is a set of numbers
abbrev pub is_so : {P : Type 0} → Decided P → Bool
is_so (inl p) = true
is_so (inr never) = false

pub so_where : (P : Type 0) (d : Decided P) → IsTrue (is_so d) ↔ P
so_where P (inl p) = (λ e. p, λ h. refl)
so_where P (inr never) = (λ e. absurd (true≢false (sym e)), λ h. absurd (never h))
