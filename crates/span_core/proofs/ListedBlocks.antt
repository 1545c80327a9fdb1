-- What is listed at a position.
use Rattle.std.proofs.Common.{◌≡◌, ℕ, zero, suc, ◌+◌, ◌<◌, ◌≤◌, max, List, [], ◌∷◌, length, get_or, refl, sym, ap, ◌∙◌, subst, inl, inr, arith, add-one}
use Rattle.std.specs.Prelude.{if◌then◌else◌, ◌==◌}
use Rattle.std.proofs.lemmas.Bool.{cases_eq, eq-eqb, ne_eqb, cond_both}
use Rattle.span_core.specs.Blocks.{Ascends, listed}

pub adjacent : (bs : List (ℕ × ℕ)) (j : ℕ) (d : ℕ × ℕ) → Ascends bs → suc j < length bs → (get_or bs j d).0 < (get_or bs (suc j) d).0
adjacent bs j d h l = subst (λ (n : ℕ). (get_or bs j d).0 < (get_or bs n d).0) (add-one j) (h j d (omega arith))

pub tail_ascends : (b : ℕ × ℕ) (bs : List (ℕ × ℕ)) → Ascends (b ∷ bs) → Ascends bs
tail_ascends b bs h = λ k d l. let e : suc k ≡ k + 1 = omega arith in
    subst (λ (n : ℕ). (get_or bs k d).0 < (get_or bs n d).0) e (adjacent (b ∷ bs) (suc k) d h (omega arith))

pub first_below : (b : ℕ × ℕ) (bs : List (ℕ × ℕ)) (j : ℕ) (d : ℕ × ℕ) → Ascends (b ∷ bs) → j < length bs → b.0 < (get_or bs j d).0
first_below b bs zero d h l = adjacent (b ∷ bs) zero d h (omega arith)
first_below b bs (suc j) d h l =
    let before : b.0 < (get_or bs j d).0 = first_below b bs j d h (omega arith) in
    let next : (get_or bs j d).0 < (get_or bs (suc j) d).0 = adjacent (b ∷ bs) (suc j) d h (omega arith) in
    omega (arith, before, next)

-- each entry is what is listed at its position
pub listed_at : (bs : List (ℕ × ℕ)) (j : ℕ) (d : ℕ × ℕ) → Ascends bs → j < length bs → listed bs (get_or bs j d).0 ≡ (get_or bs j d).1
listed_at [] j d h l = absurd (omega arith)
listed_at (b ∷ bs) zero d h l = ap (λ t. if t then b.1 else listed bs b.0) (eq-eqb b.0 b.0 refl)
listed_at (b ∷ bs) (suc j) d h l =
    ap (λ t. if t then b.1 else listed bs (get_or bs j d).0) (ne_eqb b.0 (get_or bs j d).0 (λ e. omega (arith, e, first_below b bs j d h (omega arith))))
    ∙ listed_at bs j d (tail_ascends b bs h) (omega arith)

-- what holds of 0 and of each entry's block holds of what is listed
pub listed_holds : (P : ℕ → Type 0) (bs : List (ℕ × ℕ)) → P 0 → ((j : ℕ) (d : ℕ × ℕ) → j < length bs → P (get_or bs j d).1) → (at : ℕ) → P (listed bs at)
listed_holds P [] none each at = none
listed_holds P (b ∷ bs) none each at =
    cond_both (b.0 == at) b.1 (listed bs at) P (λ _. each 0 b (omega arith)) (λ _. listed_holds P bs none (λ j d l. each (suc j) d (omega arith)) at)

-- a function that has each entry's block at its position, and 0 where nothing is listed, is what is listed
pub agrees : (x : ℕ → ℕ) (bs : List (ℕ × ℕ)) (i : ℕ) → ((j : ℕ) (d : ℕ × ℕ) → j < length bs → x (get_or bs j d).0 ≡ (get_or bs j d).1) → (listed bs i ≡ 0 → x i ≡ 0) → x i ≡ listed bs i
agrees x [] i each none = none refl
agrees x (b ∷ bs) i each none = elim (cases_eq b.0 i) [
  | inl e ↦ (ap x (sym e) ∙ each 0 b (omega arith)) ∙ sym (ap (λ t. if t then b.1 else listed bs i) (eq-eqb b.0 i e))
  | inr ne ↦ (let skip : listed (b ∷ bs) i ≡ listed bs i = ap (λ t. if t then b.1 else listed bs i) (ne_eqb b.0 i ne) in
      agrees x bs i (λ j d l. each (suc j) d (omega arith)) (λ e. none (skip ∙ e)) ∙ sym skip)
]

-- a position past all that are listed
abbrev pub past_listed : List (ℕ × ℕ) → ℕ
past_listed [] = 0
past_listed (b ∷ blocks) = max (b.0 + 1) (past_listed blocks)

pub listed_past : (blocks : List (ℕ × ℕ)) (at : ℕ) → past_listed blocks ≤ at → listed blocks at ≡ 0
listed_past [] at h = refl
listed_past (b ∷ blocks) at h = ap (λ t. if t then b.1 else listed blocks at) (ne_eqb b.0 at (λ e. omega (arith, e))) ∙ listed_past blocks at (omega arith)
