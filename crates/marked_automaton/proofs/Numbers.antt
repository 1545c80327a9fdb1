-- New numbers for what is kept.
use Rattle.std.proofs.Common.{◌≡◌, ℕ, zero, suc, ◌+◌, ◌<◌, ◌≤◌, ◌↔◌, Bool, true, false, List, [], ◌∷◌, length, get_or, Some, inl, inr, refl, ap, arith}
use Rattle.std.proofs.lemmas.Bool.{false≢true}
use Rattle.marked_automaton.specs.Reach.{IsFlagged}
use Rattle.marked_automaton.specs.Trimmed.{both, count_set, numbered, number_of, kept_flags}
use Rattle.marked_automaton.proofs.Listed.{some_same, same_or_not, compared}

pub count_le : (flags : List Bool) → count_set flags ≤ length flags
count_le [] = omega arith
count_le (true ∷ flags) = omega (arith, count_le flags)
count_le (false ∷ flags) = omega (arith, count_le flags)

pub numbered_len : (k : ℕ) (flags : List Bool) → length (numbered k flags) ≡ length flags
numbered_len k [] = refl
numbered_len k (true ∷ flags) = ap suc (numbered_len (suc k) flags)
numbered_len k (false ∷ flags) = ap suc (numbered_len k flags)

pub kept_flags_len : (useful flags : List Bool) → length useful ≡ length flags → length (kept_flags useful flags) ≡ count_set useful
kept_flags_len [] flags e = refl
kept_flags_len (b ∷ useful) [] e = absurd (omega arith)
kept_flags_len (true ∷ useful) (i ∷ flags) e = omega (arith, kept_flags_len useful flags (omega arith))
kept_flags_len (false ∷ useful) (i ∷ flags) e = omega (arith, kept_flags_len useful flags (omega arith))

-- a new number tells the flag, and is one of as many as are kept
pub number_tells : (k : ℕ) (flags : List Bool) (b a : ℕ) → number_of (numbered k flags) b ≡ Some a → IsFlagged flags b × (k ≤ a) × (a < k + count_set flags)
number_tells k [] b a e = absurd (cc)
number_tells k (true ∷ flags) zero a e = let s : k ≡ a = some_same k a e in (refl, omega arith, omega arith)
number_tells k (true ∷ flags) (suc b) a e = let r = number_tells (suc k) flags b a e in (r.0, omega (arith, r.1), omega (arith, r.2))
number_tells k (false ∷ flags) zero a e = absurd (cc)
number_tells k (false ∷ flags) (suc b) a e = let r = number_tells k flags b a e in (r.0, r.1, omega (arith, r.2))

pub number_known : (k : ℕ) (flags : List Bool) (b : ℕ) → IsFlagged flags b → (a : ℕ) × (number_of (numbered k flags) b ≡ Some a)
number_known k [] b h = absurd (false≢true h)
number_known k (true ∷ flags) zero h = (k, refl)
number_known k (true ∷ flags) (suc b) h = number_known (suc k) flags b h
number_known k (false ∷ flags) zero h = absurd (false≢true h)
number_known k (false ∷ flags) (suc b) h = number_known k flags b h

pub number_onto : (k : ℕ) (flags : List Bool) (a : ℕ) → k ≤ a → a < k + count_set flags → (b : ℕ) × (number_of (numbered k flags) b ≡ Some a)
number_onto k [] a l u = absurd (omega arith)
number_onto k (false ∷ flags) a l u = let r = number_onto k flags a l (omega (arith, u)) in (suc r.0, r.1)
number_onto k (true ∷ flags) a l u =
    elim (same_or_not k a) [
      | inl e ↦ (0, ap Some e)
      | inr n ↦
          let more : suc k ≤ a = elim (compared k a) [ inl l ↦ omega (arith, l) | inr r ↦ elim r [ inl e ↦ absurd (n e) | inr g ↦ absurd (omega (arith, g, l)) ] ] in
          let r = number_onto (suc k) flags a more (omega (arith, u)) in
          (suc r.0, r.1)
    ]

pub number_one : (k : ℕ) (flags : List Bool) (b c a : ℕ) → number_of (numbered k flags) b ≡ Some a → number_of (numbered k flags) c ≡ Some a → b ≡ c
number_one k [] b c a e f = absurd (cc)
number_one k (true ∷ flags) zero zero a e f = refl
number_one k (true ∷ flags) zero (suc c) a e f =
    let r = number_tells (suc k) flags c a f in absurd (omega (arith, some_same k a e, r.1))
number_one k (true ∷ flags) (suc b) zero a e f =
    let r = number_tells (suc k) flags b a e in absurd (omega (arith, some_same k a f, r.1))
number_one k (true ∷ flags) (suc b) (suc c) a e f = ap suc (number_one (suc k) flags b c a e f)
number_one k (false ∷ flags) zero c a e f = absurd (cc)
number_one k (false ∷ flags) (suc b) zero a e f = absurd (cc)
number_one k (false ∷ flags) (suc b) (suc c) a e f = ap suc (number_one k flags b c a e f)

-- the flag under the new number is that under the old one
pub kept_flag : (k : ℕ) (useful flags : List Bool) (b a j : ℕ) → length useful ≡ length flags → number_of (numbered k useful) b ≡ Some a → a ≡ k + j →
    get_or (kept_flags useful flags) j false ≡ get_or flags b false
kept_flag k [] flags b a j len e at = absurd (cc)
kept_flag k (x ∷ useful) [] b a j len e at = absurd (omega arith)
kept_flag k (true ∷ useful) (i ∷ flags) zero a zero len e at = refl
kept_flag k (true ∷ useful) (i ∷ flags) zero a (suc j) len e at = absurd (omega (arith, some_same k a e))
kept_flag k (true ∷ useful) (i ∷ flags) (suc b) a zero len e at =
    let r = number_tells (suc k) useful b a e in absurd (omega (arith, r.1))
kept_flag k (true ∷ useful) (i ∷ flags) (suc b) a (suc j) len e at = kept_flag (suc k) useful flags b a j (omega arith) e (omega arith)
kept_flag k (false ∷ useful) (i ∷ flags) zero a j len e at = absurd (cc)
kept_flag k (false ∷ useful) (i ∷ flags) (suc b) a j len e at = kept_flag k useful flags b a j (omega arith) e at

pub both_len : (left right : List Bool) → length left ≡ length right → length (both left right) ≡ length left
both_len [] right e = refl
both_len (a ∷ left) [] e = absurd (omega arith)
both_len (a ∷ left) (b ∷ right) e = ap suc (both_len left right (omega arith))

pub both_flagged : (left right : List Bool) (p : ℕ) → length left ≡ length right → IsFlagged (both left right) p ↔ (IsFlagged left p × IsFlagged right p)
both_flagged [] right p e = ((λ h. absurd (false≢true h)), (λ h. absurd (false≢true h.0)))
both_flagged (a ∷ left) [] p e = absurd (omega arith)
both_flagged (true ∷ left) (true ∷ right) zero e = ((λ h. (refl, refl)), (λ h. refl))
both_flagged (true ∷ left) (false ∷ right) zero e = ((λ h. absurd (false≢true h)), (λ h. absurd (false≢true h.1)))
both_flagged (false ∷ left) (b ∷ right) zero e = ((λ h. absurd (false≢true h)), (λ h. absurd (false≢true h.0)))
both_flagged (a ∷ left) (b ∷ right) (suc p) e = both_flagged left right p (omega arith)
