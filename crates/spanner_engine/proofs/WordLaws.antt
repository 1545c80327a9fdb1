-- The word of the blocks of a document's positions: what it lists, and that it is a list of blocks.
use Rattle.std.proofs.Common.{◌≡◌, ℕ, zero, suc, ◌+◌, ◌<◌, ◌≤◌, Bool, true, false, [], ◌∷◌, ◌++◌, length, get_or, inl, inr, refl, sym, ap, ◌∙◌, subst, arith, eq-eqb, ne_eqb}
use Rattle.std.specs.Prelude.{if◌then◌else◌, nat_eq}
use Rattle.std.proofs.lemmas.List.{append-nil}
use Rattle.std.proofs.lemmas.Bool.{cases_lt, cases_eq, eqb-false, eqb-true}
use Rattle.span_core.specs.Blocks.{IsBlockList, listed}
use Rattle.one_pass.specs.Places.{word_from, word_through}
use Rattle.one_pass.specs.Words.{Word}
use Rattle.output_graph.specs.Forward.{mark_block}
use Rattle.enumerator.proofs.Words.{AreSome, AscendsFrom, listed_before}

-- ---- a block in front of others

abbrev front_of : Bool → ℕ → ℕ → Word
front_of b at m = let one : Word = (at, m) ∷ [] in if b then [] else one

block_alone : (at m : ℕ) → mark_block at m ++ [] ≡ mark_block at m
block_alone at m = (let one : Word = (at, m) ∷ [] in by (nat_eq m 0) one)
  where
    by : (b : Bool) (one : Word) → (if b then [] else one) ++ [] ≡ (if b then [] else one)
    by true one = refl
    by false one = append-nil one

from_later : (n m : ℕ) (w : Word) → n ≤ m → AscendsFrom m w → AscendsFrom n w
from_later n m [] le up = tt
from_later n m (x ∷ w) le up = let first : m ≤ x.0 = up.0 in (omega arith, up.1)

front_ascends : (at m : ℕ) (w : Word) → AscendsFrom (suc at) w → AscendsFrom at (mark_block at m ++ w)
front_ascends at m w up = by (nat_eq m 0)
  where
    next : suc at ≡ at + 1
    next = omega arith

    by : (b : Bool) → AscendsFrom at (front_of b at m ++ w)
    by true = from_later at (suc at) w (omega arith) up
    by false = (omega arith, rw (← next) up)

front_some : (at m : ℕ) (w : Word) → AreSome w → AreSome (mark_block at m ++ w)
front_some at m w some = by (nat_eq m 0) (eqb-false m 0)
  where
    by : (b : Bool) → (b ≡ false → m ≡ 0 → ⊥) → AreSome (front_of b at m ++ w)
    by true ne = some
    by false ne = (elim (cases_lt 0 m) [ inl lt ↦ lt | inr ge ↦ absurd (ne refl (omega (arith, ge))) ], some)

front_other : (at m : ℕ) (w : Word) (i : ℕ) → (at ≡ i → ⊥) → listed (mark_block at m ++ w) i ≡ listed w i
front_other at m w i ne = by (nat_eq m 0)
  where
    by : (b : Bool) → listed (front_of b at m ++ w) i ≡ listed w i
    by true = refl
    by false = ap (λ b. if b then m else listed w i) (ne_eqb at i ne)

front_here : (at m : ℕ) (w : Word) → listed w at ≡ 0 → listed (mark_block at m ++ w) at ≡ m
front_here at m w none = by (nat_eq m 0) (eqb-true m 0)
  where
    by : (b : Bool) → (b ≡ true → m ≡ 0) → listed (front_of b at m ++ w) at ≡ m
    by true e = none ∙ sym (e refl)
    by false e = ap (λ b. if b then m else listed w at) (eq-eqb at at refl)

-- ---- a word

pub word_ascends : (w : ℕ → ℕ) (i n : ℕ) → AscendsFrom i (word_from w i n)
word_ascends w i zero = subst (AscendsFrom i) (block_alone i (w i)) (front_ascends i (w i) [] tt)
word_ascends w i (suc n) = front_ascends i (w i) (word_from w (suc i) n) (word_ascends w (suc i) n)

pub word_some : (w : ℕ → ℕ) (i n : ℕ) → AreSome (word_from w i n)
word_some w i zero = subst AreSome (block_alone i (w i)) (front_some i (w i) [] tt)
word_some w i (suc n) = front_some i (w i) (word_from w (suc i) n) (word_some w (suc i) n)

-- at each position it lists the block there
pub word_lists : (w : ℕ → ℕ) (i n at : ℕ) → i ≤ at → at ≤ i + n → listed (word_from w i n) at ≡ w at
word_lists w i zero at low high =
    let e : i ≡ at = omega arith in
    ap (λ (u : Word). listed u at) (sym (block_alone i (w i)))
    ∙ rw (← e) (front_here i (w i) [] refl)
word_lists w i (suc n) at low high = elim (cases_eq i at) [
  | inl e ↦ rw (← e)
      (front_here i (w i) (word_from w (suc i) n) (listed_before (suc i) (word_from w (suc i) n) i (word_ascends w (suc i) n) (omega arith)))
  | inr ne ↦ front_other i (w i) (word_from w (suc i) n) at ne
      ∙ word_lists w (suc i) n at (let apart : i ≡ at → ⊥ = ne in elim (cases_lt i at) [ inl lt ↦ omega (arith, lt) | inr ge ↦ absurd (apart (omega (arith, ge))) ]) (omega arith)
]

-- and past the last nothing
pub word_ends : (w : ℕ → ℕ) (i n at : ℕ) → i + n < at → listed (word_from w i n) at ≡ 0
word_ends w i zero at past =
    ap (λ (u : Word). listed u at) (sym (block_alone i (w i))) ∙ front_other i (w i) [] at (λ e. omega (arith, e))
word_ends w i (suc n) at past =
    front_other i (w i) (word_from w (suc i) n) at (λ e. omega (arith, e)) ∙ word_ends w (suc i) n at (omega arith)

-- ---- lists of blocks

adjacent_of : (n k : ℕ) (w : Word) (d : ℕ × ℕ) → AscendsFrom n w → k + 1 < length w → (get_or w k d).0 < (get_or w (suc k) d).0
adjacent_of n k [] d up l = absurd (omega arith)
adjacent_of n k (x ∷ []) d up l = absurd (omega arith)
adjacent_of n zero (x ∷ y ∷ w) d up l = let a : x.0 + 1 ≤ y.0 = up.1.0 in omega arith
adjacent_of n (suc k) (x ∷ y ∷ w) d up l = adjacent_of (x.0 + 1) k (y ∷ w) d up.1 (omega arith)

some_of : (k : ℕ) (w : Word) (d : ℕ × ℕ) → AreSome w → k < length w → 0 < (get_or w k d).1
some_of k [] d some l = absurd (omega arith)
some_of zero (x ∷ w) d some l = some.0
some_of (suc k) (x ∷ w) d some l = some_of k w d some.1 (omega arith)

pub block_list_of : (n : ℕ) (w : Word) → AscendsFrom n w → AreSome w → IsBlockList w
block_list_of n w up some = (
  λ k d l. let e : suc k ≡ k + 1 = omega arith in rw (← e) (adjacent_of n k w d up l),
  λ k d l. some_of k w d some l,
)

pub word_is_block_list : (w : ℕ → ℕ) (n : ℕ) → IsBlockList (word_through w n)
word_is_block_list w n = block_list_of 0 (word_through w n) (word_ascends w 0 n) (word_some w 0 n)
