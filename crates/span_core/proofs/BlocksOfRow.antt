-- The one list of blocks that a row has.
use Rattle.std.proofs.Common.{◌≡◌, ℕ, zero, suc, ◌+◌, ◌<◌, ◌≤◌, List, [], ◌∷◌, length, get_or, refl, sym, ap, ◌∙◌, subst, inl, inr, arith, add-one, Option}
use Rattle.std.specs.Prelude.{if◌then◌else◌}
use Rattle.std.specs.List.{All}
use Rattle.std.proofs.lemmas.Bool.{cases_eq, cases_lt, eq-eqb, ne_eqb}
use Rattle.std.proofs.lemmas.List.Elements.{All-cons}
use Rattle.span_core.specs.declared.span.Span.{Span}
use Rattle.span_core.specs.Block.{block}
use Rattle.span_core.specs.Comparison.{past}
use Rattle.span_core.specs.ComparisonLaws.{markers_past}
use Rattle.span_core.specs.Blocks.{Ascends, listed, IsBlockList, RowsTellBlocks}
use Rattle.span_core.proofs.ListedBlocks.{adjacent, first_below, tail_ascends}

-- ---- what is listed, from the front

listed_here : (b : ℕ × ℕ) (blocks : List (ℕ × ℕ)) (at : ℕ) → b.0 ≡ at → listed (b ∷ blocks) at ≡ b.1
listed_here b blocks at e = ap (λ t. if t then b.1 else listed blocks at) (eq-eqb b.0 at e)

listed_later : (b : ℕ × ℕ) (blocks : List (ℕ × ℕ)) (at : ℕ) → (b.0 ≡ at → ⊥) → listed (b ∷ blocks) at ≡ listed blocks at
listed_later b blocks at ne = ap (λ t. if t then b.1 else listed blocks at) (ne_eqb b.0 at ne)

listed_before : (blocks : List (ℕ × ℕ)) (at : ℕ) → All (λ b. at < b.0) blocks → listed blocks at ≡ 0
listed_before [] at h = refl
listed_before (b ∷ blocks) at h =
    let front : at < b.0 = h 0 b (omega arith) in
    listed_later b blocks at (λ e. omega (arith, e, front)) ∙ listed_before blocks at (λ k d l. h (suc k) d (omega arith))

rest_above : (b : ℕ × ℕ) (blocks : List (ℕ × ℕ)) (at : ℕ) → Ascends (b ∷ blocks) → at ≤ b.0 → All (λ c. at < c.0) blocks
rest_above b blocks at up h = λ k d l. omega (arith, h, first_below b blocks k d up l)

-- ---- one list

rest_same : (a b : ℕ × ℕ) (xs ys : List (ℕ × ℕ)) → Ascends (a ∷ xs) → Ascends (b ∷ ys) → a.0 ≡ b.0 → ((at : ℕ) → listed (a ∷ xs) at ≡ listed (b ∷ ys) at) → (at : ℕ) → listed xs at ≡ listed ys at
rest_same a b xs ys up up' e same at = elim (cases_eq a.0 at) [
  | inl here ↦ listed_before xs at (rest_above a xs at up (omega (arith, here))) ∙ sym (listed_before ys at (rest_above b ys at up' (omega (arith, here, e))))
  | inr ne ↦ sym (listed_later a xs at ne) ∙ same at ∙ listed_later b ys at (λ f. ne (e ∙ f))
]

-- a block that stands before all of another list is not listed there
stands_alone : (b c : ℕ × ℕ) (ys cs : List (ℕ × ℕ)) → Ascends (c ∷ cs) → 0 < b.1 → b.0 < c.0 → listed (b ∷ ys) b.0 ≡ listed (c ∷ cs) b.0 → ⊥
stands_alone b c ys cs up some before same =
    omega (arith, some, listed_here b ys b.0 refl, same, listed_later c cs b.0 (λ e. omega (arith, e, before)), listed_before cs b.0 (rest_above c cs b.0 up (omega (arith, before))))

pub same_lists : (xs ys : List (ℕ × ℕ)) → IsBlockList xs → IsBlockList ys → ((at : ℕ) → listed xs at ≡ listed ys at) → xs ≡ ys
same_lists [] [] h h' same = refl
same_lists [] (b ∷ ys) h h' same = absurd (omega (arith, same b.0, listed_here b ys b.0 refl, h'.1 0 b (omega arith)))
same_lists (a ∷ xs) [] h h' same = absurd (omega (arith, same a.0, listed_here a xs a.0 refl, h.1 0 a (omega arith)))
same_lists (a ∷ xs) (b ∷ ys) h h' same = elim (cases_eq a.0 b.0) [
  | inl e ↦ (let rest : xs ≡ ys = same_lists xs ys (tail_ascends a xs h.0, λ k d l. h.1 (suc k) d (omega arith))
      (tail_ascends b ys h'.0, λ k d l. h'.1 (suc k) d (omega arith)) (rest_same a b xs ys h.0 h'.0 e same) in
      let marks : a.1 ≡ b.1 = sym (listed_here a xs a.0 refl) ∙ same a.0 ∙ listed_here b ys a.0 (sym e) in
      λ i. (e i, marks i) ∷ rest i)
  | inr ne ↦ elim (cases_lt a.0 b.0) [
    | inl l ↦ absurd (stands_alone a b xs ys h'.0 (h.1 0 a (omega arith)) l (same a.0))
    | inr l ↦ absurd (stands_alone b a ys xs h.0 (h'.1 0 b (omega arith)) (omega (arith, l, ne)) (sym (same b.0)))
  ]
]

-- ---- some list

ascends_more : (b : ℕ × ℕ) (blocks : List (ℕ × ℕ)) → All (λ c. b.0 < c.0) blocks → Ascends blocks → Ascends (b ∷ blocks)
ascends_more b blocks above up = λ k d l. subst (λ (n : ℕ). (get_or (b ∷ blocks) k d).0 < (get_or (b ∷ blocks) n d).0) (sym (add-one k)) (step k d (omega (arith, l)))
  where
    step : (k : ℕ) (d : ℕ × ℕ) → k < length blocks → (get_or (b ∷ blocks) k d).0 < (get_or blocks k d).0
    step zero d l = above 0 d l
    step (suc k) d l = adjacent blocks k d up l

-- a block in front, unless it is empty
abbrev with_block : ℕ → ℕ → List (ℕ × ℕ) → List (ℕ × ℕ)
with_block at zero blocks = blocks
with_block at (suc n) blocks = (at, suc n) ∷ blocks

abbrev Follows : ℕ → List (ℕ × ℕ) → Type 0
Follows at blocks = IsBlockList blocks × All (λ b. at ≤ b.0) blocks

follows_more : (at n : ℕ) (blocks : List (ℕ × ℕ)) → Follows (at + 1) blocks → Follows at (with_block at n blocks)
follows_more at zero blocks h = (h.0, λ k d l. omega (arith, h.1 k d l))
follows_more at (suc n) blocks h = (
  (ascends_more (at, suc n) blocks (λ k d l. omega (arith, h.1 k d l)) h.0.0, All-cons (λ b. 0 < b.1) (at, suc n) blocks (omega arith) h.0.1),
  All-cons (λ b. at ≤ b.0) (at, suc n) blocks (omega arith) (λ k d l. omega (arith, h.1 k d l)),
)

listed_more : (at n : ℕ) (blocks : List (ℕ × ℕ)) (q : ℕ) → (at ≡ q → ⊥) → listed (with_block at n blocks) q ≡ listed blocks q
listed_more at zero blocks q ne = refl
listed_more at (suc n) blocks q ne = listed_later (at, suc n) blocks q ne

listed_front : (at n : ℕ) (blocks : List (ℕ × ℕ)) → Follows (at + 1) blocks → listed (with_block at n blocks) at ≡ n
listed_front at zero blocks h = listed_before blocks at (λ k d l. omega (arith, h.1 k d l))
listed_front at (suc n) blocks h = listed_here (at, suc n) blocks at refl

-- the blocks at the n positions from `at` on
abbrev blocks_from : List (Option Span) → ℕ → ℕ → List (ℕ × ℕ)
blocks_from row at zero = []
blocks_from row at (suc n) = with_block at (block row at) (blocks_from row (at + 1) n)

from_follows : (row : List (Option Span)) (at n : ℕ) → Follows at (blocks_from row at n)
from_follows row at zero = ((λ k d l. absurd (omega arith), λ k d l. absurd (omega arith)), λ k d l. absurd (omega arith))
from_follows row at (suc n) = follows_more at (block row at) (blocks_from row (at + 1) n) (from_follows row (at + 1) n)

from_listed : (row : List (Option Span)) (at n q : ℕ) → ((i : ℕ) → at + n ≤ i → block row i ≡ 0) → at ≤ q → listed (blocks_from row at n) q ≡ block row q
from_listed row at zero q none h = sym (none q (omega arith))
from_listed row at (suc n) q none h = elim (cases_eq at q) [
  | inl e ↦ subst (λ (q : ℕ). listed (blocks_from row at (suc n)) q ≡ block row q) e (listed_front at (block row at) (blocks_from row (at + 1) n) (from_follows row (at + 1) n))
  | inr ne ↦ listed_more at (block row at) (blocks_from row (at + 1) n) q ne ∙ from_listed row (at + 1) n q (λ i l. none i (omega arith)) (omega (arith, ne))
]

-- ---- the law

pub rows_tell_blocks_lem : RowsTellBlocks
rows_tell_blocks_lem = record {
  some_list = λ row. (
    blocks_from row 0 (past row),
    (from_follows row 0 (past row)).0,
    record {
      variables = refl;
      blocks_are = λ at. sym (from_listed row 0 (past row) at (λ i l. markers_past (length row) 0 i row (omega arith)) (omega arith));
    },
  );
  one_list = λ v row a b h h' f g. same_lists a b h h' (λ at. sym (f.blocks_are at) ∙ g.blocks_are at);
}
