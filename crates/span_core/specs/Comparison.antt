-- The order of rows as a function, and how a comparison finds it.
use Rattle.std.specs.Prelude.{◌≡◌, ℕ, zero, suc, ◌+◌, ◌<◌, List, [], ◌∷◌, length, max, Option, Some, None, if◌then◌else◌, nat_lt}
use Rattle.std.specs.Option.{MatchOption}
use Rattle.std.specs.Ordering.{MatchOrdering, nat_cmp, ordering_then}
use Rattle.std.specs.declared.cmp.Ordering.{Ordering}
use Rattle.std.specs.declared.cmp.Ordering.TheVariants.{Equal}
use Rattle.span_core.specs.declared.span.Span.{Span}
use Rattle.span_core.specs.Block.{block}
use Rattle.span_core.specs.Order.{IsOrderOf}

-- ---- the function, which `Ord` asks for

-- a position past all spans of a row
abbrev pub past : List (Option Span) → ℕ
past [] = 0
past (None ∷ row) = past row
past (Some span ∷ row) = max (span.end + 1) (past row)

-- the order of the blocks at the n positions from `at` on, the greater first
abbrev pub blocks_cmp : List (Option Span) → List (Option Span) → ℕ → ℕ → Ordering
blocks_cmp a b at zero = Equal
blocks_cmp a b at (suc n) = ordering_then (nat_cmp (block b at) (block a at)) (blocks_cmp a b (at + 1) n)

abbrev pub row_cmp : List (Option Span) → List (Option Span) → Ordering
row_cmp a b = ordering_then (nat_cmp (length a) (length b)) (blocks_cmp a b 0 (max (past a) (past b)))

-- it answers by the relation
abbrev pub RowCmpIsOrder : Type 0
RowCmpIsOrder = (a b : List (Option Span)) → IsOrderOf (row_cmp a b) a b

-- ---- the first difference of two functions of the position

-- it is at this position, and gives this order: the greater comes first
pub record IsFirstDifference (x y : ℕ → ℕ) (at : ℕ) (order : Ordering) : Type 0 where
  pub there : MatchOrdering order (y at < x at) ⊥ (x at < y at)
  pub same_below : (i : ℕ) → i < at → x i ≡ y i

-- the first difference, or that there is none
abbrev pub Finds : (ℕ → ℕ) → (ℕ → ℕ) → Option (ℕ × Ordering) → Type 0
Finds x y found = MatchOption found ((i : ℕ) → x i ≡ y i) (λ d. IsFirstDifference x y d.0 d.1)

-- the first of two differences, where the one in front decides at the same position
abbrev pub earlier_of : Option (ℕ × Ordering) → Option (ℕ × Ordering) → Option (ℕ × Ordering)
earlier_of None back = back
earlier_of (Some d) None = Some d
earlier_of (Some d) (Some e) = if nat_lt e.0 d.0 then Some e else Some d
