-- The one row that has given blocks.
use Rattle.std.proofs.Common.{◌≡◌, ℕ, suc, ◌+◌, ◌<◌, inl, inr, List, [], ◌∷◌, ◌++◌, length, get_or, take, refl, sym, ap, ◌∙◌, subst, IfSome, IfNone, arith, Option, Some, None}
use Rattle.std.specs.Int.{bit_at}
use Rattle.std.specs.List.{All}
use Rattle.std.proofs.lemmas.List.{take_more, take_all}
use Rattle.std.proofs.lemmas.List.Elements.{All-push}
use Rattle.span_core.specs.declared.span.Span.{Span}
use Rattle.span_core.specs.Block.{opening_bit, closing_bit, markers_from, block}
use Rattle.span_core.specs.OrderLaws.{marker_other, span_eq}
use Rattle.span_core.specs.Blocks.{Ascends, listed, IsRowOfBlocks, HasMarker}
use Rattle.span_core.proofs.BlockBits.{marked_present, unmarked_absent, row_opens, row_closes, start_is, end_is, set_here}
use Rattle.span_core.proofs.ListedBlocks.{listed_at, agrees}

-- ---- what was found of a marker

pub stands : (blocks : List (ℕ × ℕ)) (bit : ℕ) (place : Option ℕ) (at : ℕ) → IfSome place (λ at. bit_at (listed blocks at) bit ≡ 1) → place ≡ Some at → bit_at (listed blocks at) bit ≡ 1
stands blocks bit place at h is = subst (λ (o : Option ℕ). IfSome o (λ at. bit_at (listed blocks at) bit ≡ 1)) is h

pub stands_nowhere : (blocks : List (ℕ × ℕ)) (bit : ℕ) (place : Option ℕ) → IfNone place ((at : ℕ) → bit_at (listed blocks at) bit ≡ 0) → place ≡ None → (at : ℕ) → bit_at (listed blocks at) bit ≡ 0
stands_nowhere blocks bit place h is = subst (λ (o : Option ℕ). IfNone o ((at : ℕ) → bit_at (listed blocks at) bit ≡ 0)) is h

-- ---- where there is no row

pub never_opens : (v k end : ℕ) (blocks : List (ℕ × ℕ)) → k < v → ((at : ℕ) → bit_at (listed blocks at) (opening_bit v k) ≡ 0) → bit_at (listed blocks end) (closing_bit v k) ≡ 1
    → (row : List (Option Span)) → IsRowOfBlocks v blocks row → ⊥
never_opens v k end blocks l none closes row h =
    let s = marked_present v k blocks row None h l (end, inr closes) in
    omega (arith, none s.0.start, row_opens v k blocks row None s.0 h l s.1 s.0.start, set_here s.0.start)

pub never_closes : (v k start : ℕ) (blocks : List (ℕ × ℕ)) → k < v → bit_at (listed blocks start) (opening_bit v k) ≡ 1 → ((at : ℕ) → bit_at (listed blocks at) (closing_bit v k) ≡ 0)
    → (row : List (Option Span)) → IsRowOfBlocks v blocks row → ⊥
never_closes v k start blocks l opens none row h =
    let s = marked_present v k blocks row None h l (start, inl opens) in
    omega (arith, none s.0.end, row_closes v k blocks row None s.0 h l s.1 s.0.end, set_here s.0.end)

pub never_backward : (v k start end : ℕ) (blocks : List (ℕ × ℕ)) → k < v → bit_at (listed blocks start) (opening_bit v k) ≡ 1 → bit_at (listed blocks end) (closing_bit v k) ≡ 1 → end < start
    → (row : List (Option Span)) → IsRowOfBlocks v blocks row → ⊥
never_backward v k start end blocks l opens closes back row h =
    let s = marked_present v k blocks row None h l (start, inl opens) in
    omega (arith, start_is v k blocks row None s.0 h l s.1 start opens, end_is v k blocks row None s.0 h l s.1 end closes, s.0.ordered)

-- ---- the only row

-- one variable more of it
next_is : (k : ℕ) (so_far row : List (Option Span)) (o : Option Span) → k < length row → get_or row k o ≡ o → so_far ≡ take k row → so_far ++ o ∷ [] ≡ take (k + 1) row
next_is k so_far row o l last e = ap (λ xs. xs ++ o ∷ []) e ∙ ap (λ x. take k row ++ x ∷ []) (sym last) ∙ sym (take_more row k o l)

pub only_absent : (v k : ℕ) (blocks : List (ℕ × ℕ)) (so_far : List (Option Span)) → k < v →
    ((at : ℕ) → bit_at (listed blocks at) (opening_bit v k) ≡ 0) → ((at : ℕ) → bit_at (listed blocks at) (closing_bit v k) ≡ 0)
    → (row : List (Option Span)) → IsRowOfBlocks v blocks row → so_far ≡ take k row → so_far ++ None ∷ [] ≡ take (k + 1) row
only_absent v k blocks so_far l opens closes row h e =
    let none : HasMarker v k blocks → ⊥ = λ m. elim m.1 [ inl o ↦ omega (arith, o, opens m.0) | inr c ↦ omega (arith, c, closes m.0) ] in
    next_is k so_far row None (omega (arith, h.variables)) (unmarked_absent v k blocks row None h l none) e

pub only_more : (v k : ℕ) (blocks : List (ℕ × ℕ)) (so_far : List (Option Span)) (s : Span) → k < v →
    bit_at (listed blocks s.start) (opening_bit v k) ≡ 1 → bit_at (listed blocks s.end) (closing_bit v k) ≡ 1
    → (row : List (Option Span)) → IsRowOfBlocks v blocks row → so_far ≡ take k row → so_far ++ Some s ∷ [] ≡ take (k + 1) row
only_more v k blocks so_far s l opens closes row h e =
    let t = marked_present v k blocks row (Some s) h l (s.start, inl opens) in
    let same : t.0 ≡ s = span_eq t.0 s (start_is v k blocks row (Some s) t.0 h l t.1 s.start opens) (end_is v k blocks row (Some s) t.0 h l t.1 s.end closes) in
    next_is k so_far row (Some s) (omega (arith, h.variables)) (t.1 ∙ ap Some same) e

-- where a variable is present, markers are listed at its start and at its end
abbrev pub IsListed : List (ℕ × ℕ) → Option Span → Type 0
IsListed blocks None = Unit {0}
IsListed blocks (Some s) = (0 < listed blocks s.start) × (0 < listed blocks s.end)

pub listed_more : (blocks : List (ℕ × ℕ)) (row : List (Option Span)) (o : Option Span) → All (IsListed blocks) row → IsListed blocks o → All (IsListed blocks) (row ++ o ∷ [])
listed_more blocks row o h here = All-push (IsListed blocks) row o h here

unmarked : (v k at : ℕ) (blocks : List (ℕ × ℕ)) (row : List (Option Span)) → listed blocks at ≡ 0 → All (IsListed blocks) row → markers_from v k row at ≡ 0
unmarked v k at blocks [] none h = refl
unmarked v k at blocks (None ∷ row) none h = omega (arith, unmarked v (k + 1) at blocks row none (λ j d l. h (suc j) d (omega arith)))
unmarked v k at blocks (Some s ∷ row) none h =
    let here : (0 < listed blocks s.start) × (0 < listed blocks s.end) = h 0 None (omega arith) in
    omega (
      arith,
      marker_other (opening_bit v k) s.start at (λ e. omega (arith, here.0, ap (listed blocks) e, none)),
      marker_other (closing_bit v k) s.end at (λ e. omega (arith, here.1, ap (listed blocks) e, none)),
      unmarked v (k + 1) at blocks row none (λ j d l. h (suc j) d (omega arith)),
    )

-- the row has the blocks
pub row_is : (v : ℕ) (blocks : List (ℕ × ℕ)) (row : List (Option Span)) → length row ≡ v → All (IsListed blocks) row → All (λ b. block row b.0 ≡ b.1) blocks → IsRowOfBlocks v blocks row
row_is v blocks row h marked each = record {
  variables = h;
  blocks_are = λ at. agrees (block row) blocks at each (λ none. unmarked (length row) 0 at blocks row none marked);
}

-- no other row has them
pub row_is_not : (v : ℕ) (blocks : List (ℕ × ℕ)) (so_far : List (Option Span)) → Ascends blocks → (All (λ b. block so_far b.0 ≡ b.1) blocks → ⊥)
    → ((row : List (Option Span)) → IsRowOfBlocks v blocks row → so_far ≡ take v row) → (row : List (Option Span)) → IsRowOfBlocks v blocks row → ⊥
row_is_not v blocks so_far up wrong only row h =
    let same : so_far ≡ row = only row h ∙ take_all v row (omega (arith, h.variables)) in
    wrong (λ j d l. ap (λ r. block r (get_or blocks j d).0) same ∙ h.blocks_are (get_or blocks j d).0 ∙ listed_at blocks j d up l)
