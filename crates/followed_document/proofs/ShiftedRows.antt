-- A word whose blocks stand earlier is that of a row too.
use Rattle.std.proofs.Common.{◌≡◌, ℕ, suc, ◌+◌, ◌-◌, ◌<◌, ◌≤◌, ◌^◌, Bool, [], ◌∷◌, length, get_or, map, Option, Some, None, inl, inr, refl, sym, ap, ap₂, arith, ◌∙◌}
use Rattle.std.specs.Prelude.{if◌then◌else◌, ◌==◌}
use Rattle.std.specs.Int.{bit_at}
use Rattle.std.specs.List.{All}
use Rattle.std.proofs.lemmas.Bool.{cases_eq, cases_lt, eq-eqb, ne_eqb}
use Rattle.std.proofs.lemmas.List.{get_or-map, length-map}
use Rattle.span_core.specs.declared.span.Span.{Span}
use Rattle.span_core.specs.Block.{closing_bit, marker, markers, markers_from, opening_bit}
use Rattle.span_core.specs.Blocks.{Ascends, IsRowOfBlocks, listed}
use Rattle.span_core.proofs.BlockBits.{bit_positive, row_closes, row_opens, set_here}
use Rattle.enumerator.specs.Enumeration.{IsWordOfRow, SpanRow}
use Rattle.node_arena.specs.Words.{Word}
use Rattle.followed_document.specs.Settling.{shift}

abbrev moved : ℕ → ℕ × ℕ → ℕ × ℕ
moved k b = (b.0 + k, b.1)

-- ---- the blocks

moved_at : (k : ℕ) (u : Word) (j : ℕ) (d e : ℕ × ℕ) → j < length u → get_or (shift k u) j e ≡ moved k (get_or u j d)
moved_at k u j d e l = get_or-map (moved k) u j d e l

ascends_before : (k : ℕ) (u : Word) → Ascends (shift k u) → Ascends u
ascends_before k u h j d l =
    let many = length-map u (moved k) in
    let low = moved_at k u j d (moved k d) (omega (arith, l)) in
    let high = moved_at k u (j + 1) d (moved k d) l in
    let less = h j (moved k d) (omega (arith, l, many)) in
    omega (arith, less, ap (λ (b : ℕ × ℕ). b.0) low, ap (λ (b : ℕ × ℕ). b.0) high)

some_before : (k : ℕ) (u : Word) → All (λ (b : ℕ × ℕ). 0 < b.1) (shift k u) → All (λ (b : ℕ × ℕ). 0 < b.1) u
some_before k u h j d l =
    let many = length-map u (moved k) in
    let at = moved_at k u j d (moved k d) l in
    let some = h j (moved k d) (omega (arith, l, many)) in
    omega (arith, some, ap (λ (b : ℕ × ℕ). b.1) at)

-- a number and one that is raised by as much are equal where they were
same_later : (m n k : ℕ) → m + k == n + k ≡ m == n
same_later m n k = elim (cases_eq m n) [
  | inl e ↦ eq-eqb (m + k) (n + k) (ap (λ i. i + k) e) ∙ sym (eq-eqb m n e)
  | inr ne ↦ ne_eqb (m + k) (n + k) (λ e. ne (omega (arith, e))) ∙ sym (ne_eqb m n ne)
]

-- what is listed that much later is what was listed
pub listed_later : (k : ℕ) (u : Word) (at : ℕ) → listed (shift k u) (at + k) ≡ listed u at
listed_later k [] at = refl
listed_later k (b ∷ u) at = ap₂ (λ (c : Bool) (n : ℕ). if c then b.1 else n) (same_later b.0 at k) (listed_later k u at)

-- and nothing is listed before
none_before : (k : ℕ) (u : Word) (at : ℕ) → at < k → listed (shift k u) at ≡ 0
none_before k [] at l = refl
none_before k (b ∷ u) at l =
    ap (λ c. if c then b.1 else listed (shift k u) at) (ne_eqb (b.0 + k) at (λ e. omega (arith, e, l))) ∙ none_before k u at l

-- ---- the row

earlier : ℕ → Option Span → Option Span
earlier k None = None
earlier k (Some s) = Some (record { start = s.start - k; end = s.end - k; ordered = omega (arith, s.ordered) })

-- the span stands at k or later
abbrev StandsFrom : ℕ → Option Span → Type 0
StandsFrom k None = Unit {0}
StandsFrom k (Some s) = (k ≤ s.start) × (k ≤ s.end)

marker_earlier : (k bit place at : ℕ) → k ≤ place → marker bit (place - k) at ≡ marker bit place (at + k)
marker_earlier k bit place at le =
    let e : place - k + k ≡ place = omega (arith, le) in
    ap (λ c. if c then 2 ^ bit else 0) (sym (same_later (place - k) at k) ∙ ap (λ n. n == at + k) e)

markers_earlier : (k v j at : ℕ) (s : Option Span) → StandsFrom k s → markers v j (earlier k s) at ≡ markers v j s (at + k)
unfolding earlier
markers_earlier k v j at None h = refl
markers_earlier k v j at (Some s) h = ap₂ (λ (m n : ℕ). m + n) (marker_earlier k (opening_bit v j) s.start at h.0) (marker_earlier k (closing_bit v j) s.end at h.1)

from_earlier : (k v j at : ℕ) (row : SpanRow) → ((i : ℕ) → i < length row → StandsFrom k (get_or row i None)) → markers_from v j (map (earlier k) row) at ≡ markers_from v j row (at + k)
from_earlier k v j at [] h = refl
from_earlier k v j at (s ∷ row) h =
    ap₂ (λ (m n : ℕ). m + n) (markers_earlier k v j at s (h 0 (omega arith))) (from_earlier k v (j + 1) at row (λ i l. h (suc i) (omega (arith, l))))

module _ (k v : ℕ) (u : Word) (row : SpanRow) (h : IsRowOfBlocks v (shift k u) row) where
  -- a marker stands at k or later
  marked_from : (at bit : ℕ) → bit_at (listed (shift k u) at) bit ≡ 1 → k ≤ at
  marked_from at bit e = elim (cases_lt at k) as (λ _. k ≤ at) [
    | inl l ↦ absurd (omega (arith, bit_positive (listed (shift k u) at) bit e, none_before k u at l))
    | inr le ↦ omega (arith, le)
  ]

  stands : (i : ℕ) → i < length row → StandsFrom k (get_or row i None)
  stands i l = by (get_or row i None) refl
    where
      by : (o : Option Span) → get_or row i None ≡ o → StandsFrom k o
      by None e = tt
      by (Some s) e =
          let less : i < v = omega (arith, l, h.variables) in (
            marked_from s.start (opening_bit v i) (row_opens v i (shift k u) row None s h less e s.start ∙ set_here s.start),
            marked_from s.end (closing_bit v i) (row_closes v i (shift k u) row None s h less e s.end ∙ set_here s.end),
          )

  row_before : IsRowOfBlocks v u (map (earlier k) row)
  row_before =
      let many : length (map (earlier k) row) ≡ length row = length-map row (earlier k) in
      record {
        variables = many ∙ h.variables;
        blocks_are = λ at.
            ap (λ n. markers_from n 0 (map (earlier k) row) at) many
            ∙ (from_earlier k (length row) 0 at row stands
            ∙ (h.blocks_are (at + k) ∙ listed_later k u at));
      }

-- so the word of a row is
pub word_before : (k v : ℕ) (u : Word) → IsWordOfRow v (shift k u) → IsWordOfRow v u
word_before k v u w = (
  (ascends_before k u w.0.0, some_before k u w.0.1),
  (map (earlier k) w.1.0, row_before k v u w.1.0 w.1.1),
)
