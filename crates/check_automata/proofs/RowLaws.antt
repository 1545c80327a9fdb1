-- Rows of picked spans, or of none, end within a document where all spans do.
use Rattle.std.proofs.Common.{◌≤◌, ◌<◌, ◌≡◌, ◌+◌, ℕ, List, Option, [], ◌∷◌, ◌++◌, length, get_or, sym, subst}
use Rattle.std.specs.List.{All}
use Rattle.std.specs.Option.{ForSome}
use Rattle.std.proofs.lemmas.List.{length-append}
use Rattle.std.proofs.lemmas.List.Elements.{All-append, All-cons, All-nil}
use Rattle.span_core.specs.declared.span.Span.{Span}

abbrev pub EndsBy : ℕ → Option Span → Type 0
EndsBy n span = ForSome span (λ (s : Span). s.end ≤ n)

-- a span, or none, that is picked from them
pub picked : (n : ℕ) (spans : List (Option Span)) (k : ℕ) (s : Option Span) → All (EndsBy n) spans → k < length spans → s ≡ get_or spans k s → EndsBy n s
picked n spans k s all below is = subst (EndsBy n) (sym is) (all k s below)

-- a row with one more
pub one_more : (n : ℕ) (row : List (Option Span)) (s : Option Span) → All (EndsBy n) row → EndsBy n s → All (EndsBy n) (row ++ s ∷ [])
one_more n row s before at = All-append (EndsBy n) row (s ∷ []) before (All-cons (EndsBy n) s [] at (All-nil (EndsBy n)))

pub one_longer : (row : List (Option Span)) (s : Option Span) → length (row ++ s ∷ []) ≡ length row + 1
one_longer row s = length-append row (s ∷ [])
