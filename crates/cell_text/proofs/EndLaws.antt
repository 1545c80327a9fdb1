-- Rows whose spans end within a document.
use Rattle.std.proofs.Common.{◌≡◌, ◌≤◌, ℕ, true, List, [], ◌∷◌, Option, Some, None, inl, inr, refl, arith}
use Rattle.std.specs.List.{list_all}
use Rattle.span_core.specs.declared.span.Span.{Span}
use Rattle.span_core.specs.Lists.{Has}
use Rattle.cell_text.specs.Cells.{ends_by}

pub all_inside : (n : ℕ) (row : List (Option Span)) → ((s : Span) → Has row (Some s) → s.end ≤ n) → list_all (ends_by n) row ≡ true
all_inside n [] h = refl
all_inside n (None ∷ row) h = all_inside n row (λ s has. h s (inr has))
all_inside n (Some s ∷ row) h =
    let le = h s (inl refl) in
    let here : ends_by n (Some s) ≡ true = grind (arith, le) in
    let later = all_inside n row (λ t has. h t (inr has)) in
    simp (here, later) refl
