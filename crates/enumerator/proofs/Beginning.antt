-- An enumerator before the first row.
use Rattle.std.proofs.Common.{◌≡◌, ℕ, ◌≤◌, List, [], ◌∷◌, map, take, refl, ◌∙◌, append-nil}
use Rattle.std.proofs.Common as common
use Rattle.span_core.specs.declared.TheConstants.{MOST_VARIABLES}
use Rattle.span_core.specs.Lists.{Has}
use Rattle.node_arena.specs.Words.{Word}
use Rattle.output_graph.specs.Listed.{Lists, AreLists}
use Rattle.node_arena.specs.Rows.{rows}
use Rattle.enumerator.specs.Enumeration.{IsWordOfRow, AreRowsOf, SpanRow}
use Rattle.enumerator.specs.Enumerating.{IsEnumerating}
use Rattle.enumerator.specs.Rows.{Positions, no_positions, positions_of, row_of, row_under, rows_of, waiting_rows}
use Rattle.enumerator.specs.Waiting.{waited}
use Rattle.enumerator.proofs.Lists.{map_same}
use Rattle.enumerator.proofs.RowLaws.{row_under_agree, waited_stacked, waited_rows}
use Rattle.enumerator.proofs.Words.{is_row_of_word, fits_word, never_listed}

-- under no markers the positions do not matter
pub any_positions : (v : ℕ) (P Q : Positions) (ws : List Word) → map (row_under v 0 P) ws ≡ map (row_under v 0 Q) ws
any_positions v P Q ws = map_same (row_under v 0 P) (row_under v 0 Q) (λ w. row_under_agree v 0 P Q w (λ bit h. absurd (never_listed bit 0 h))) ws

pub rows_are : (v : ℕ) (P : Positions) (ws : List Word) → ((w : Word) → Has ws w → IsWordOfRow v w) → AreRowsOf v ws (map (row_under v 0 P) ws)
rows_are v P [] words = tt
rows_are v P (w ∷ ws) words = (is_row_of_word v P w (words w (common.inl refl)), rows_are v P ws (λ u h. words u (common.inr h)))

pub rest_is_whole : (lists : Lists) (v : ℕ) (P : Positions) → waiting_rows lists.store v P (waited 0 lists.first []) ≡ rows_of lists v
rest_is_whole lists v P =
    waited_rows lists.store v 0 P lists.first [] ∙ (append-nil (map (row_under v 0 P) (rows lists.store lists.first)) ∙ any_positions v P no_positions (rows lists.store lists.first))

pub begins : (lists : Lists) (v m : ℕ) (spans : SpanRow) (positions : List ℕ) → take v spans ≡ row_of v m (positions_of positions) → v ≤ MOST_VARIABLES → AreLists lists
    → ((w : Word) → Has (rows lists.store lists.first) w → IsWordOfRow v w) → IsEnumerating lists v (waited 0 lists.first []) spans m positions
begins lists v m spans positions read few sound words = record {
  few = few;
  sound = sound;
  words = words;
  row = read;
  stacked = waited_stacked lists.store v 0 lists.first [] tt (λ some. record { there = sound.there; some = some; fit = λ w h. fits_word v w (words w h) });
}
