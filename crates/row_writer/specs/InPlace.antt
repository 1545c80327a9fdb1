-- Lines that are written in place are the lines of rows.
use Rattle.std.specs.Prelude.{◌≡◌, ℕ, Bool, List, Option, length}
use Rattle.span_core.specs.declared.span.Span.{Span}
use Rattle.row_writer.specs.JsonLines.{json_text}
use Rattle.row_writer.specs.Kept.{json_kept, kept_text, spans_kept, table_kept}
use Rattle.row_writer.specs.Lines.{spans_text, table_text}

-- of each row that has a place for each name
pub record LinesInPlace : Type 0 where
  pub spans : (names : List (List ℕ)) (row : List (Option Span)) (doc : List ℕ) (texts : Bool) → length row ≡ length names →
      kept_text (spans_kept names) row doc texts ≡ spans_text names row doc texts
  pub table : (names : List (List ℕ)) (row : List (Option Span)) (doc : List ℕ) (texts : Bool) → length row ≡ length names →
      kept_text (table_kept names) row doc texts ≡ table_text row doc texts
  pub json : (names : List (List ℕ)) (row : List (Option Span)) (doc : List ℕ) (texts : Bool) → length row ≡ length names →
      kept_text (json_kept names) row doc texts ≡ json_text names row doc texts
