-- What a trial writes: a summary of the answers on a made document.
use Rattle.std.specs.Prelude.{ℕ, List, length, false, Option, None, Some, option_map, slice_get}
use Rattle.spanner_model.specs.Captures.{VarName}
use Rattle.spanner_model.specs.Answers.{SpanRow, page_end}
use Rattle.row_writer.specs.Lines.{spans_text}
use Rattle.trial_maker.specs.Summary.{summary_text}

-- the line of a row that is there
abbrev pub summary_row : List VarName → List ℕ → Option SpanRow → Option (List ℕ)
summary_row names d row = option_map (λ r. spans_text names r d false) row

-- of a first row and one later than it, that which is there and later
abbrev pub later_row : Option SpanRow → Option SpanRow → Option SpanRow
later_row first None = first
later_row first (Some row) = Some row

-- the summary of these rows, all answers on the document of so many lines
abbrev pub trial_summary : ℕ → List VarName → List ℕ → List SpanRow → List ℕ
trial_summary lines names d rows =
    summary_text lines (length d) (length rows) (summary_row names d (slice_get rows 0)) (summary_row names d (page_end rows None))
