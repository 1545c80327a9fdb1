-- The lines of a page, where their fields are kept.
use Rattle.std.proofs.Common.{◌≡◌, ℕ, Bool, List, length, ap, ◌∙◌}
use Rattle.spanner_model.specs.Captures.{VarName}
use Rattle.spanner_model.specs.Answers.{SpanRow}
use Rattle.row_writer.specs.Kept.{Line, kept_text}
use Rattle.row_writer.proofs.KeptLaws.{json_heads_length, kept_json, kept_spans, kept_table, spans_heads_length, table_heads_length}
use Rattle.command_line.specs.declared.request.Form.{Form}
use Rattle.command_line.specs.declared.request.Form.TheVariants as form
use Rattle.rematch_program.specs.Kept.{kept_of}
use Rattle.rematch_program.specs.Pages.{row_text}

kept_row_of : (f : Form) (texts : Bool) (names : List VarName) (d : List ℕ) (row : SpanRow) → length row ≡ length names → kept_text (kept_of f names) row d texts ≡ row_text f texts names d row
kept_row_of form.Spans texts names d row e = kept_spans names row d texts e
kept_row_of form.Table texts names d row e = kept_table names row d texts e
kept_row_of form.Json texts names d row e = kept_json names row d texts e

-- the line of a row as its form keeps it
pub kept_row : (f : Form) (texts : Bool) (names : List VarName) (d : List ℕ) (row : SpanRow) (kept : Line) → kept ≡ kept_of f names →
    length row ≡ length names → kept_text kept row d texts ≡ row_text f texts names d row
kept_row f texts names d row kept is e = ap (λ (k : Line). kept_text k row d texts) is ∙ kept_row_of f texts names d row e

width_of : (f : Form) (names : List VarName) → length (kept_of f names).heads ≡ length names
width_of form.Spans names = spans_heads_length names
width_of form.Table names = table_heads_length names
width_of form.Json names = json_heads_length names

pub kept_width : (f : Form) (names : List VarName) (kept : Line) → kept ≡ kept_of f names → length kept.heads ≡ length names
kept_width f names kept is = ap (λ (k : Line). length k.heads) is ∙ width_of f names
