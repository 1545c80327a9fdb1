-- What is kept of a page's lines from one row to the next.
use Rattle.std.specs.Prelude.{ℕ, List, false}
use Rattle.std.specs.List.{flat_map}
use Rattle.enumerator.specs.Ends.{row_to}
use Rattle.spanner_model.specs.Captures.{VarName}
use Rattle.spanner_model.specs.Answers.{SpanRow}
use Rattle.row_writer.specs.Kept.{Line, json_kept, kept_text, spans_kept, table_kept}
use Rattle.command_line.specs.declared.request.Form.{Form}
use Rattle.command_line.specs.declared.request.Form.TheVariants as form

-- how the lines of a form are written, and what stands before each of their cells
abbrev pub kept_of : Form → List VarName → Line
kept_of form.Spans names = spans_kept names
kept_of form.Table names = table_kept names
kept_of form.Json names = json_kept names

-- the lines of a row without texts, with each of these ends of its span at a place
abbrev pub ends_text : Line → SpanRow → ℕ → List ℕ → List ℕ → List ℕ
ends_text kept row place d ends = flat_map (λ end. kept_text kept (row_to row place end) d false) ends
