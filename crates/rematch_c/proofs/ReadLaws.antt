-- What reading a document behind a cursor is answered with.
use Rattle.std.proofs.Common.{◌≡◌, ℕ, List, length, Option, Some, Result, Ok, Err, IfErr, IfOk, OnOk, sym, subst}
use Rattle.span_core.specs.declared.kept.Kept.{Kept}
use Rattle.row_cursor.specs.CursorTexts.{IsCursorText}
use Rattle.spanner_model.specs.Answers.{SpanRow}
use Rattle.query_automaton.specs.CompiledQuery.{IsCompiled}
use Rattle.spanner_engine.specs.Begun.{IsReadWithin}
use Rattle.spanner_engine.specs.Filtering.{AreAtomsWithin}
use Rattle.spanner_engine.specs.Left.{AreLeft}
use Rattle.spanner_library.specs.Library.{PreparedQuery, automaton_of, tree}
use Rattle.rematch_program.specs.Pages.{CursorFits}
use Rattle.rm_outside.specs.declared.status.Status.{Status}
use Rattle.rematch_c.specs.declared.open_rows.ReadOptions.{ReadOptions}
use Rattle.rematch_c.specs.declared.short_text.ShortText.{ShortText}
use Rattle.rematch_c.specs.Refusals.{IsReadRefusal, IsResumeRefusal}
use Rattle.rematch_c.specs.Rows.{AreRowsAfter, AreRowsBehind, QueryRows, limit_of}

-- the rows of a document that was read
pub rows_after : (p : PreparedQuery) (d : List ℕ) (options : ReadOptions) (limit : ℕ) (after : Option SpanRow) (rest : List SpanRow) (result : Result QueryRows Status) →
    limit ≡ limit_of options → IsCompiled (tree p).query (automaton_of p) → AreLeft (tree p).query d p.names after rest →
    IsReadWithin p.graph (tree p).query d options.filter limit → AreAtomsWithin (tree p).query d options.filter limit → IfOk result (λ r. r.query ≡ p) → IfOk result (λ r. r.document ≡ d) → IfOk result (λ r. r.rest ≡ rest) →
    IfOk result (AreRowsAfter p d options after)
rows_after p d options limit after rest (Ok r) same compiled left weighs atoms query document is = record {
  query = query;
  document = document;
  left = subst (AreLeft (tree p).query d p.names after) (sym is) left;
  held = record {
    automaton = automaton_of p;
    compiled = compiled;
    read = subst (IsReadWithin p.graph (tree p).query d options.filter) same weighs;
    atoms = subst (AreAtomsWithin (tree p).query d options.filter) same atoms;
  };
}
rows_after p d options limit after rest (Err e) same compiled left weighs atoms query document is = tt

-- what holds in any case
pub on_ok : {P : Type 0} (result : Result QueryRows Status) → P → OnOk result P
on_ok (Ok r) p = p
on_ok (Err e) p = tt

-- the rows behind a cursor
pub rows_behind : (p : PreparedQuery) (d cursor : List ℕ) (options : ReadOptions) (kept : Kept) (result : Result QueryRows Status) →
    IsCursorText p.names kept.row kept.length cursor → OnOk result (CursorFits (length d) (Some kept)) → IfOk result (AreRowsAfter p d options (Some kept.row)) →
    IfOk result (AreRowsBehind p d cursor options)
rows_behind p d cursor options kept (Ok r) text fits rows = record { kept = kept; text = text; fits = fits; rows = rows }
rows_behind p d cursor options kept (Err e) text fits rows = tt

-- the document is refused for them
pub behind_refused : (p : PreparedQuery) (d cursor : List ℕ) (options : ReadOptions) (kept : Kept) (note : ShortText) (result : Result QueryRows Status) →
    IsCursorText p.names kept.row kept.length cursor → IfErr result (λ how. IsReadRefusal p d options (Some kept) how note) →
    IfErr result (λ how. IsResumeRefusal p d cursor options how note)
behind_refused p d cursor options kept note (Ok r) text refused = tt
behind_refused p d cursor options kept note (Err how) text refused = IsResumeRefusal.unread kept text refused
