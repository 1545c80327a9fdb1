use Rattle.std.proofs.Common.{List, ap, ◌∙◌, subst, sym}
use Rattle.spanner_model.specs.Captures.{VarName}
use Rattle.row_cursor.specs.CursorTexts.{IsCursorText}
use Rattle.spanner_library.specs.Library.{PreparedQuery}
use Rattle.rematch_c.specs.Refusals.{no_cursor, other_variables}
use Rattle.rematch_c.proofs.ReadLaws.{behind_refused, rows_behind}
use Rattle.rematch_c.proofs.open_rows.OpenRows.resume.Goals as goal

pub returns-in-Ok-clause-rows : goal.returns-in-Ok-clause-rows
returns-in-Ok-clause-rows g c =
    let named = c.vars.ensures.value ∙ ap (λ (p : PreparedQuery). p.names) c.prepared.ensures in
    let text = subst (λ (names : List VarName). IsCursorText names c.in-Ok.kept.row c.in-Ok.kept.length c.args.cursor.now) named c.in-Ok.ensures.row in
    rows_behind c.args.query.now c.args.asked.now.document.now c.args.cursor.now c.args.asked.now.options.now c.in-Ok.kept c.read-in-Ok.result text
    c.read-in-Ok.ensures.fits c.read-in-Ok.ensures.rows

pub returns-in-Ok-clause-refused : goal.returns-in-Ok-clause-refused
returns-in-Ok-clause-refused g c =
    let named = c.vars.ensures.value ∙ ap (λ (p : PreparedQuery). p.names) c.prepared.ensures in
    let text = subst (λ (names : List VarName). IsCursorText names c.in-Ok.kept.row c.in-Ok.kept.length c.args.cursor.now) named c.in-Ok.ensures.row in
    let asked = c.args.asked.now in
    behind_refused c.args.query.now asked.document.now c.args.cursor.now asked.options.now c.in-Ok.kept c.read-in-Ok.new.note c.read-in-Ok.result text
    c.read-in-Ok.ensures.refused

pub returns-in-Err-Syntax-clause-refused : goal.returns-in-Err-Syntax-clause-refused
returns-in-Err-Syntax-clause-refused g c =
    let none = c.read.ensures.syntax.0 (let is = c.in-Err-Syntax.is in let at = c.in-Err-Syntax.field-0-is in cc) in
    no_cursor none c.said.ensures

pub returns-clause-refused : goal.returns-clause-refused
returns-clause-refused g c =
    let named = c.vars.ensures.value ∙ ap (λ (p : PreparedQuery). p.names) c.prepared.ensures in
    let other = c.read.ensures.variables.0 (let is = c.in-Err-Variables.is in let at = c.in-Err-Variables.field-0-is in cc) in
    other_variables other.0 other.1.0 other.1.1.0 other.1.1.1.0 (λ same. other.1.1.1.1 (same ∙ sym named)) c.said-in-Err-Variables.ensures
