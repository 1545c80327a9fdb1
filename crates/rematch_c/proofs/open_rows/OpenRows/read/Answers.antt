use Rattle.std.proofs.Common.{◌≡◌, List, length, sym, subst}
use Rattle.std.specs.Option.{option_copied}
use Rattle.spanner_engine.specs.Begun.{IsReadWithin, row_kept}
use Rattle.spanner_engine.specs.Filtering.{AreAtomsWithin}
use Rattle.spanner_engine.specs.Left.{AreLeft}
use Rattle.query_automaton.specs.CompiledQuery.{IsCompiled}
use Rattle.spanner_library.specs.Library.{PreparedQuery, automaton_of, tree}
use Rattle.rematch_program.proofs.Fits.{fits_unless}
use Rattle.rematch_c.proofs.ReadLaws.{on_ok, rows_after}
use Rattle.rematch_c.proofs.open_rows.OpenRows.read.Goals as goal

pub returns-in-Ok-clause-rows : goal.returns-in-Ok-clause-rows
returns-in-Ok-clause-rows g c =
    let asked = c.args.asked.now in
    let d = asked.document.now in
    let after = row_kept (option_copied c.args.after) in
    let is = c.prepared-prepared.ensures in
    rows_after c.args.query.now d asked.options.now c.min.result after c.in-Ok.rows.rest c.kept.result c.min.ensures
    (subst (λ (p : PreparedQuery). IsCompiled (tree p).query (automaton_of p)) is c.vars.ensures.compiled)
    (subst (λ (p : PreparedQuery). AreLeft (tree p).query d p.names after c.in-Ok.rows.rest) is c.in-Ok.ensures.left)
    (subst (λ (p : PreparedQuery). IsReadWithin p.graph (tree p).query d asked.options.now.filter c.min.result) is c.in-Ok.ensures.weighs)
    (subst (λ (p : PreparedQuery). AreAtomsWithin (tree p).query d asked.options.now.filter c.min.result) is c.in-Ok.ensures.atoms)
    c.kept.ensures.query c.kept.ensures.document c.kept.ensures.rest

pub returns-in-Ok-clause-fits : goal.returns-in-Ok-clause-fits
returns-in-Ok-clause-fits g c =
    let d = c.args.asked.now.document.now in
    on_ok c.kept.result (fits_unless (length d) (option_copied c.args.after) (λ other keeps. let is = c.in-Ok.ensures.other other keeps in cc)
    (λ past. let is = c.in-Ok.ensures.place past in cc))
