use Rattle.spanner_model.specs.View.{tree_of}
use Rattle.span_core.specs.Lists.{Has}
use Rattle.plain_spanner.specs.Listed.{Tells}
use Rattle.plain_spanner.specs.Tables.{IsRowOf}
use Rattle.plain_spanner.proofs.RowLaws.{FitsBefore}
use Rattle.plain_spanner.proofs.rows.atom_table.Given as goal

abbrev pub invariant-loop-from : goal.invariant-loop-from
invariant-loop-from l = Tells (Has l.rows.items) (IsRowOf (FitsBefore l.from l.atom.to_end (tree_of l.atom.formula) l.doc) l.names)
