use Rattle.std.proofs.Common.{◌≡◌, ◌++◌, drop}
use Rattle.row_writer.specs.Kept.{heads_of, more_tabs, table_heads}
use Rattle.row_writer.proofs.kept.KeptLine.table.Given as goal

abbrev pub invariant-loop-k : goal.invariant-loop-k
invariant-loop-k l = heads_of l.fields.items ++ more_tabs (drop l._k l.vars) ≡ table_heads l.vars
