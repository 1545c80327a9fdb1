use Rattle.std.proofs.Common.{[], ◌⊎◌, take}
use Rattle.span_core.specs.Lists.{Has}
use Rattle.plain_spanner.specs.Listed.{Tells, FromSome}
use Rattle.plain_spanner.specs.Tables.{IsRowOver}
use Rattle.plain_spanner.proofs.table.Table.over.Given as goal

abbrev pub invariant-loop-row : goal.invariant-loop-row
invariant-loop-row l =
    Tells (Has l.rows.items) (λ r. Has [] r ⊎ FromSome (IsRowOver l.self.names l.names) (take l.row-index l.self.rows.items) r)
