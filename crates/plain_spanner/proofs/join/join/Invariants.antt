use Rattle.std.proofs.Common.{[], ◌⊎◌, take}
use Rattle.span_core.specs.Lists.{Has}
use Rattle.plain_spanner.specs.Listed.{Tells, FromSome}
use Rattle.plain_spanner.specs.Tables.{JoinsRow}
use Rattle.plain_spanner.proofs.join.join.Given as goal

abbrev pub invariant-loop-row : goal.invariant-loop-row
invariant-loop-row l =
    Tells (Has l.rows.items) (λ r. Has [] r ⊎ FromSome (JoinsRow l.names l.left.names l.right.names l.right.rows.items) (take l.row-index l.left.rows.items) r)
