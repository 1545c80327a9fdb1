use Rattle.std.proofs.Common.{◌⊎◌, take}
use Rattle.span_core.specs.Lists.{Has}
use Rattle.plain_spanner.specs.Listed.{Tells, FromSome}
use Rattle.plain_spanner.specs.Tables.{JoinsWith}
use Rattle.plain_spanner.proofs.join.add_joined.Given as goal

abbrev pub invariant-loop-place : goal.invariant-loop-place
invariant-loop-place l =
    Tells (Has l.rows.items) (λ r. Has l.initial.rows.items r ⊎ FromSome (JoinsWith l.names l.left_names l.right.names l.row l.right.rows.items) (take l.place-index l.places) r)
