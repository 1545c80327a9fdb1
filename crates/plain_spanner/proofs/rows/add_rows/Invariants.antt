use Rattle.std.proofs.Common.{◌⊎◌, take}
use Rattle.span_core.specs.Lists.{Has}
use Rattle.plain_spanner.specs.Listed.{Tells, FromSome}
use Rattle.plain_spanner.specs.Tables.{IsRowOfFits}
use Rattle.plain_spanner.proofs.rows.add_rows.Given as goal

abbrev pub invariant-loop-branch : goal.invariant-loop-branch
invariant-loop-branch l = Tells (Has l.rows.items) (λ r. Has l.initial.rows.items r ⊎ FromSome (IsRowOfFits l.names l.to_end l.end) (take l.branch-index l.found) r)
