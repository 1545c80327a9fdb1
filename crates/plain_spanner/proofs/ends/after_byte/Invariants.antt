use Rattle.std.proofs.Common.{[], ◌⊎◌, take}
use Rattle.span_core.specs.Lists.{Has}
use Rattle.spanner_model.specs.Tree.{one}
use Rattle.spanner_model.specs.Fit.{Fit}
use Rattle.plain_spanner.specs.Listed.{Tells, FromSome}
use Rattle.plain_spanner.proofs.ends.after_byte.Given as goal

abbrev pub invariant-loop-start : goal.invariant-loop-start
invariant-loop-start l = Tells (Has l.ends.items) (λ j. Has [] j ⊎ FromSome (λ i j. Fit (one l.set) l.doc i j []) (take l.start-index l.starts) j)
