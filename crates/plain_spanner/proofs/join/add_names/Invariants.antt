use Rattle.std.proofs.Common.{take}
use Rattle.span_core.specs.Lists.{Has}
use Rattle.spanner_model.specs.Gathered.{Adds}
use Rattle.plain_spanner.proofs.join.add_names.Given as goal

abbrev pub invariant-loop-k : goal.invariant-loop-k
invariant-loop-k l = Adds l.initial.into (Has (take l.k l.names)) l.into
