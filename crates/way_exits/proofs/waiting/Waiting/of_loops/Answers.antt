use Rattle.std.proofs.Common.{ℕ, List, subst}
use Rattle.span_core.specs.Lists.{Has}
use Rattle.way_exits.proofs.waiting.Waiting.of_loops.Goals as goal

pub exit_of-requires : goal.exit_of-requires
exit_of-requires c p h = c.requires p (subst (λ (xs : List ℕ). Has xs p) c.as_slice.ensures.value h)
