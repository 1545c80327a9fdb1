use Rattle.std.proofs.Common.{ℕ, List, sym, subst, ◌∙◌}
use Rattle.span_core.specs.Lists.{Has}
use Rattle.marked_automaton.specs.declared.way.Way.{Way}
use Rattle.way_exits.specs.Waiting.{IsLooping}
use Rattle.one_pass.proofs.waiting.waiting_of.Goals as goal

pub of_loops-requires : goal.of_loops-requires
of_loops-requires c p h =
    subst (λ (ways : List Way). IsLooping ways p) (c.ways.ensures ∙ sym c.ways-then-all_loop.ensures)
    (c.all_loop.ensures c.if-all_loop.true p (subst (λ (xs : List ℕ). Has xs p) (sym c.as_slice.ensures.value) h))
