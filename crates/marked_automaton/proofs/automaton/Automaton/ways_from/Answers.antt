use Rattle.std.proofs.Common.{sym, ap, subst, ◌∙◌}
use Rattle.marked_automaton.specs.Automaton.{AreGrouped, Marked}
use Rattle.marked_automaton.proofs.automaton.Automaton.ways_from.Goals as goal

pub ways_from-requires : goal.ways_from-requires
ways_from-requires c = subst AreGrouped (ap (λ (m : Marked). m.graph.ways) (sym c.self.view_is) ∙ sym c.as_slice.ensures.value) c.requires
