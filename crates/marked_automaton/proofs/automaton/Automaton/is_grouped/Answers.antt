use Rattle.std.proofs.Common.{◌↔◌, IsTrue, subst}
use Rattle.marked_automaton.specs.Automaton.{AreGrouped, Marked}
use Rattle.marked_automaton.proofs.automaton.Automaton.is_grouped.Goals as goal

pub returns : goal.returns
returns c = subst (λ (A : Marked). IsTrue c.self.inside.grouped ↔ AreGrouped A.graph.ways) c.self.view_is c.self.invariant.2
