use Rattle.std.proofs.Common.{◌↔◌, ◌<◌, IsTrue, arith, ap, subst}
use Rattle.span_core.specs.Lists.{Has}
use Rattle.marked_automaton.specs.Automaton.{Marked}
use Rattle.marked_automaton.proofs.Flags.{flag_at}
use Rattle.marked_automaton.proofs.automaton.Automaton.is_idle.Goals as goal

pub returns : goal.returns
returns c =
    let a = c.self.inside in
    let here : c.args.state < a.states = omega (arith, c.requires, ap (λ (A : Marked). A.graph.states) c.self.view_is) in
    subst (λ (A : Marked). IsTrue c.index.result.now ↔ Has A.graph.idle c.args.state) c.self.view_is
    (flag_at a.idle.items c.args.state c.index.result.now (omega (arith, here, c.self.invariant.1)) c.index.ensures)
