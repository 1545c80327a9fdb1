use Rattle.std.proofs.Common.{◌↔◌, IsTrue, subst}
use Rattle.span_core.specs.Block.{block}
use Rattle.marked_automaton.specs.Automaton.{Accepts, Marked}
use Rattle.marked_automaton.specs.Inside.{graph_of}
use Rattle.marked_automaton.proofs.Gathering.{accepts_is}
use Rattle.marked_automaton.proofs.automaton.Automaton.accepts.Goals as goal

pub returns : goal.returns
returns c =
    let a = c.self.inside in
    let d = c.args.doc.now in
    let w = block c.args.row.now in
    subst (λ (A : Marked). IsTrue c.some_good.result ↔ Accepts A.graph d w) c.self.view_is
    (accepts_is (graph_of a.states a.starts.items a.ways.items a.stops.items a.idle.items) d w c.as_slice-3.result.now c.in_ok-good.good.items c.as_slice-4.result.now
    c.as_slice.result.now c.as_slice-2.result.now c.some_good.result c.as_slice-3.ensures.value c.as_slice-4.ensures.value c.as_slice.ensures.value c.as_slice-2.ensures.value
    c.in_ok-good.ensures.exactly c.some_good.ensures)
