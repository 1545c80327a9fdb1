use Rattle.std.proofs.Common.{◌+◌, arith, refl, sym, ap, subst, ◌∙◌}
use Rattle.marked_automaton.specs.Automaton.{Marked, IsMarked, with_states}
use Rattle.marked_automaton.proofs.Parts.{grown, more_states_graph, states_are_marked}
use Rattle.marked_automaton.proofs.automaton.Automaton.add_states.Goals as goal

pub invariant_of-self-2 : goal.invariant_of-self-2
invariant_of-self-2 c =
    let a = c.self.inside in
    let flags = c.resize.new.self.items in
    let same = grown a.idle.items flags (c.from.result + c.from-2.result) a.idle.len (omega arith) (omega (arith, c.self.invariant.1, c.from.ensures)) c.in_ok-resize.ensures.items in
    let made = more_states_graph (a.states + c.args.more) c.args.more a.starts.items a.ways.items a.stops.items a.idle.items flags a.states refl same in (
      subst (λ A. IsMarked (record { names = a.vars; graph = A })) (sym made) (states_are_marked _ c.self.invariant.0 c.args.more (omega arith)),
      omega (arith, c.in_ok-resize.ensures.len),
      c.self.invariant.2,
    )

pub returns-clause-ok : goal.returns-clause-ok
returns-clause-ok c =
    let a = c.self.inside in
    let flags = c.resize.new.self.items in
    let same = grown a.idle.items flags (c.from.result + c.from-2.result) a.idle.len (omega arith) (omega (arith, c.self.invariant.1, c.from.ensures)) c.in_ok-resize.ensures.items in
    let made = more_states_graph (a.states + c.args.more) c.args.more a.starts.items a.ways.items a.stops.items a.idle.items flags a.states refl same in
    made ∙ ap (λ (A : Marked). with_states c.args.more A.graph) c.self.view_is
