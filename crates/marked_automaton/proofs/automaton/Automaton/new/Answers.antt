use Rattle.std.proofs.Common.{arith, refl, sym, subst}
use Rattle.marked_automaton.specs.Automaton.{IsMarked}
use Rattle.marked_automaton.proofs.Grouped.{none_grouped}
use Rattle.marked_automaton.proofs.Parts.{bare_is_marked, new_graph, resized}
use Rattle.marked_automaton.proofs.automaton.Automaton.new.Goals as goal

pub invariant_of-result : goal.invariant_of-result
invariant_of-result c =
    let e = new_graph c.args.states c.new.result.items c.new-2.result.items c.new-3.result.items c.resize.new.self.items
    c.new.ensures.items c.new-2.ensures.items c.new-3.ensures.items
    (resized c.new-idle.result.items c.resize.new.self.items c.args.states _ c.new-idle.ensures.items c.new-idle.ensures.len c.in_ok-resize.ensures.items) in (
      subst (λ A. IsMarked (record { names = c.args.vars; graph = A })) (sym e) (bare_is_marked c.args.vars c.args.states (omega arith)),
      omega (arith, c.in_ok-resize.ensures.len),
      none_grouped c.new-2.result.items c.new-2.ensures.items,
    )

pub returns-clause-ok : goal.returns-clause-ok
returns-clause-ok c = (
  refl,
  new_graph c.args.states c.new.result.items c.new-2.result.items c.new-3.result.items c.resize.new.self.items
      c.new.ensures.items c.new-2.ensures.items c.new-3.ensures.items
      (resized c.new-idle.result.items c.resize.new.self.items c.args.states _ c.new-idle.ensures.items c.new-idle.ensures.len c.in_ok-resize.ensures.items),
)
