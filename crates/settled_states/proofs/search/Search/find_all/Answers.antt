use Rattle.std.proofs.Common.{◌≡◌, get_or, inl, inr, subst, sym, arith}
use Rattle.span_core.specs.Lists.{Has}
use Rattle.span_core.proofs.HasLaws.{Has-get_or, Has-take_more_cases}
use Rattle.marked_automaton.specs.Reach.{IsFlagged}
use Rattle.marked_automaton.proofs.Growing.{grows_none, grows_then, grows_weaker}
use Rattle.settled_states.proofs.search.Search.find_all.Goals as goal

pub find-requires : goal.find-requires
find-requires c =
    let nodes = c.args.states.now in
    let i = c.loop-state.state-index in
    omega (arith, c.loop-state.invariant.grows.len, c.requires (get_or nodes i 0) (Has-get_or nodes i 0 c.loop-state-test.true))

pub loop-state-preserved : goal.loop-state-preserved
loop-state-preserved c =
    let nodes = c.args.states.now in
    let i = c.loop-state.state-index in
    let node = get_or nodes i 0 in
    let s0 = c.args.self.now in
    let s1 = c.loop-state.self in
    let s2 = c.find.new.self in
    let g = c.in_ok-find.ensures.grows in
    let here = Has-get_or nodes i 0 c.loop-state-test.true in
    record {
      grows = grows_then (Has nodes) s0.found.items s1.found.items s2.found.items s0.waiting.items s1.waiting.items s2.waiting.items c.loop-state.invariant.grows
          (grows_weaker (λ p. p ≡ node) (Has nodes) (λ p e. subst (Has nodes) (sym e) here) s1.found.items s2.found.items s1.waiting.items s2.waiting.items g);
      found = λ p h. elim (Has-take_more_cases nodes i 0 p c.loop-state-test.true h) [
        | inl a ↦ g.kept p (c.loop-state.invariant.found p a)
        | inr e ↦ subst (IsFlagged s2.found.items) e c.in_ok-find.ensures.found
      ];
    }

pub loop-state-init : goal.loop-state-init
loop-state-init c = record { grows = grows_none (Has c.args.states.now) c.args.self.now.found.items c.args.self.now.waiting.items; found = λ p h. absurd h }
