use Rattle.std.proofs.Common.{◌≡◌, Some, ◌+◌, ◌<◌, length, [], ◌∷◌, ◌++◌, ◌∙◌, inl, inr, refl, subst, sym, ap, arith, length-append}
use Rattle.std.specs.Prelude.{slice_get}
use Rattle.std.proofs.lemmas.Option.{slice_get-get_or}
use Rattle.span_core.specs.Lists.{Has}
use Rattle.span_core.proofs.HasLaws.{Has-append_left, Has-append_right}
use Rattle.marked_automaton.specs.Reach.{Grows, IsSearch, LeadsOn}
use Rattle.marked_automaton.specs.Trimmed.{back_edges_of}
use Rattle.marked_automaton.proofs.Growing.{flagged_below, grows_weaker, search_more}
use Rattle.settled_states.proofs.search.Search.follow_all.Goals as goal
use Rattle.settled_states.proofs.search.Search.follow_all.Goals.{After-as_slice}

there : (c : After-as_slice) → slice_get c.args.sources.now c.in-Some.state ≡ Some c.index-sources-state.result
there c =
    let found = c.loop-state.self.found.items in
    let node = c.in-Some.state in
    let waits = subst (λ ps. Has ps node) (sym c.in-Some.ensures.items) (Has-append_right c.pop.new.self.items (node ∷ []) node (inl refl)) in
    let within : node < length c.args.sources.now = omega (arith, flagged_below found node (c.loop-state.invariant.waiting node waits), c.requires.states, c.loop-state.invariant.len) in
    slice_get-get_or c.args.sources.now node c.index-sources-state.result within ∙ ap Some (sym c.index-sources-state.is)

pub bounds-sources-state : goal.bounds-sources-state
bounds-sources-state c =
    let found = c.loop-state.self.found.items in
    let node = c.in-Some.state in
    let waits = subst (λ ps. Has ps node) (sym c.in-Some.ensures.items) (Has-append_right c.pop.new.self.items (node ∷ []) node (inl refl)) in
    omega (arith, flagged_below found node (c.loop-state.invariant.waiting node waits), c.requires.states, c.loop-state.invariant.len)

pub find_all-requires : goal.find_all-requires
find_all-requires c = λ q h.
    let within = c.requires.within c.in-Some.state c.index-sources-state.result (there (goal.at.find_all-requires c).After-as_slice) q (subst (λ qs. Has qs q) c.as_slice.ensures.value h) in
    omega (arith, within, c.loop-state.invariant.len)

pub loop-state-preserved : goal.loop-state-preserved
loop-state-preserved c =
    let at = there (goal.at.loop-state-preserved c).After-as_slice in
    let node = c.in-Some.state in
    let list = c.index-sources-state.result in
    let s1 = c.loop-state.self in
    let s2 = c.find_all.new.self in
    let left = c.pop.new.self.items in
    let g = subst (λ qs. Grows (Has qs) s1.found.items left s2.found.items s2.waiting.items) c.as_slice.ensures.value c.in_ok-find_all.ensures.grows in
    record {
      len = g.len ∙ c.loop-state.invariant.len;
      waiting = λ p h. elim (g.flagged p h) [
        | inl a ↦ g.kept p (c.loop-state.invariant.waiting p (subst (λ ps. Has ps p) (sym c.in-Some.ensures.items) (Has-append_left left (node ∷ []) p a)))
        | inr b ↦ b
      ];
      search = λ ways seeds exact s.
          let edges = back_edges_of ways in
          search_more edges seeds s1.found.items s2.found.items left s2.waiting.items node
          (subst (λ w. IsSearch edges seeds s1.found.items w) c.in-Some.ensures.items (c.loop-state.invariant.search ways seeds exact s))
          (grows_weaker (Has list.items) (LeadsOn edges node) (λ q h. (exact node list at q).0 h) s1.found.items s2.found.items left s2.waiting.items g)
          (λ e h from. c.in_ok-find_all.ensures.found e.to (subst (λ qs. Has qs e.to) (sym c.as_slice.ensures.value) ((exact node list at e.to).1 (e, h, from, refl))));
    }

pub loop-state-smaller : goal.loop-state-smaller
loop-state-smaller c =
    let g = c.in_ok-find_all.ensures.grows in
    let len : length (c.pop.new.self.items ++ c.in-Some.state ∷ []) ≡ length c.pop.new.self.items + 1 = length-append c.pop.new.self.items (c.in-Some.state ∷ []) in
    omega (arith, g.work, len, ap length c.in-Some.ensures.items)
