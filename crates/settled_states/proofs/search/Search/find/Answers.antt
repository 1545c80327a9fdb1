use Rattle.std.proofs.Common.{◌≡◌, true, subst, sym, ◌∙◌}
use Rattle.std.proofs.Math.ListN.{set}
use Rattle.marked_automaton.specs.Reach.{Grows}
use Rattle.marked_automaton.proofs.Growing.{grows_find, read}
use Rattle.settled_states.proofs.search.Search.find.Goals as goal

pub returns-clause-grows : goal.returns-clause-grows
returns-clause-grows c =
    let s = c.args.self.now in
    let node = c.args.state in
    subst (λ w. Grows (λ p. p ≡ node) s.found.items s.waiting.items (set s.found.items node true) w) (sym c.in_ok-push.ensures.items)
    (grows_find s.found.items s.waiting.items node c.requires (read s.found.items node c.index.result.now c.requires c.index.ensures ∙ c.if-index.false))
