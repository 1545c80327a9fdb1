use Rattle.std.proofs.Common.{◌≡◌, ◌∙◌, Some, [], false, length, replicate, subst, sym, ap, arith}
use Rattle.std.proofs.Math.ListN.{length-replicate}
use Rattle.std.specs.Prelude.{slice_get}
use Rattle.marked_automaton.specs.Reach.{AreTargets, Grows}
use Rattle.marked_automaton.specs.Trimmed.{back_edges_of}
use Rattle.settled_states.specs.States.{HasMarkedWay}
use Rattle.settled_states.proofs.Marking.{leading_is, source_below}
use Rattle.settled_states.proofs.unspent.leading_to_marks.Goals as goal
use Rattle.settled_states.proofs.unspent.leading_to_marks.Goals.{After-find_by_stops}

-- what was found by the ways
by_ways : (c : After-find_by_stops) → Grows (HasMarkedWay c.args.ways.now) (replicate c.args.states false) [] c.find_by_ways.new.self.found.items c.find_by_ways.new.self.waiting.items
by_ways c =
    let P = HasMarkedWay c.args.ways.now in
    let f1 = c.find_by_ways.new.self.found.items in
    let q1 = c.find_by_ways.new.self.waiting.items in
    subst (λ w. Grows P (replicate c.args.states false) w f1 q1) c.in_ok-search.ensures.waiting
    (subst (λ f. Grows P f c.in_ok-search.search.waiting.items f1 q1) c.in_ok-search.ensures.found c.in_ok-find_by_ways.ensures.grows)

pub follow_all-requires-clause-within : goal.follow_all-requires-clause-within
follow_all-requires-clause-within c p list at q h =
    let len : length c.find_by_stops.new.self.found.items ≡ c.args.states =
    c.in_ok-find_by_stops.ensures.grows.len ∙ (c.in_ok-find_by_ways.ensures.grows.len ∙ (ap length c.in_ok-search.ensures.found ∙ length-replicate c.args.states false)) in
    let l = (c.in_ok-sources.ensures.exactly p list (subst (λ lists. slice_get lists p ≡ Some list) c.as_slice.ensures.value at) q).0 h in
    omega (arith, len, source_below c.args.ways.now c.args.states c.requires.froms p q l)

pub returns-clause-exactly : goal.returns-clause-exactly
returns-clause-exactly c =
    let ways = c.args.ways.now in
    let f1 = c.find_by_ways.new.self.found.items in
    let q1 = c.find_by_ways.new.self.waiting.items in
    let f2 = c.find_by_stops.new.self.found.items in
    let q2 = c.find_by_stops.new.self.waiting.items in
    let one = by_ways (goal.at.returns-clause-exactly c).After-find_by_stops in
    let two = c.in_ok-find_by_stops.ensures.grows in
    let sources = subst (AreTargets (back_edges_of ways)) (sym c.as_slice.ensures.value) c.in_ok-sources.ensures.exactly in
    leading_is ways c.args.stops.now c.args.states f1 f2 c.follow_all.new.self.found.items q1 q2 one two c.in_ok-find_by_ways.ensures.found c.in_ok-find_by_stops.ensures.found
    (λ first. c.in_ok-follow_all.ensures.search ways _ sources first)
