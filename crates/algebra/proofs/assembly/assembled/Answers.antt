use Rattle.std.proofs.Common.{◌≡◌, List, ◌++◌, ap, rules, ◌∙◌}
use Rattle.std.specs.List.{flat_map}
use Rattle.span_core.specs.Lists.{Has}
use Rattle.marked_automaton.specs.declared.way.Stop.{Stop}
use Rattle.marked_automaton.specs.declared.way.Way.{Way}
use Rattle.marked_automaton.specs.Automaton.{Automaton, idle_way}
use Rattle.algebra.specs.declared.pairs.Pair.{Pair}
use Rattle.algebra.specs.Pairs.{IsIdlePair, IsStopAt, Matched, PairStop, stops_at_pair}
use Rattle.algebra.specs.Sides.{graph_of}
use Rattle.algebra.proofs.Assembled.{assembled_made}
use Rattle.algebra.proofs.Followed.{keys_apart}
use Rattle.algebra.proofs.assembly.assembled.Goals as goal

pub add_idle-requires-clause-ways : goal.add_idle-requires-clause-ways
add_idle-requires-clause-ways c = λ p h.
    let same = c.in_ok-add_stops.ensures.same.ways ∙ (c.in_ok-add_starts.ensures.same.ways ∙ ap (λ (g : Automaton). g.ways) c.in_ok-automaton.ensures.ok.1) in
    rw same
    (c.requires.idle p (rw (← c.as_slice-found.ensures.keys) h))

pub returns-clause-made : goal.returns-clause-made
returns-clause-made c =
    let slice = c.as_slice-found.result.now in
    let left = c.args.left.now.stops.items in
    let right = c.args.right.now.stops.items in
    let given = c.in_ok-add_stops.ensures.stops in
    let rows : flat_map (stops_at_pair c.as_slice.result.now c.as_slice-2.result.now) slice ≡ flat_map (stops_at_pair left right) slice =
    (λ i. flat_map (stops_at_pair (c.as_slice.ensures.value i) (c.as_slice-2.ensures.value i)) slice) in
    let stops : (made : List Stop) × (c.add_stops.new.automaton.graph.stops ≡ c.add_starts.new.automaton.graph.stops ++ made)
    × Matched (IsStopAt slice) (flat_map (stops_at_pair left right) slice) made =
    (given.0, given.1, rw rows at given.2) in
    assembled_made c.args.reached.found.keys c.as_slice-found.result.now c.args.reached.starts c.len-states.result c.args.reached.ways.items c.args.left.now.stops.items c.args.right.now.stops.items
    (graph_of c.args.left.now).idle (graph_of c.args.right.now).idle c.in_ok-automaton.automaton.graph c.add_starts.new.automaton.graph c.add_stops.new.automaton.graph c.add_idle.new.automaton.graph
    c.as_slice-found.ensures.keys (keys_apart _ (λ k. search rules) c.args.reached.found.keys c.as_slice-found.ensures.unique) c.in_ok-automaton.ensures.ok.1 c.len-states.ensures.len
    c.in_ok-add_starts.ensures.starts c.in_ok-add_starts.ensures.same stops c.in_ok-add_stops.ensures.same c.in_ok-add_idle.ensures.graph c.in_ok-add_idle.ensures.idles
