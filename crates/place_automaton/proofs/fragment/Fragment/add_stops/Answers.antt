use Rattle.std.proofs.Common.{◌<◌, length, map, ap, ◌∙◌, ℕ, List}
use Rattle.span_core.specs.Lists.{Has}
use Rattle.marked_automaton.specs.declared.way.Stop.{Stop}
use Rattle.marked_automaton.specs.Automaton.{Automaton, IsBlockOf}
use Rattle.place_automaton.specs.Atom.{stop_before}
use Rattle.place_automaton.specs.Sides.{Sides}
use Rattle.span_core.proofs.HasLaws.{Has-append_left, Has-append_right}
use Rattle.place_automaton.proofs.fragment.Fragment.add_stops.Goals as goal

pub add_last_stops-requires-clause-state : goal.add_last_stops-requires-clause-state
add_last_stops-requires-clause-state c = λ x h.
    let P = c.args.self.now in
    c.requires.state x (Has-append_left P.last (map stop_before P.null) x (rw (← (c.deref.ensures.value ∙ ap (λ (P : Sides). P.last) c.self.view_is)) h))

pub add_last_stops-requires-clause-marks : goal.add_last_stops-requires-clause-marks
add_last_stops-requires-clause-marks c = λ x h.
    let P = c.args.self.now in
    c.requires.marks x (Has-append_left P.last (map stop_before P.null) x (rw (← (c.deref.ensures.value ∙ ap (λ (P : Sides). P.last) c.self.view_is)) h))

pub add_last_stops-requires-2-clause-state : goal.add_last_stops-requires-2-clause-state
add_last_stops-requires-2-clause-state c = λ x h.
    let P = c.args.self.now in
    let null = ap (map stop_before) (c.deref-2.ensures.value ∙ ap (λ (P : Sides). P.null) c.self.view_is) in
    let there = rw (c.deref-3.ensures.value ∙ (c.in_ok-stops.ensures ∙ null)) at h in
    rw (ap (λ (A : Automaton). A.states) c.in_ok-add_last_stops.ensures.ok) (c.requires.state x (Has-append_right P.last (map stop_before P.null) x there))

pub add_last_stops-requires-2-clause-marks : goal.add_last_stops-requires-2-clause-marks
add_last_stops-requires-2-clause-marks c = λ x h.
    let P = c.args.self.now in
    let null = ap (map stop_before) (c.deref-2.ensures.value ∙ ap (λ (P : Sides). P.null) c.self.view_is) in
    let there = rw (c.deref-3.ensures.value ∙ (c.in_ok-stops.ensures ∙ null)) at h in
    rw c.in_ok-add_last_stops.ensures.names (c.requires.marks x (Has-append_right P.last (map stop_before P.null) x there))
