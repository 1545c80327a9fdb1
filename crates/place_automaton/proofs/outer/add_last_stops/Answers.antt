use Rattle.std.proofs.Common.{◌<◌, length, sym, ap, subst, ℕ, List, arith}
use Rattle.span_core.specs.Lists.{Has}
use Rattle.span_core.proofs.HasLaws.{Has-get_or}
use Rattle.marked_automaton.specs.Automaton.{Automaton, IsBlockOf}
use Rattle.place_automaton.proofs.outer.add_last_stops.Goals as goal

pub add_stop-requires-clause-state : goal.add_stop-requires-clause-state
add_stop-requires-clause-state c =
    let xs = c.args.last.now in
    let s = c.stop-item.result in
    let within : c.loop-stop.stop-index < length xs = omega arith in
    let has : Has xs s = subst (Has xs) (sym c.stop-item.is) (Has-get_or xs c.loop-stop.stop-index s within) in
    rw (ap (λ (A : Automaton). A.states) c.loop-stop.invariant.1) (c.requires.state s has)

pub add_stop-requires-clause-marks : goal.add_stop-requires-clause-marks
add_stop-requires-clause-marks c =
    let xs = c.args.last.now in
    let s = c.stop-item.result in
    let within : c.loop-stop.stop-index < length xs = omega arith in
    let has : Has xs s = subst (Has xs) (sym c.stop-item.is) (Has-get_or xs c.loop-stop.stop-index s within) in
    rw c.loop-stop.invariant.0 (c.requires.marks s has)
