use Rattle.std.proofs.Common.{◌∙◌, ap, length, arith}
use Rattle.marked_automaton.specs.Automaton.{IsBlockOf}
use Rattle.algebra.proofs.Alike.{Has-item}
use Rattle.algebra.proofs.moved.add_stops.Goals as goal

pub overflow_add-by : goal.overflow_add-by
overflow_add-by c =
    let has = Has-item c.stops-stops.result.now c.args.part.now.graph.stops c.loop-stop.stop-index c.stop-item.result c.stops-stops.ensures c.loop-stop-test.true c.stop-item.is in
    omega (arith, c.requires.part.whole.stops c.stop-item.result has, c.requires.room, c.requires.few)

pub add_stop-requires-clause-state : goal.add_stop-requires-clause-state
add_stop-requires-clause-state c =
    let has = Has-item c.stops-stops.result.now c.args.part.now.graph.stops c.loop-stop.stop-index c.stop-item.result c.stops-stops.ensures c.loop-stop-test.true c.stop-item.is in
    omega (arith, c.requires.part.whole.stops c.stop-item.result has, c.requires.room, c.loop-stop.invariant.states)

pub add_stop-requires-clause-marks : goal.add_stop-requires-clause-marks
add_stop-requires-clause-marks c =
    let has = Has-item c.stops-stops.result.now c.args.part.now.graph.stops c.loop-stop.stop-index c.stop-item.result c.stops-stops.ensures c.loop-stop-test.true c.stop-item.is in
    rw (ap length (c.loop-stop.invariant.names ∙ c.requires.names)) (c.requires.part.stop_marks c.stop-item.result has)
