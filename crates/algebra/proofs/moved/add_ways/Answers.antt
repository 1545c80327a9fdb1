use Rattle.std.proofs.Common.{arith, ap, length, ◌∙◌}
use Rattle.marked_automaton.specs.Automaton.{IsBlockOf}
use Rattle.algebra.proofs.Alike.{Has-item}
use Rattle.algebra.proofs.moved.add_ways.Goals as goal

pub overflow_add-by : goal.overflow_add-by
overflow_add-by c =
    let has = Has-item c.ways-ways.result.now c.args.part.now.graph.ways c.loop-way.way-index c.way-item.result c.ways-ways.ensures c.loop-way-test.true c.way-item.is in
    omega (arith, c.is_marked.ensures.whole.froms c.way-item.result has, c.requires.room, c.requires.few)

pub overflow_add-by-in-loop-way : goal.overflow_add-by-in-loop-way
overflow_add-by-in-loop-way c =
    let has = Has-item c.ways-ways.result.now c.args.part.now.graph.ways c.loop-way.way-index c.way-item.result c.ways-ways.ensures c.loop-way-test.true c.way-item.is in
    omega (arith, c.is_marked.ensures.whole.tos c.way-item.result has, c.requires.room, c.requires.few)

pub add_way-requires-clause-from : goal.add_way-requires-clause-from
add_way-requires-clause-from c =
    let has = Has-item c.ways-ways.result.now c.args.part.now.graph.ways c.loop-way.way-index c.way-item.result c.ways-ways.ensures c.loop-way-test.true c.way-item.is in
    omega (arith, c.is_marked.ensures.whole.froms c.way-item.result has, c.requires.room, c.loop-way.invariant.states)

pub add_way-requires-clause-to : goal.add_way-requires-clause-to
add_way-requires-clause-to c =
    let has = Has-item c.ways-ways.result.now c.args.part.now.graph.ways c.loop-way.way-index c.way-item.result c.ways-ways.ensures c.loop-way-test.true c.way-item.is in
    omega (arith, c.is_marked.ensures.whole.tos c.way-item.result has, c.requires.room, c.loop-way.invariant.states)

pub add_way-requires-clause-marks : goal.add_way-requires-clause-marks
add_way-requires-clause-marks c =
    let has = Has-item c.ways-ways.result.now c.args.part.now.graph.ways c.loop-way.way-index c.way-item.result c.ways-ways.ensures c.loop-way-test.true c.way-item.is in
    rw (ap length (c.loop-way.invariant.names ∙ c.requires.names)) (c.is_marked.ensures.way_marks c.way-item.result has)

pub add_way-requires-clause-bytes : goal.add_way-requires-clause-bytes
add_way-requires-clause-bytes c =
    c.is_marked.ensures.some_byte c.way-item.result
    (Has-item c.ways-ways.result.now c.args.part.now.graph.ways c.loop-way.way-index c.way-item.result c.ways-ways.ensures c.loop-way-test.true c.way-item.is)
