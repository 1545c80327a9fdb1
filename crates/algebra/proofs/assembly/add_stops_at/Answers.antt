use Rattle.std.proofs.Common.{arith, ◌+◌, ◌*◌, ◌^◌, ◌<◌, length, refl, ap}
use Rattle.std.proofs.lemmas.Nat.{mul-le}
use Rattle.algebra.proofs.Alike.{Has-item}
use Rattle.algebra.proofs.EndLaws.{ends_so_far}
use Rattle.algebra.proofs.assembly.add_stops_at.Goals as goal

pub add_stops_with-requires-clause-marks : goal.add_stops_with-requires-clause-marks
add_stops_with-requires-clause-marks c = λ y h.
    let xs = c.args.xs.now in
    let x = c.x-item.result in
    rw (ap length c.loop-x.invariant.names)
    (c.requires.marks x y (Has-item xs xs c.loop-x.x-index x refl c.loop-x-test.true c.x-item.is) h)

-- those that are made so far are no more than all
pub returns-then-count-gt-MOST_ENDS-clause-fault : goal.returns-then-count-gt-MOST_ENDS-clause-fault
returns-then-count-gt-MOST_ENDS-clause-fault c =
    let made = ends_so_far c.args.automaton.now.graph.stops c.loop-x.automaton.graph.stops c.args.state c.args.xs.now c.args.ys.now c.loop-x.x-index c.loop-x.invariant.stops in
    (c.if-count-gt-MOST_ENDS.true, omega (arith, made, ap length c.stops.ensures))

pub returns-then-is_spent-clause-spent : goal.returns-then-is_spent-clause-spent
returns-then-is_spent-clause-spent c =
    let ys = c.args.ys.now in
    omega (
      arith,
      c.is_spent.ensures.0 c.if-is_spent.true,
      c.spend.ensures,
      c.loop-x.invariant.steps,
      mul-le (c.loop-x.x-index + 1) (length ys) (length c.args.xs.now) (length ys) (omega (arith, c.loop-x-test.true)) (omega arith),
    )

pub returns-clause-steps : goal.returns-clause-steps
returns-clause-steps c =
    let ys = c.args.ys.now in
    omega (arith, c.loop-x.invariant.steps, mul-le c.loop-x.x-index (length ys) (length c.args.xs.now) (length ys) c.loop-x.auto.x-index-end (omega arith))
