use Rattle.std.proofs.Common.{◌+◌, ◌*◌, ◌^◌, ◌<◌, length, refl, ap}
use Rattle.algebra.proofs.Alike.{Has-item}
use Rattle.algebra.proofs.assembly.add_stops_with.Goals as goal

pub add_stop_of-requires-clause-marks : goal.add_stop_of-requires-clause-marks
add_stop_of-requires-clause-marks c =
    let ys = c.args.ys.now in
    let y = c.y-item.result in
    rw (ap length c.loop-y.invariant.names)
    (c.requires.marks y (Has-item ys ys c.loop-y.y-index y refl c.loop-y-test.true c.y-item.is))
