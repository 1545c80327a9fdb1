use Rattle.std.proofs.Common.{◌≡◌, ℕ, ◌^◌, ◌<◌, arith}
use Rattle.enumerator.specs.Rows.{positions_of}
use Rattle.enumerator.proofs.Placing.{ArePut, put_begins, put_step, put_ends, clear_smaller}
use Rattle.enumerator.proofs.positions.place.Goals as goal

pub loop-rest-init : goal.loop-rest-init
loop-rest-init c = rw (← c.number-rest.ensures) (put_begins c.args.positions.now (c.args.at, c.number-rest.result) c.told-positions)

pub loop-rest-smaller : goal.loop-rest-smaller
loop-rest-smaller c =
    let some : 0 < c.loop-rest.rest = omega arith in
    let fits : c.loop-rest.rest < 2 ^ 64 = omega arith in
    clear_smaller c.loop-rest.rest some fits

pub loop-rest-preserved : goal.loop-rest-preserved
loop-rest-preserved c =
    let some : 0 < c.loop-rest.rest = omega arith in
    let fits : c.loop-rest.rest < 2 ^ 64 = omega arith in
    put_step c.loop-rest.rest some fits (positions_of c.args.positions.now) (c.args.at, c.args.marks) c.loop-rest.positions c.loop-rest.invariant

pub returns : goal.returns
returns c = λ bit.
    let none : c.loop-rest.rest ≡ 0 = omega arith in
    put_ends (positions_of c.args.positions.now) (c.args.at, c.args.marks) c.loop-rest.positions
    (rw (← none) c.loop-rest.invariant) bit
