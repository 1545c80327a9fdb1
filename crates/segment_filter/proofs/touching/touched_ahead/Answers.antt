use Rattle.std.proofs.Common.{◌-◌, ◌≤◌, refl, arith}
use Rattle.segment_filter.specs.Weights.{IsFullWithin, reading_weight}
use Rattle.set_table.specs.Tabled.{Tabled, fresh, weight}
use Rattle.segment_filter.proofs.WeightLaws.{fresh_weighs}
use Rattle.segment_filter.proofs.touching.touched_ahead.Goals as goal

pub returns-in-Err-clause-full : goal.returns-in-Err-clause-full
returns-in-Err-clause-full g c =
    let F = c.args.readings.now.forward.graph in
    let d = c.args.doc.now in
    let ahead = reading_weight F d in
    let spent = c.weight-spent.result in
    let value = c.weight-spent.ensures.value in
    c.heavier.ensures c.args.limit ahead (weight c.args.back.now.table) c.requires.limit
    (omega (arith, value, c.requires.within)) (omega (arith, value))
    (c.fault_of.ensures (fresh F (c.args.limit - spent)) (c.args.limit - spent) ahead c.in-Err.ensures.refused refl (fresh_weighs F (c.args.limit - spent) d))

pub returns-clause-full : goal.returns-clause-full
returns-clause-full g c =
    let d = c.args.doc.now in
    let ahead = reading_weight c.args.readings.now.forward.graph d in
    let value = c.weight-spent.ensures.value in
    c.heavier-in-Err-meetings.ensures c.args.limit ahead (weight c.args.back.now.table) c.requires.limit
    (omega (arith, value, c.requires.within)) (omega (arith, value))
    (rw c.in-Ok.ensures.ok at c.in-Err-meetings.ensures.full)

pub returns-in-Ok-meetings-clause-within : goal.returns-in-Ok-meetings-clause-within
returns-in-Ok-meetings-clause-within g c =
    let d = c.args.doc.now in
    let value = c.weight-spent.ensures.value in
    let within = rw c.in-Ok.ensures.ok at c.in-Ok-meetings.ensures.within in
    omega (arith, within, value, c.requires.within)
