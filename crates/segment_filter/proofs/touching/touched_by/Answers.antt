use Rattle.std.proofs.Common.{◌≡◌, ◌+◌, ◌≤◌, ◌↔◌, ℕ, IfOk, length, refl, arith}
use Rattle.std.specs.Prelude.{reverse}
use Rattle.std.proofs.lemmas.Result.{on_ok_weaker, IfErr-weaker}
use Rattle.span_core.specs.Intervals.{Covers}
use Rattle.segment_filter.specs.Sets.{MeetAt}
use Rattle.segment_filter.specs.Weights.{IsFullWithin, reading_weight}
use Rattle.set_table.specs.Tabled.{Tabled, fresh, weight}
use Rattle.segment_filter.proofs.WeightLaws.{fresh_weighs, full_wider}
use Rattle.segment_filter.proofs.touching.touched_by.Goals as goal

pub returns-in-Err-clause-full : goal.returns-in-Err-clause-full
returns-in-Err-clause-full g c =
    let R = c.args.readings.now.backward.graph in
    let d = c.args.doc.now in
    let back = reading_weight R (reverse d) in
    let ahead = reading_weight c.args.readings.now.forward.graph d in
    full_wider c.args.limit back (back + ahead) c.fault_of.result (omega arith)
    (c.fault_of.ensures (fresh R c.args.limit) c.args.limit back c.in-Err.ensures.refused refl (fresh_weighs R c.args.limit (reverse d)))

pub returns-in-Err-read_back-clause-full : goal.returns-in-Err-read_back-clause-full
returns-in-Err-read_back-clause-full g c =
    let d = c.args.doc.now in
    let back = reading_weight c.args.readings.now.backward.graph (reverse d) in
    let ahead = reading_weight c.args.readings.now.forward.graph d in
    full_wider c.args.limit back (back + ahead) c.in-Err-read_back.fault (omega arith)
    (rw c.in-Ok.ensures.ok at c.in-Err-read_back.ensures.full)

pub returns-clause-full : goal.returns-clause-full
returns-clause-full g c =
    let d = c.args.doc.now in
    let back = reading_weight c.args.readings.now.backward.graph (reverse d) in
    let ahead = reading_weight c.args.readings.now.forward.graph d in
    let spent = weight c.read_back.new.table in
    let weighs = rw c.in-Ok.ensures.ok at c.in-Ok-read_back.ensures.weight in
    IfErr-weaker c.touched_ahead.result (λ e. IsFullWithin c.args.limit (spent + ahead) e) (λ e. IsFullWithin c.args.limit (back + ahead) e)
    (λ e h. full_wider c.args.limit (spent + ahead) (back + ahead) e (omega (arith, weighs)) h) c.touched_ahead.ensures.full

pub returns-clause-within : goal.returns-clause-within
returns-clause-within g c =
    let d = c.args.doc.now in
    let spent = weight c.read_back.new.table in
    let weighs = rw c.in-Ok.ensures.ok at c.in-Ok-read_back.ensures.weight in
    on_ok_weaker c.touched_ahead.result (λ within. omega (arith, within, weighs)) c.touched_ahead.ensures.within

pub returns-clause-ok : goal.returns-clause-ok
returns-clause-ok g c =
    let forward = c.args.readings.now.forward.graph in
    let most = c.args.readings.now.most in
    let d = c.args.doc.now in
    let same = rw c.in-Ok.ensures.ok at c.in-Ok-read_back.ensures.grows.graph in
    rw (← same) c.touched_ahead.ensures.ok
