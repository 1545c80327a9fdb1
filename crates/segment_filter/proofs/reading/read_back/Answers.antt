use Rattle.std.proofs.Common.{◌≡◌, refl, arith, ◌-◌, ◌<◌, get_or, length}
use Rattle.std.specs.Prelude.{reverse}
use Rattle.std.proofs.lemmas.List.{length-reverse}
use Rattle.segment_filter.proofs.SetLaws.{grows_not}
use Rattle.segment_filter.proofs.Meetings.{all_kept, byte_at_end, first_kept, more_kept, next_grows, next_led, next_none, next_some}
use Rattle.segment_filter.proofs.WeightLaws.{reading_ends, reading_next, reading_refused, reading_starts, reading_steps, reading_stops, reading_weighs, refused_steps}
use Rattle.segment_filter.specs.SetNumbers.{numbers_of}
use Rattle.segment_filter.proofs.reading.read_back.Goals as goal

pub loop-k-init : goal.loop-k-init
loop-k-init g c =
    let t = c.args.table.now in
    let r = first_kept t (reverse c.args.doc.now) (numbers_of c.in_ok-numbers.numbers) (numbers_of c.in_ok-none.none) c.start-set.result
    c.start-set.ensures.tabled c.start-set.ensures.value c.in_ok-none.ensures c.in_ok-numbers.ensures in
    record {
      grows = grows_not t t refl;
      count = r.0;
      led = r.1;
      reading = reading_starts t (reverse c.args.doc.now) c.start-set.result c.args.steps.now c.requires.fresh c.start-set.ensures.value c.start-set.ensures.tabled;
      here = r.2;
    }

pub returns-in-None-clause-ok : goal.returns-in-None-clause-ok
returns-in-None-clause-ok g c =
    let new = c.next.new.self in
    let old = c.loop-k.table in
    let first = c.args.table.now in
    let d = c.args.doc.now in
    let k = c.loop-k.k in
    let l : k < length d = omega arith in
    let inv = c.loop-k.invariant in
    let ok = c.in-Ok.ensures.ok in
    all_kept new d (numbers_of c.loop-k.numbers) k l inv.count
    (next_led new old first (reverse d) k c.loop-k.set _ c.requires.plain inv.grows c.in-Ok.ensures.tabled ok.0 (byte_at_end d k l) inv.here (numbers_of c.loop-k.numbers) inv.led)
    (next_none new old first (reverse d) k c.loop-k.set _ c.requires.plain inv.grows c.in-Ok.ensures.tabled ok.0 (byte_at_end d k l) inv.here c.in-Ok.next ok.1 c.in-None.is)

pub returns-in_err-numbers-2-clause-grows : goal.returns-in_err-numbers-2-clause-grows
returns-in_err-numbers-2-clause-grows g c =
    let d = c.args.doc.now in
    let k = c.loop-k.k in
    let l : k < length d = omega arith in
    let inv = c.loop-k.invariant in
    next_grows c.next.new.self c.loop-k.table c.args.table.now (reverse d) k c.loop-k.set _ c.requires.plain inv.grows
    c.in-Ok.ensures.tabled c.in-Ok.ensures.ok.0 (byte_at_end d k l) inv.here

pub loop-k-preserved : goal.loop-k-preserved
loop-k-preserved g c =
    let new = c.next.new.self in
    let old = c.loop-k.table in
    let first = c.args.table.now in
    let d = c.args.doc.now in
    let k = c.loop-k.k in
    let l : k < length d = omega arith in
    let inv = c.loop-k.invariant in
    let ok = c.in-Ok.ensures.ok in
    let tabled = c.in-Ok.ensures.tabled in
    let here = next_some new old first (reverse d) k c.loop-k.set _ c.requires.plain inv.grows tabled ok.0 (byte_at_end d k l) inv.here c.in-Ok.next c.in-Some.to ok.1 c.in-Some.is in
    let led = next_led new old first (reverse d) k c.loop-k.set _ c.requires.plain inv.grows tabled ok.0 (byte_at_end d k l) inv.here (numbers_of c.loop-k.numbers) inv.led in
    let r = more_kept new (reverse d) (numbers_of c.in_ok-numbers-2.numbers) (numbers_of c.loop-k.numbers) k c.in-Some.to inv.count led here c.in_ok-numbers-2.ensures in
    record {
      grows = next_grows new old first (reverse d) k c.loop-k.set _ c.requires.plain inv.grows tabled ok.0 (byte_at_end d k l) inv.here;
      count = r.0;
      led = r.1;
      reading = reading_next first old (reverse d) k c.loop-k.set c.args.steps.now c.loop-k.steps inv.reading (get_or d (length d - 1 - k) 0) c.next.new.steps (byte_at_end d k l)
          c.next.ensures.again c.next.ensures.steps new ok.0 c.in-Ok.next c.in-Some.to ok.1 here.0 c.in-Some.is c.requires.plain c.in-Ok.ensures.tabled;
      here = here;
    }

pub returns-in-Err-clause-full : goal.returns-in-Err-clause-full
returns-in-Err-clause-full g c =
    let old = c.loop-k.table in
    let first = c.args.table.now in
    let d = c.args.doc.now in
    let k = c.loop-k.k in
    let l : k < length d = omega arith in
    reading_refused first old (reverse d) k c.loop-k.set c.args.steps.now c.loop-k.steps c.loop-k.invariant.reading (get_or d (length d - 1 - k) 0) c.next.new.steps (byte_at_end d k l)
    c.next.ensures.again c.next.ensures.steps c.in-Err.fault c.in-Err.ensures.full

pub returns-in-Err-clause-steps : goal.returns-in-Err-clause-steps
returns-in-Err-clause-steps g c =
    let old = c.loop-k.table in
    let first = c.args.table.now in
    let d = c.args.doc.now in
    let k = c.loop-k.k in
    let l : k < length d = omega arith in
    refused_steps first old (reverse d) k c.loop-k.set c.args.steps.now c.loop-k.steps c.loop-k.invariant.reading (get_or d (length d - 1 - k) 0) c.next.new.steps (byte_at_end d k l)
    c.next.ensures.again c.next.ensures.steps (length d) l

pub returns-in-None-clause-weight : goal.returns-in-None-clause-weight
returns-in-None-clause-weight g c =
    let new = c.next.new.self in
    let old = c.loop-k.table in
    let first = c.args.table.now in
    let d = c.args.doc.now in
    let k = c.loop-k.k in
    let l : k < length d = omega arith in
    (reading_stops first old (reverse d) k c.loop-k.set c.args.steps.now c.loop-k.steps c.loop-k.invariant.reading (get_or d (length d - 1 - k) 0) c.next.new.steps (byte_at_end d k l)
    c.next.ensures.again c.next.ensures.steps new c.in-Ok.ensures.ok.0 c.in-Ok.next c.in-Ok.ensures.ok.1 c.in-None.is c.requires.plain c.in-Ok.ensures.tabled).0

pub returns-in-None-clause-steps : goal.returns-in-None-clause-steps
returns-in-None-clause-steps g c =
    let new = c.next.new.self in
    let old = c.loop-k.table in
    let first = c.args.table.now in
    let d = c.args.doc.now in
    let k = c.loop-k.k in
    let l : k < length d = omega arith in
    (reading_ends first old (reverse d) k c.loop-k.set c.args.steps.now c.loop-k.steps c.loop-k.invariant.reading (get_or d (length d - 1 - k) 0) c.next.new.steps (byte_at_end d k l)
    c.next.ensures.again c.next.ensures.steps new c.in-Ok.ensures.ok.0 (length d) l).1

pub returns-in_err-numbers-2-clause-steps : goal.returns-in_err-numbers-2-clause-steps
returns-in_err-numbers-2-clause-steps g c =
    let new = c.next.new.self in
    let old = c.loop-k.table in
    let first = c.args.table.now in
    let d = c.args.doc.now in
    let k = c.loop-k.k in
    let l : k < length d = omega arith in
    (reading_ends first old (reverse d) k c.loop-k.set c.args.steps.now c.loop-k.steps c.loop-k.invariant.reading (get_or d (length d - 1 - k) 0) c.next.new.steps (byte_at_end d k l)
    c.next.ensures.again c.next.ensures.steps new c.in-Ok.ensures.ok.0 (length d) l).1

pub returns-clause-weight : goal.returns-clause-weight
returns-clause-weight g c =
    let same : length (reverse c.args.doc.now) ≡ length c.args.doc.now = length-reverse c.args.doc.now in
    (reading_weighs c.args.table.now c.loop-k.table (reverse c.args.doc.now) c.loop-k.k c.loop-k.set c.args.steps.now c.loop-k.steps c.loop-k.invariant.reading
    (omega (arith, same))).0

pub returns-clause-steps : goal.returns-clause-steps
returns-clause-steps g c =
    reading_steps c.args.table.now c.loop-k.table (reverse c.args.doc.now) c.loop-k.k c.loop-k.set c.args.steps.now c.loop-k.steps c.loop-k.invariant.reading
    (length c.args.doc.now) (omega arith)
