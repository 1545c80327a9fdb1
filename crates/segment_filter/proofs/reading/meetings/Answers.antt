use Rattle.std.proofs.Common.{◌≡◌, refl, arith, sym, subst, ℕ, ◌+◌, ◌-◌, ◌<◌, ◌↔◌, ◌⊎◌, get_or, length}
use Rattle.std.specs.Prelude.{IsTrue}
use Rattle.std.proofs.lemmas.Option.{slice_get-get_or}
use Rattle.marked_automaton.specs.Automaton.{Automaton}
use Rattle.automaton_reading.specs.Reading.{byte_read}
use Rattle.set_table.specs.Tabled.{look_up}
use Rattle.span_core.specs.Intervals.{Covers}
use Rattle.segment_filter.specs.Idling.{IsLed}
use Rattle.segment_filter.specs.Sets.{IsAt, MeetAt}
use Rattle.segment_filter.specs.SetNumbers.{numbers_of}
use Rattle.segment_filter.proofs.SetLaws.{at_start, grows_asked, grows_not}
use Rattle.segment_filter.proofs.Meetings.{all_remembered_more, covers_all, covers_more, covers_none, kept_at, meets_is, next_grows, next_none, next_some}
use Rattle.segment_filter.proofs.WeightLaws.{reading_ends, reading_next, reading_refused, reading_starts, reading_steps, reading_stops, reading_weighs, refused_steps}
use Rattle.segment_filter.proofs.reading.meetings.Goals as goal

pub loop-at-init : goal.loop-at-init
loop-at-init g c =
    let t = c.args.table.now in
    record {
      grows = grows_not t t refl;
      places = c.in_ok-seen.ensures.places;
      right = c.in_ok-seen.ensures.right c.args.most t.sets c.args.back.now.table.sets;
      reading = reading_starts t c.args.doc.now c.start-set.result c.args.steps.now c.requires.fresh c.start-set.ensures.value c.start-set.ensures.tabled;
      here = subst (IsAt t c.args.doc.now 0) (sym c.start-set.ensures.value) (at_start t c.args.doc.now c.start-set.ensures.tabled);
      covers = λ i. (λ h. absurd (rw c.new-touched.ensures at h), λ h. absurd (omega (arith, h.0)));
    }

pub meet-meets-requires-clause-numbers : goal.meet-meets-requires-clause-numbers
meet-meets-requires-clause-numbers g c l = kept_at c.args.back.now.table _ (numbers_of c.args.back.now.numbers) c.requires.numbers _ l

pub meet-meets-requires-2-clause-numbers : goal.meet-meets-requires-2-clause-numbers
meet-meets-requires-2-clause-numbers g c l = kept_at c.args.back.now.table _ (numbers_of c.args.back.now.numbers) c.requires.numbers 0 l

pub returns-in-None-clause-ok : goal.returns-in-None-clause-ok
returns-in-None-clause-ok g c =
    let new = c.next.new.self in
    let old = c.loop-at.table in
    let first = c.args.table.now in
    let back = c.args.back.now.table in
    let d = c.args.doc.now in
    let at = c.loop-at.at in
    let l : at < length d = omega arith in
    let inv = c.loop-at.invariant in
    let ok = c.in-Ok.ensures.ok in
    let byte = slice_get-get_or d at 0 l in
    let M : ℕ → Type 0 = MeetAt first.graph back.graph c.args.most d in
    let sum : at + (length d - at) ≡ length d = omega (arith, l) in
    let is = meets_is old first back d (numbers_of c.args.back.now.numbers) c.loop-at.set at (length d - at) c.args.most c.meet-meets.result
    c.requires.numbers inv.grows inv.here sum c.meet-meets.ensures.meets in
    let more = covers_more (Covers c.loop-at.touched) (Covers c.mark.new.touched) M c.meet-meets.result at inv.covers is c.in_ok-mark.ensures in
    let grew = next_grows new old first d at c.loop-at.set (get_or d at 0) c.requires.plain inv.grows c.in-Ok.ensures.tabled ok.0 byte inv.here in
    let none = next_none new old first d at c.loop-at.set (get_or d at 0) c.requires.plain inv.grows c.in-Ok.ensures.tabled ok.0 byte inv.here c.in-Ok.next ok.1 c.in-None.is in
    covers_none (Covers c.mark.new.touched) M at (length d) l more (λ i past m. none i m.0 past (subst (λ (A : Automaton). IsLed A d i m.0) (sym grew.graph) m.1))

pub loop-at-preserved : goal.loop-at-preserved
loop-at-preserved g c =
    let new = c.next.new.self in
    let old = c.loop-at.table in
    let first = c.args.table.now in
    let back = c.args.back.now.table in
    let d = c.args.doc.now in
    let at = c.loop-at.at in
    let l : at < length d = omega arith in
    let inv = c.loop-at.invariant in
    let ok = c.in-Ok.ensures.ok in
    let byte = slice_get-get_or d at 0 l in
    let M : ℕ → Type 0 = MeetAt first.graph back.graph c.args.most d in
    let sum : at + (length d - at) ≡ length d = omega (arith, l) in
    let is = meets_is old first back d (numbers_of c.args.back.now.numbers) c.loop-at.set at (length d - at) c.args.most c.meet-meets.result
    c.requires.numbers inv.grows inv.here sum c.meet-meets.ensures.meets in
    let here = next_some new old first d at c.loop-at.set (get_or d at 0) c.requires.plain inv.grows c.in-Ok.ensures.tabled ok.0 byte inv.here c.in-Ok.next c.in-Some.to ok.1 c.in-Some.is in
    record {
      grows = next_grows new old first d at c.loop-at.set (get_or d at 0) c.requires.plain inv.grows c.in-Ok.ensures.tabled ok.0 byte inv.here;
      reading = reading_next first old d at c.loop-at.set c.args.steps.now c.loop-at.steps inv.reading (get_or d at 0) c.next.new.steps byte
          c.next.ensures.again c.next.ensures.steps new ok.0 c.in-Ok.next c.in-Some.to ok.1 here.0 c.in-Some.is c.requires.plain c.in-Ok.ensures.tabled;
      places = c.meet-meets.ensures.places;
      right = all_remembered_more c.args.most new.sets old.sets back.sets c.meet-meets.new.seen.pairs.items
          (grows_asked new old (look_up old c.loop-at.set (byte_read (get_or d at 0))) ok.0).sets c.meet-meets.ensures.right;
      here = here;
      covers = covers_more (Covers c.loop-at.touched) (Covers c.mark.new.touched) M c.meet-meets.result at inv.covers is c.in_ok-mark.ensures;
    }

pub returns-clause-ok : goal.returns-clause-ok
returns-clause-ok g c =
    let old = c.loop-at.table in
    let first = c.args.table.now in
    let back = c.args.back.now.table in
    let d = c.args.doc.now in
    let at = c.loop-at.at in
    let end : at ≡ length d = omega arith in
    let inv = c.loop-at.invariant in
    let M : ℕ → Type 0 = MeetAt first.graph back.graph c.args.most d in
    let sum : at + 0 ≡ length d = omega (arith, end) in
    let is = meets_is old first back d (numbers_of c.args.back.now.numbers) c.loop-at.set at 0 c.args.most c.meet-meets-2.result
    c.requires.numbers inv.grows inv.here sum c.meet-meets-2.ensures.meets in
    let marked = λ (q : ℕ). rw (← end) at (c.in_ok-mark-2.ensures q) in
    covers_all (Covers c.mark-2.new.touched) M at (length d) end
    (covers_more (Covers c.loop-at.touched) (Covers c.mark-2.new.touched) M c.meet-meets-2.result at inv.covers is marked)

pub returns-in-None-clause-within : goal.returns-in-None-clause-within
returns-in-None-clause-within g c =
    let d = c.args.doc.now in
    let at = c.loop-at.at in
    let l : at < length d = omega arith in
    (reading_stops c.args.table.now c.loop-at.table d at c.loop-at.set c.args.steps.now c.loop-at.steps c.loop-at.invariant.reading (get_or d at 0)
    c.next.new.steps (slice_get-get_or d at 0 l) c.next.ensures.again c.next.ensures.steps c.next.new.self c.in-Ok.ensures.ok.0 c.in-Ok.next c.in-Ok.ensures.ok.1 c.in-None.is
    c.requires.plain c.in-Ok.ensures.tabled).1

pub returns-clause-within : goal.returns-clause-within
returns-clause-within g c =
    (reading_weighs c.args.table.now c.loop-at.table c.args.doc.now c.loop-at.at c.loop-at.set c.args.steps.now c.loop-at.steps c.loop-at.invariant.reading
    (omega arith)).1

pub returns-in-Err-clause-full : goal.returns-in-Err-clause-full
returns-in-Err-clause-full g c =
    let d = c.args.doc.now in
    let at = c.loop-at.at in
    let l : at < length d = omega arith in
    reading_refused c.args.table.now c.loop-at.table d at c.loop-at.set c.args.steps.now c.loop-at.steps c.loop-at.invariant.reading (get_or d at 0)
    c.next.new.steps (slice_get-get_or d at 0 l) c.next.ensures.again c.next.ensures.steps c.in-Err.fault c.in-Err.ensures.full

pub returns-in-Err-clause-steps : goal.returns-in-Err-clause-steps
returns-in-Err-clause-steps g c =
    let d = c.args.doc.now in
    let at = c.loop-at.at in
    let l : at < length d = omega arith in
    refused_steps c.args.table.now c.loop-at.table d at c.loop-at.set c.args.steps.now c.loop-at.steps c.loop-at.invariant.reading (get_or d at 0)
    c.next.new.steps (slice_get-get_or d at 0 l) c.next.ensures.again c.next.ensures.steps (length d) l

pub returns-in-None-clause-steps : goal.returns-in-None-clause-steps
returns-in-None-clause-steps g c =
    let d = c.args.doc.now in
    let at = c.loop-at.at in
    let l : at < length d = omega arith in
    (reading_ends c.args.table.now c.loop-at.table d at c.loop-at.set c.args.steps.now c.loop-at.steps c.loop-at.invariant.reading (get_or d at 0)
    c.next.new.steps (slice_get-get_or d at 0 l) c.next.ensures.again c.next.ensures.steps c.next.new.self c.in-Ok.ensures.ok.0 (length d) l).1

pub returns-in_err-mark-clause-steps : goal.returns-in_err-mark-clause-steps
returns-in_err-mark-clause-steps g c =
    reading_steps c.args.table.now c.loop-at.table c.args.doc.now c.loop-at.at c.loop-at.set c.args.steps.now c.loop-at.steps c.loop-at.invariant.reading
    (length c.args.doc.now) (omega arith)

pub returns-in_err-mark-2-clause-steps : goal.returns-in_err-mark-2-clause-steps
returns-in_err-mark-2-clause-steps g c =
    reading_steps c.args.table.now c.loop-at.table c.args.doc.now c.loop-at.at c.loop-at.set c.args.steps.now c.loop-at.steps c.loop-at.invariant.reading
    (length c.args.doc.now) (omega arith)

pub returns-clause-steps : goal.returns-clause-steps
returns-clause-steps g c =
    reading_steps c.args.table.now c.loop-at.table c.args.doc.now c.loop-at.at c.loop-at.set c.args.steps.now c.loop-at.steps c.loop-at.invariant.reading
    (length c.args.doc.now) (omega arith)
