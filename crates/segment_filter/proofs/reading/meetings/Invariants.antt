use Rattle.std.proofs.Common.{◌≡◌, length, ℕ, ◌<◌, ◌↔◌}
use Rattle.span_core.specs.Intervals.{Covers}
use Rattle.segment_filter.specs.Sets.{Grows, IsAt, MeetAt}
use Rattle.segment_filter.specs.declared.comparing.TheConstants.{PLACES}
use Rattle.segment_filter.specs.Remembered.{AreRemembered}
use Rattle.segment_filter.proofs.WeightLaws.{IsReading}
use Rattle.segment_filter.proofs.reading.meetings.Given as goal

abbrev pub invariant-loop-at : goal.invariant-loop-at
invariant-loop-at g l = record {
  grows : Grows l.table l.fn.table;
  reading : IsReading l.fn.table l.table l.doc l.at l.set l.fn.steps l.steps;
  places : length l.seen.pairs.items ≡ PLACES;
  right : AreRemembered l.most l.table.sets l.back.table.sets l.seen.pairs.items;
  here : IsAt l.table l.doc l.at l.set;
  covers : (i : ℕ) → Covers l.touched i ↔ ((i < l.at) × MeetAt l.fn.table.graph l.back.table.graph l.most l.doc i);
}
