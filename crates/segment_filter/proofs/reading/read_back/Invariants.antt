use Rattle.std.proofs.Common.{◌≡◌, ◌+◌, length}
use Rattle.std.specs.Prelude.{reverse}
use Rattle.segment_filter.specs.Sets.{Grows, IsAt}
use Rattle.segment_filter.proofs.SetLaws.{AreLed}
use Rattle.segment_filter.proofs.WeightLaws.{IsReading}
use Rattle.segment_filter.specs.SetNumbers.{numbers_of}
use Rattle.segment_filter.proofs.reading.read_back.Given as goal

abbrev pub invariant-loop-k : goal.invariant-loop-k
invariant-loop-k g l = record {
  grows : Grows l.table l.fn.table;
  count : length (numbers_of l.numbers) ≡ l.k + 1;
  led : AreLed l.table (reverse l.doc) (numbers_of l.numbers);
  reading : IsReading l.fn.table l.table (reverse l.doc) l.k l.set l.fn.steps l.steps;
  here : IsAt l.table (reverse l.doc) l.k l.set;
}
