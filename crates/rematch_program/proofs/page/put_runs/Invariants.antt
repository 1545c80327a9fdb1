use Rattle.std.proofs.Common.{◌≡◌, ◌+◌, ◌-◌, ◌*◌, ◌≤◌, ◌++◌, length, if◌then◌else◌}
use Rattle.rm_outside.specs.Change.{change}
use Rattle.spanner_engine.specs.Left.{EndsIn}
use Rattle.spanner_engine.specs.Borrowed.{left_in}
use Rattle.rematch_program.specs.Taking.{HaveTaken, page_rows}
use Rattle.rematch_program.specs.Work.{SoFar}
use Rattle.rematch_program.specs.Written.{Fits, lines_of, with_waiting}
use Rattle.rematch_program.proofs.page.put_runs.Given as goal

abbrev pub invariant-loop-full : goal.invariant-loop-full
invariant-loop-full g l = record {
  source : (left_in l.rows).source ≡ (left_in l.fn.rows).source;
  same : l.page ≡ with_waiting l.page.waiting l.fn.page;
  taken : HaveTaken g.J.Judge.judges (left_in l.fn.rows) (left_in l.rows) l.fn.remaining l.remaining;
  left : EndsIn (left_in l.fn.rows).rest (left_in l.rows).rest;
  row : Fits l.fn.page (left_in l.rows).row;
  so_far : SoFar (change (g.O.Sink.told l.fn.out) (g.O.Sink.told l.out)) l.page.waiting
      (lines_of l.fn.page (page_rows g.J.Judge.judges (left_in l.rows) l.remaining))
      (l.fn.page.waiting ++ lines_of l.fn.page (page_rows g.J.Judge.judges (left_in l.fn.rows) l.fn.remaining));
  later : (g.O.Sink.told l.fn.out).faults ≤ (g.O.Sink.told l.out).faults;
  steps : l.steps ≤ l.fn.steps + (4 * (length (left_in l.fn.rows).rest - length (left_in l.rows).rest) + (if l.full then 0 else 2));
}

abbrev pub decreases-loop-full : goal.decreases-loop-full
decreases-loop-full g l = length (left_in l.rows).rest + (if l.full then 1 else 0)
