use Rattle.std.proofs.Common.{◌≡◌, ◌≤◌, ◌+◌, ◌-◌, ◌*◌, ◌++◌, None, length}
use Rattle.rm_outside.specs.Change.{change}
use Rattle.spanner_model.specs.Answers.{page_end}
use Rattle.spanner_engine.specs.Left.{EndsIn, passing_over}
use Rattle.spanner_engine.specs.Borrowed.{left_in}
use Rattle.rematch_program.specs.Pages.{FitsIf, first_rows, row_if}
use Rattle.rematch_program.specs.Steps.{next_steps}
use Rattle.rematch_program.specs.Taking.{coming, page_rows}
use Rattle.rematch_program.specs.Work.{SoFar}
use Rattle.rematch_program.specs.Written.{lines_of, with_waiting}
use Rattle.rematch_program.proofs.page.put_rows.Given as goal

abbrev pub invariant-loop-remaining : goal.invariant-loop-remaining
invariant-loop-remaining g l = record {
  source : (left_in l.rows).source ≡ (left_in l.fn.rows).source;
  same : l.page ≡ with_waiting l.page.waiting l.fn.page;
  so_far : SoFar (change (g.O.Sink.told l.fn.out) (g.O.Sink.told l.out)) l.page.waiting
      (lines_of l.fn.page (first_rows l.remaining (passing_over g.J.Judge.judges (left_in l.fn.rows).source (left_in l.rows).rest)))
      (l.fn.page.waiting ++ lines_of l.fn.page (page_rows g.J.Judge.judges (left_in l.fn.rows) l.fn.limit));
  later : (g.O.Sink.told l.fn.out).faults ≤ (g.O.Sink.told l.out).faults;
  last : FitsIf (length l.fn.page.names) (length l.fn.page.document) (row_if l.some (left_in l.rows).row);
  end : page_end (first_rows l.remaining (passing_over g.J.Judge.judges (left_in l.fn.rows).source (left_in l.rows).rest)) (row_if l.some (left_in l.rows).row)
      ≡ page_end (page_rows g.J.Judge.judges (left_in l.fn.rows) l.fn.limit) None;
  more : length (passing_over g.J.Judge.judges (left_in l.fn.rows).source (left_in l.rows).rest) + length (page_rows g.J.Judge.judges (left_in l.fn.rows) l.fn.limit)
      ≡ length (coming g.J.Judge.judges (left_in l.fn.rows)) + length (first_rows l.remaining (passing_over g.J.Judge.judges (left_in l.fn.rows).source (left_in l.rows).rest));
  tried : EndsIn (left_in l.fn.rows).rest (left_in l.rows).rest;
  steps : l.steps ≤ l.fn.steps + (length (left_in l.fn.rows).rest - length (left_in l.rows).rest) * (next_steps (length (left_in l.fn.rows).source.names) + length (left_in l.fn.rows).source.asked);
}

abbrev pub decreases-loop-remaining : goal.decreases-loop-remaining
decreases-loop-remaining g l = length (left_in l.rows).rest
