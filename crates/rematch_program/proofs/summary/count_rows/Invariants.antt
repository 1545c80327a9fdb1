use Rattle.std.proofs.Common.{◌≡◌, ◌+◌, ◌*◌, ◌-◌, ◌^◌, ◌≤◌, length, min, None, Some, IfSome}
use Rattle.std.specs.Prelude.{slice_get}
use Rattle.spanner_model.specs.Answers.{page_end}
use Rattle.spanner_engine.specs.Left.{EndsIn, passing_over}
use Rattle.spanner_engine.specs.Borrowed.{left_in}
use Rattle.rematch_program.specs.Pages.{FitsPage}
use Rattle.rematch_program.specs.Steps.{next_steps}
use Rattle.rematch_program.specs.Taking.{coming}
use Rattle.rematch_program.specs.Trials.{later_row}
use Rattle.rematch_program.proofs.summary.count_rows.Given as goal

abbrev pub invariant-loop-row : goal.invariant-loop-row
invariant-loop-row g l = record {
  source : (left_in l.rows).source ≡ (left_in l.fn.rows).source;
  rows : min (l.count + length (passing_over g.J.Judge.judges (left_in l.fn.rows).source (left_in l.rows).rest)) (2 ^ 64 - 1) ≡ min (length (coming g.J.Judge.judges (left_in l.fn.rows))) (2 ^ 64 - 1);
  few : l.count ≤ 2 ^ 64 - 1;
  first : slice_get (coming g.J.Judge.judges (left_in l.fn.rows)) 0 ≡ Some l.first;
  last : page_end (passing_over g.J.Judge.judges (left_in l.fn.rows).source (left_in l.rows).rest) (later_row (Some l.first) l.later) ≡ page_end (coming g.J.Judge.judges (left_in l.fn.rows)) None;
  first_fits : FitsPage (length (left_in l.fn.rows).source.names) (length (left_in l.fn.rows).source.document) l.first;
  later_fits : IfSome l.later (FitsPage (length (left_in l.fn.rows).source.names) (length (left_in l.fn.rows).source.document));
  tried : EndsIn (left_in l.fn.rows).rest (left_in l.rows).rest;
  steps : l.steps ≤ l.fn.steps + (length (left_in l.fn.rows).rest - length (left_in l.rows).rest) * (next_steps (length (left_in l.fn.rows).source.names) + length (left_in l.fn.rows).source.asked);
}

abbrev pub decreases-loop-row : goal.decreases-loop-row
decreases-loop-row g l = length (left_in l.rows).rest
