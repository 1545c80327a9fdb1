use Rattle.std.proofs.Common.{◌≡◌, ◌+◌, ◌-◌, ◌^◌, ℕ, List, None, Some, true, false, refl, sym, ap, ◌∙◌, arith, length, min}
use Rattle.std.specs.Prelude.{slice_get}
use Rattle.spanner_model.specs.Answers.{SpanRow, page_end}
use Rattle.spanner_engine.specs.Left.{checks_over, passing_over}
use Rattle.spanner_engine.specs.Borrowed.{left_in}
use Rattle.spanner_model.specs.Passing.{known}
use Rattle.rematch_program.specs.Trials.{later_row}
use Rattle.rematch_program.specs.Taking.{coming}
use Rattle.rematch_program.proofs.Inside.{fits_of}
use Rattle.rematch_program.proofs.PageSteps.{ends_on, fits_page, goes_on, goes_out, took_found, took_none}
use Rattle.rematch_program.proofs.PassingPages.{length_checks}
use Rattle.rematch_program.proofs.SummaryLaws.{one_counted, rows_all}
use Rattle.rematch_program.proofs.TakingLaws.{trial_takes}
use Rattle.rematch_program.proofs.summary.count_rows.Goals as goal

pub loop-row-init : goal.loop-row-init
loop-row-init g c =
    let s = (left_in c.args.rows.now).source in
    let next = c.in-Some.ensures.next in
    let one = ap length next in
    let took = c.in-Some.ensures.steps in
    let count : 1 + length (passing_over g.J.Judge.judges s (left_in c.next.new.self).rest) ≡ length (coming g.J.Judge.judges (left_in c.args.rows.now)) = omega (arith, one) in
    record {
      source = c.in-Some.ensures.source;
      rows = ap (λ (n : ℕ). min n (2 ^ 64 - 1)) count;
      few = omega arith;
      first = ap (λ (rows : List SpanRow). slice_get rows 0) next;
      last = sym (ap (λ (rows : List SpanRow). page_end rows None) next);
      first_fits = fits_of (length s.names) (length s.document) c.in-Some.row c.in-Some.ensures.fits;
      later_fits = tt;
      tried = c.in-Some.ensures.left;
      steps = omega (arith, took);
    }

pub loop-row-preserved : goal.loop-row-preserved
loop-row-preserved g c =
    let s = (left_in c.args.rows.now).source in
    let old = (left_in c.loop-row.rows).rest in
    let new = (left_in c.next-in-loop-row.new.self).rest in
    let inv = c.loop-row.invariant in
    let next = goes_on inv.source g.J.Judge.judges old new c.in-Some-next.ensures.next in
    record {
      source = c.in-Some-next.ensures.source ∙ inv.source;
      rows = one_counted c.loop-row.count c.saturating_add-count.result (length (passing_over g.J.Judge.judges s new))
          (length (passing_over g.J.Judge.judges s old)) (length (coming g.J.Judge.judges (left_in c.args.rows.now))) (2 ^ 64 - 1)
          c.saturating_add-count.ensures (ap length next) inv.rows;
      few = omega (arith, c.saturating_add-count.ensures);
      first = inv.first;
      last = sym (ap (λ (rows : List SpanRow). page_end rows (later_row (Some c.in-Some.row) c.loop-row.later)) next) ∙ inv.last;
      first_fits = inv.first_fits;
      later_fits = fits_page inv.source c.in-Some-next.ensures.fits;
      tried = ends_on new inv.tried c.in-Some-next.ensures.left;
      steps = took_found inv.source _ old new inv.tried c.in-Some-next.ensures.left _ inv.steps true refl c.in-Some-next.ensures.steps;
    }

pub returns-clause-rows : goal.returns-clause-rows
returns-clause-rows g c =
    let s = (left_in c.args.rows.now).source in
    let inv = c.loop-row.invariant in
    let none = goes_out inv.source g.J.Judge.judges (left_in c.loop-row.rows).rest c.in_default.ensures.next.0 in
    rows_all c.loop-row.count (2 ^ 64 - 1) (length (coming g.J.Judge.judges (left_in c.args.rows.now))) (passing_over g.J.Judge.judges s (left_in c.loop-row.rows).rest) none inv.few inv.rows

pub returns-clause-steps : goal.returns-clause-steps
returns-clause-steps g c =
    let s = (left_in c.args.rows.now).source in
    let inv = c.loop-row.invariant in
    trial_takes (checks_over g.J.Judge.judges s) s.names s.document (left_in c.args.rows.now).rest (length s.asked) c.args.steps.now
    c.next-in-loop-row.new.steps (length_checks (known s.tests g.J.Judge.judges) s.asked)
    (took_none inv.source _ _ _ inv.tried c.in_default.ensures.left _ inv.steps false refl c.in_default.ensures.next.1 c.in_default.ensures.steps)
