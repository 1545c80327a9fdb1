use Rattle.std.proofs.Common.{arith, rules, ℕ, ◌+◌, List, Option, None, refl, sym, ap, ◌∙◌, ◌++◌, [], length, subst}
use Rattle.std.proofs.KnownBytes.{Appends-nil}
use Rattle.spanner_model.specs.Answers.{SpanRow, page_end}
use Rattle.spanner_engine.specs.Left.{passing_over}
use Rattle.spanner_engine.specs.Borrowed.{left_in}
use Rattle.rematch_program.specs.Pages.{FitsIf, first_rows, row_if}
use Rattle.rematch_program.specs.Taking.{coming, page_rows}
use Rattle.rematch_program.specs.Written.{lines_of}
use Rattle.rematch_program.proofs.Gathers.{rows_passed}
use Rattle.rematch_program.proofs.PageSteps.{ends_after, ends_long, ends_none, ends_on, first_of_none, fits_page, further, goes_out, last_try, next_row, took_found, took_none, took_runs, tried_all, tried_some}
use Rattle.rematch_program.proofs.Runs.{end_taken, fewer_over, page_over, runs_cut, runs_passed}
use Rattle.rematch_program.proofs.Writing.{fits_now, fits_then, line_cut, line_passed, over_now, still_same}
use Rattle.rematch_program.proofs.page.put_rows.Goals as goal

pub loop-remaining-init : goal.loop-remaining-init
loop-remaining-init g c =
    let page = c.args.page.now in
    let left = coming g.J.Judge.judges (left_in c.args.rows.now) in
    let same = c.of-remaining.ensures in
    record {
      source = refl;
      same = refl;
      so_far = record {
        sent = [];
        adds = Appends-nil (g.O.Sink.told c.args.out.now).bytes;
        joined = ap (λ (o : Option ℕ). page.waiting ++ lines_of page (first_rows o left)) same;
      };
      later = omega arith;
      last = tt;
      end = ap (λ (o : Option ℕ). page_end (first_rows o left) None) same;
      more = ap (λ (o : Option ℕ). length left + length (first_rows o left)) (sym same);
      tried = ([], refl);
      steps = omega arith;
    }

-- ---- no row is left

pub returns-then-not-advance-clause-ok : goal.returns-then-not-advance-clause-ok
returns-then-not-advance-clause-ok g c =
    let inv = c.loop-remaining.invariant in
    let none = goes_out inv.source g.J.Judge.judges _ c.if-not-advance.ensures.none.0 in
    rows_passed _ _ (rw (ap (first_rows c.loop-remaining.remaining) none ∙ first_of_none c.loop-remaining.remaining) at inv.so_far)

pub returns-then-not-advance-clause-end : goal.returns-then-not-advance-clause-end
returns-then-not-advance-clause-end g c =
    ends_none c.loop-remaining.remaining _ _ (goes_out c.loop-remaining.invariant.source g.J.Judge.judges _ c.if-not-advance.ensures.none.0) c.loop-remaining.invariant.more

pub returns-then-not-advance-clause-steps : goal.returns-then-not-advance-clause-steps
returns-then-not-advance-clause-steps g c =
    let judges = g.J.Judge.judges in
    let inv = c.loop-remaining.invariant in
    let empty = goes_out inv.source judges (left_in c.loop-remaining.rows).rest c.if-not-advance.ensures.none.0 in
    let gone = ap length (ap (first_rows c.loop-remaining.remaining) empty ∙ first_of_none c.loop-remaining.remaining) in
    tried_all judges (left_in c.args.rows.now).source (page_rows judges (left_in c.args.rows.now) c.args.limit) (left_in c.args.rows.now).rest _ _
    (omega (arith, gone, ap length empty, inv.more))
    (took_none inv.source _ _ _ inv.tried c.advance.ensures.left _ inv.steps c.advance.result (search rules) c.if-not-advance.ensures.none.1 c.advance.ensures.steps)

-- ---- one row more

pub put-requires : goal.put-requires
put-requires g c =
    record { fits = fits_now c.args.page.now c.loop-remaining.invariant.same c.spans.ensures c.requires.over (fits_page c.loop-remaining.invariant.source c.if-not-advance.ensures.fits) }

pub returns-in-Err-clause-part : goal.returns-in-Err-clause-part
returns-in-Err-clause-part g c =
    let inv = c.loop-remaining.invariant in
    let row = next_row g.J.Judge.judges _ inv.source inv.tried c.advance.ensures.left c.if-not-advance.ensures.next c.loop-remaining-test.ensures.one in
    line_cut c.args.page.now inv.same c.spans.ensures (g.O.Sink.told c.put.new.out) row.front inv.so_far c.in-Err.ensures.part

pub returns-in-Err-clause-steps : goal.returns-in-Err-clause-steps
returns-in-Err-clause-steps g c =
    let judges = g.J.Judge.judges in
    let inv = c.loop-remaining.invariant in
    let left = c.advance.ensures.left in
    let row = next_row judges _ inv.source inv.tried left c.if-not-advance.ensures.next c.loop-remaining-test.ensures.one in
    tried_some judges (left_in c.args.rows.now).source (page_rows judges (left_in c.args.rows.now) c.args.limit) _ _ row.tried _ _
    (omega (arith, ap length row.next, ap length row.front, inv.more))
    (took_found inv.source _ _ _ inv.tried left _ inv.steps c.advance.result (search rules) c.advance.ensures.steps)

-- ---- and a run of rows behind it

pub put_runs-requires-clause-over : goal.put_runs-requires-clause-over
put_runs-requires-clause-over g c =
    let page = c.args.page.now in
    let same = still_same page c.loop-remaining.invariant.same c.put.ensures.same in
    over_now page same (c.advance.ensures.source ∙ c.loop-remaining.invariant.source) c.requires.over

pub put_runs-requires-clause-row : goal.put_runs-requires-clause-row
put_runs-requires-clause-row g c =
    let page = c.args.page.now in
    let next = (left_in c.advance.new.self).row in
    fits_now page (still_same page c.loop-remaining.invariant.same c.put.ensures.same) {row = next} {spans = next} refl c.requires.over
    (fits_page c.loop-remaining.invariant.source c.if-not-advance.ensures.fits)

pub returns-in-Err-put_runs-clause-part : goal.returns-in-Err-put_runs-clause-part
returns-in-Err-put_runs-clause-part g c =
    let page = c.args.page.now in
    let inv = c.loop-remaining.invariant in
    let row = next_row g.J.Judge.judges _ inv.source inv.tried c.advance.ensures.left c.if-not-advance.ensures.next c.loop-remaining-test.ensures.one in
    let line = line_passed page inv.same c.spans.ensures (g.O.Sink.told c.put.new.out) row.front inv.so_far c.in_default.ensures.ok in
    runs_cut g.J.Judge.judges page c.put.new.self (still_same page inv.same c.put.ensures.same) (left_in c.args.rows.now).source (left_in c.advance.new.self)
    (c.advance.ensures.source ∙ inv.source) (g.O.Sink.told c.put_runs.new.out) _ line c.in-Err-put_runs.ensures.part

pub returns-in-Err-put_runs-clause-steps : goal.returns-in-Err-put_runs-clause-steps
returns-in-Err-put_runs-clause-steps g c =
    let judges = g.J.Judge.judges in
    let inv = c.loop-remaining.invariant in
    let left = c.advance.ensures.left in
    let row = next_row judges _ inv.source inv.tried left c.if-not-advance.ensures.next c.loop-remaining-test.ensures.one in
    let over = c.advance.ensures.source ∙ inv.source in
    let fewer = fewer_over judges c.put_runs.ensures.taken over (c.put_runs.ensures.source ∙ over) in
    tried_some judges (left_in c.args.rows.now).source (page_rows judges (left_in c.args.rows.now) c.args.limit) _ _ (ends_on _ row.tried c.put_runs.ensures.left) _ _
    (omega (arith, ap length row.next, ap length row.front, fewer, inv.more))
    (took_runs inv.source _ _ _ inv.tried left _ inv.steps c.advance.result _ _ (search rules) c.advance.ensures.steps
    (further judges (left_in c.loop-remaining.rows).source _ left c.if-not-advance.ensures.next) c.put_runs.ensures.left c.put_runs.ensures.steps)

pub loop-remaining-smaller : goal.loop-remaining-smaller
loop-remaining-smaller g c =
    let fewer = further g.J.Judge.judges (left_in c.loop-remaining.rows).source _ c.advance.ensures.left c.if-not-advance.ensures.next in
    let no_more = ends_long _ _ c.put_runs.ensures.left in
    omega (arith, fewer, no_more)

pub loop-remaining-preserved : goal.loop-remaining-preserved
loop-remaining-preserved g c =
    let judges = g.J.Judge.judges in
    let page = c.args.page.now in
    let inv = c.loop-remaining.invariant in
    let left = c.advance.ensures.left in
    let row = next_row judges _ inv.source inv.tried left c.if-not-advance.ensures.next c.loop-remaining-test.ensures.one in
    let over = c.advance.ensures.source ∙ inv.source in
    let same = still_same page inv.same c.put.ensures.same in
    let runs = c.put_runs.ensures in
    let taken = runs.taken in
    let fewer = fewer_over judges taken over (runs.source ∙ over) in
    let line = line_passed page inv.same c.spans.ensures (g.O.Sink.told c.put.new.out) row.front inv.so_far c.in_default.ensures.ok in
    record {
      source = runs.source ∙ over;
      same = still_same page same runs.same;
      so_far = runs_passed judges page c.put.new.self same (left_in c.args.rows.now).source (left_in c.advance.new.self) over (g.O.Sink.told c.put_runs.new.out) _ line
          (left_in c.put_runs.new.rows) _ (runs.source ∙ over) c.in_default-put_runs.ensures.ok;
      later = omega (arith, inv.later, c.put.ensures.later, runs.later);
      last = fits_then page same runs.row;
      end = end_taken _ taken.taken _ row.front (page_over judges taken over (runs.source ∙ over)) taken.row ∙ inv.end;
      more = omega (arith, inv.more, ap length row.next, ap length row.front, fewer);
      tried = ends_on _ row.tried runs.left;
      steps = took_runs inv.source _ _ _ inv.tried left _ inv.steps c.advance.result _ _ (search rules) c.advance.ensures.steps
          (further judges (left_in c.loop-remaining.rows).source _ left c.if-not-advance.ensures.next) runs.left runs.steps;
    }

-- ---- behind the last row

pub returns-clause-source : goal.returns-clause-source
returns-clause-source g c = c.advance-more.ensures.source ∙ c.loop-remaining.invariant.source

pub returns-clause-ok : goal.returns-clause-ok
returns-clause-ok g c = rows_passed _ _ (rw (c.loop-remaining-test.ensures.none _) at c.loop-remaining.invariant.so_far)

pub returns-clause-fits : goal.returns-clause-fits
returns-clause-fits g c =
    subst (FitsIf (length c.args.page.now.names) (length c.args.page.now.document)) (sym c.last_row-last.ensures) c.loop-remaining.invariant.last

pub returns-clause-end : goal.returns-clause-end
returns-clause-end g c =
    let judges = g.J.Judge.judges in
    let inv = c.loop-remaining.invariant in
    let none = c.loop-remaining-test.ensures.none (passing_over judges (left_in c.args.rows.now).source (left_in c.loop-remaining.rows).rest) in
    ends_after judges (left_in c.loop-remaining.rows).rest (left_in c.advance-more.new.self).rest
    (page_rows judges (left_in c.args.rows.now) c.args.limit) (coming judges (left_in c.args.rows.now))
    (left_in c.advance-more.new.self).row c.advance-more.result _ inv.source c.advance-more.ensures.next c.advance-more.ensures.none
    (omega (arith, ap length none, inv.more)) c.last_row-last.ensures
    (sym (ap (λ (rows : List SpanRow). page_end rows (row_if c.loop-remaining.some (left_in c.loop-remaining.rows).row)) none) ∙ inv.end)

pub returns-clause-steps : goal.returns-clause-steps
returns-clause-steps g c =
    let judges = g.J.Judge.judges in
    let inv = c.loop-remaining.invariant in
    let none = ap length (c.loop-remaining-test.ensures.none (passing_over judges (left_in c.args.rows.now).source (left_in c.loop-remaining.rows).rest)) in
    last_try inv.source _ _ _ inv.tried c.advance-more.ensures.left _ inv.steps judges (page_rows judges (left_in c.args.rows.now) c.args.limit)
    (left_in c.advance-more.new.self).row c.advance-more.result c.advance-more.ensures.next c.advance-more.ensures.none
    (omega (arith, none, inv.more)) c.advance-more.ensures.steps
