use Rattle.std.proofs.Common.{ap, ◌∙◌, arith}
use Rattle.spanner_engine.specs.Borrowed.{left_in}
use Rattle.rematch_program.specs.Taking.{page_rows}
use Rattle.rematch_program.specs.Written.{Page, lines_of}
use Rattle.rematch_program.proofs.Gathers.{so_far_cut, so_far_on}
use Rattle.rematch_program.proofs.PageSteps.{ends_long, ends_on}
use Rattle.rematch_program.proofs.Runs.{runs_steps, taken_on}
use Rattle.rematch_program.proofs.Writing.{fits_then, still_same}
use Rattle.rematch_program.proofs.page.put_runs.Goals as goal

pub returns-in-Err-clause-taken : goal.returns-in-Err-clause-taken
returns-in-Err-clause-taken g c = taken_on g.J.Judge.judges c.loop-full.invariant.taken c.put_run.ensures.taken

pub returns-in-Err-clause-left : goal.returns-in-Err-clause-left
returns-in-Err-clause-left g c = ends_on _ c.loop-full.invariant.left c.put_run.ensures.left

pub returns-in-Err-clause-part : goal.returns-in-Err-clause-part
returns-in-Err-clause-part g c =
    let inv = c.loop-full.invariant in
    let lines = ap (λ (p : Page). lines_of p (page_rows g.J.Judge.judges (left_in c.loop-full.rows) c.loop-full.remaining)) inv.same in
    so_far_cut (g.O.Sink.told c.put_run.new.out) lines inv.so_far c.in-Err.ensures.part

pub loop-full-preserved : goal.loop-full-preserved
loop-full-preserved g c =
    let page = c.args.page.now in
    let inv = c.loop-full.invariant in
    let run = c.put_run.ensures in
    let judges = g.J.Judge.judges in
    let lines = ap (λ (p : Page). lines_of p (page_rows judges (left_in c.loop-full.rows) c.loop-full.remaining)) inv.same in
    let lines' = ap (λ (p : Page). lines_of p (page_rows judges (left_in c.put_run.new.rows) c.put_run.new.remaining)) inv.same in
    record {
      source = run.source ∙ inv.source;
      same = still_same page inv.same run.same;
      taken = taken_on judges inv.taken run.taken;
      left = ends_on _ inv.left run.left;
      row = fits_then page inv.same run.row;
      so_far = so_far_on (g.O.Sink.told c.put_run.new.out) lines lines' inv.so_far c.in-Ok.ensures.ok;
      later = omega (arith, inv.later, run.later);
      steps = runs_steps c.args.steps.now c.loop-full.full c.in-Ok.full c.loop-full-test.true (ends_long _ _ run.left) (ends_long _ _ inv.left) inv.steps run.steps c.in-Ok.ensures.full;
    }
