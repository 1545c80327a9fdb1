use Rattle.std.proofs.Common.{length, sym}
use Rattle.std.proofs.lemmas.Bool.{eqb-false, eqb-true}
use Rattle.set_table.proofs.WayRunLaws.{fewer, laid_all, nothing}
use Rattle.set_table.proofs.way_runs.runs_of.Goals as goal

pub loop-rest-smaller : goal.loop-rest-smaller
loop-rest-smaller c = fewer c.loop-rest.rest.now c.first_run.result.1.now (eqb-false (length c.loop-rest.rest.now) 0 (sym c.loop-rest-test.ensures)) c.first_run.ensures.behind

pub returns : goal.returns
returns c =
    laid_all c.args.ways.now c.loop-rest.rest.now c.loop-rest.runs.items c.loop-rest.invariant (nothing c.loop-rest.rest.now (eqb-true (length c.loop-rest.rest.now) 0 (sym c.loop-rest-test.ensures)))
