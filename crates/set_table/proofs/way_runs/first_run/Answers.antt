use Rattle.std.proofs.Common.{arith, ◌∙◌}
use Rattle.set_table.proofs.WayRunLaws.{cut_short}
use Rattle.set_table.proofs.way_runs.first_run.Goals as goal

pub returns-clause-run : goal.returns-clause-run
returns-clause-run c = c.split_at.ensures.front ∙ (cut_short c.args.ways.now c.min.result (omega (arith, c.min.ensures)) (λ l. omega (arith, c.min.ensures, l))).0

pub returns-clause-behind : goal.returns-clause-behind
returns-clause-behind c = c.split_at.ensures.back ∙ (cut_short c.args.ways.now c.min.result (omega (arith, c.min.ensures)) (λ l. omega (arith, c.min.ensures, l))).1
