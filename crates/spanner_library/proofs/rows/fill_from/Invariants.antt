use Rattle.std.proofs.Common.{◌≡◌, ◌+◌, ◌-◌, ◌≤◌, length, true}
use Rattle.spanner_engine.specs.Fitting.{AreLast}
use Rattle.spanner_engine.specs.Trying.{trying_steps}
use Rattle.spanner_library.specs.Library.{checks_by, tree}
use Rattle.spanner_library.proofs.Filling.{Filling}
use Rattle.spanner_library.proofs.rows.fill_from.Given as goal

abbrev pub invariant-loop-count : goal.invariant-loop-count
invariant-loop-count g l =
    let q = l.fn.query in
    record {
      filling : Filling (checks_by g.J.Judge.judges q) q.names l.document l.fn.answers.rest l.answers.rest l.fn.out l.out l.most l.count;
      last : AreLast (tree q).query l.document q.names l.answers.rest;
      variables : l.answers.variables ≡ l.fn.answers.variables;
      steps : l.steps ≤ l.fn.steps + trying_steps l.fn.answers.variables (length (tree q).asked) (length l.fn.answers.rest - length l.answers.rest) true;
    }

abbrev pub decreases-loop-count : goal.decreases-loop-count
decreases-loop-count g l = l.most - l.count
