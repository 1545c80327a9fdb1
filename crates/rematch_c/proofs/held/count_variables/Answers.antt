use Rattle.std.proofs.Common.{ap, ◌∙◌}
use Rattle.spanner_library.specs.Library.{PreparedQuery}
use Rattle.rematch_c.proofs.CallLaws.{counted_query, counted_other}
use Rattle.rematch_c.proofs.held.count_variables.Goals as goal

pub returns-in_default : goal.returns-in_default
returns-in_default c = counted_other c.args.held.now c.in_default.not-Query

pub returns : goal.returns
returns c =
    counted_query c.args.held.now c.in-Query.query c.vars.result.now c.len.result c.in-Query.is (c.vars.ensures.value ∙ ap (λ (p : PreparedQuery). p.names) c.prepared.ensures) c.len.ensures.value
