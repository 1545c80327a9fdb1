use Rattle.std.proofs.Common.{sym, subst}
use Rattle.spanner_model.specs.Answers.{AreResultNames}
use Rattle.spanner_library.specs.Library.{PreparedQuery, tree}
use Rattle.rematch_c.proofs.shared_query.read.Goals as goal

pub returns-in-Ok-new-clause-names : goal.returns-in-Ok-new-clause-names
returns-in-Ok-new-clause-names c = subst (λ (p : PreparedQuery). AreResultNames (tree p).query p.names) (sym c.in-Ok-new.ensures.ok) c.in-Ok-read.ensures.names
