use Rattle.spanner_model.proofs.ExprTrees.{expr_at}
use Rattle.spanner_model.proofs.expression.Exprs.at.Goals as goal

pub returns : goal.returns
returns c = expr_at c.args.self.now c.args.k c.index.result.now c.requires c.index.ensures
