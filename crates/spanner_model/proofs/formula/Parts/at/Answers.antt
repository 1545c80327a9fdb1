use Rattle.spanner_model.proofs.Trees.{part_at}
use Rattle.spanner_model.proofs.formula.Parts.at.Goals as goal

pub returns : goal.returns
returns c = part_at c.args.self.now c.args.k c.index.result.now c.requires c.index.ensures
