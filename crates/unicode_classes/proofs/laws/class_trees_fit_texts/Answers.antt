use Rattle.unicode_classes.proofs.TreeFits.{class_tree_fits}
use Rattle.unicode_classes.proofs.laws.class_trees_fit_texts.Goals as goal

pub returns : goal.returns
returns c = class_tree_fits
