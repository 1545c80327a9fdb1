use Rattle.unicode_classes.proofs.TreesAreOne.{one_class_tree}
use Rattle.unicode_classes.proofs.laws.class_trees_are_one.Goals as goal

pub returns : goal.returns
returns c = one_class_tree
