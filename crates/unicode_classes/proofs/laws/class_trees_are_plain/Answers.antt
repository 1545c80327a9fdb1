use Rattle.unicode_classes.proofs.PlainLaws.{class_tree_is_plain}
use Rattle.unicode_classes.proofs.laws.class_trees_are_plain.Goals as goal

pub returns : goal.returns
returns c = class_tree_is_plain
