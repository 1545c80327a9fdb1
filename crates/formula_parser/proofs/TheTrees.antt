-- The laws of sets of characters, and a tree for each set.
use Rattle.spanner_model.specs.Tree.{Tree}
use Rattle.unicode_classes.specs.Laws.{EachSetHasATree, ClassTreesArePlain}
use Rattle.unicode_classes.proofs.OneRanges.{one_ranges}
use Rattle.unicode_classes.proofs.TreesAreOne.{one_class_tree}
use Rattle.unicode_classes.proofs.ExistLaws.{some_class_tree}
use Rattle.unicode_classes.proofs.PlainLaws.{class_tree_is_plain}
use Rattle.formula_parser.specs.Sets.{Bytes}
use Rattle.formula_parser.specs.Dialect.{AreTrees}
use Rattle.formula_parser.proofs.AllTrees.{all_trees, are_trees}

pub each_class_tree : EachSetHasATree
each_class_tree = λ ranges apart are some. some_class_tree ranges apart are

pub plain_class_trees : ClassTreesArePlain
plain_class_trees = class_tree_is_plain

pub the_trees : Bytes → Tree
the_trees = all_trees each_class_tree

pub the_trees_are : AreTrees the_trees
unfolding the_trees
the_trees_are = are_trees one_ranges one_class_tree each_class_tree
