use Rattle.unicode_classes.proofs.ExistLaws.{some_class_tree}
use Rattle.unicode_classes.proofs.laws.each_set_has_a_tree.Goals as goal

pub returns : goal.returns
returns c = λ ranges apart are some. some_class_tree ranges apart are
