use Rattle.unicode_classes.proofs.PropertyLaws.{IsLeft}
use Rattle.unicode_classes.proofs.properties.find.Given as goal

abbrev pub invariant-loop-named : goal.invariant-loop-named
invariant-loop-named l = IsLeft l.all l.name l.named-index
