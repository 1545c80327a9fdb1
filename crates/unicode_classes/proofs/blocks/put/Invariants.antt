use Rattle.std.proofs.Common.{◌≡◌}
use Rattle.unicode_classes.proofs.PutLaws.{HaveOthersBelow}
use Rattle.unicode_classes.proofs.blocks.put.Given as goal

abbrev pub invariant-loop-k : goal.invariant-loop-k
invariant-loop-k l = record {
  same : l.groups.items ≡ l.fn.groups.items;
  others : HaveOthersBelow l.groups.items l.fn.tails l.k;
}
