use Rattle.std.proofs.Common.{◌≡◌, take}
use Rattle.algebra.specs.Pairs.{AreStarted}
use Rattle.algebra.proofs.pairs.Search.find_all.Given as goal

abbrev pub invariant-loop-left : goal.invariant-loop-left
invariant-loop-left l = record {
  started : AreStarted (take l.left-index l.lefts) l.rights l.initial.self.found.keys l.self.found.keys;
  ways : l.self.ways.items ≡ l.initial.self.ways.items;
}
