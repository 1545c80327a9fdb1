use Rattle.std.proofs.Common.{◌≡◌, take, [], ◌∷◌}
use Rattle.algebra.specs.Pairs.{AreStarted}
use Rattle.algebra.proofs.pairs.Search.find_with.Given as goal

abbrev pub invariant-loop-right : goal.invariant-loop-right
invariant-loop-right l = record {
  started : AreStarted (l.left ∷ []) (take l.right-index l.rights) l.initial.self.found.keys l.self.found.keys;
  ways : l.self.ways.items ≡ l.initial.self.ways.items;
}
