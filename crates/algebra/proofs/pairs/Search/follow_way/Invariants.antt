use Rattle.std.proofs.Common.{take}
use Rattle.algebra.specs.Pairs.{IsFollowed, ways_with}
use Rattle.algebra.proofs.pairs.Search.follow_way.Given as goal

abbrev pub invariant-loop-y : goal.invariant-loop-y
invariant-loop-y l = IsFollowed (ways_with l.x (take l.y-index l.ys)) l.initial.self.found.keys l.initial.self.ways.items l.self.found.keys l.self.ways.items
