use Rattle.std.proofs.Common.{take}
use Rattle.algebra.specs.Pairs.{IsFollowed, pairs, way_pair, ways_meet}
use Rattle.algebra.proofs.pairs.Search.follow_pair.Given as goal

abbrev pub invariant-loop-x : goal.invariant-loop-x
invariant-loop-x l = IsFollowed (pairs ways_meet way_pair l.ys (take l.x-index l.xs)) l.initial.self.found.keys l.initial.self.ways.items l.self.found.keys l.self.ways.items
