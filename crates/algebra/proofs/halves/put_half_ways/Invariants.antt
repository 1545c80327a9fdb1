use Rattle.std.proofs.Common.{◌≡◌, take, map}
use Rattle.algebra.specs.Renaming.{half_way}
use Rattle.algebra.proofs.halves.put_half_ways.Given as goal

abbrev pub invariant-loop-way : goal.invariant-loop-way
invariant-loop-way l = l.halves.items ≡ map (half_way l.own l.shared) (take l.way-index l.ways)
