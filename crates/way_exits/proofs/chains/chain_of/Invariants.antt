use Rattle.way_exits.proofs.AheadLaws.{IsForcedSo}
use Rattle.way_exits.proofs.chains.chain_of.Given as goal

abbrev pub invariant-loop : goal.invariant-loop
invariant-loop l = IsForcedSo l.ways l.states l.leaving l.from.items l.sets.items
