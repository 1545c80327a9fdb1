use Rattle.std.proofs.Common.{◌≢◌, All, AllPairs, IsSome}
use Rattle.std.specs.FinMap as map
use Rattle.engine_bench.proofs.slots.put_all.Given as goal

abbrev pub invariant-loop-key : goal.invariant-loop-key
invariant-loop-key l = record {
  live : All (λ s. IsSome (map.get l.slots.live s)) l.names.items;
  distinct : AllPairs (λ s t. s ≢ t) l.names.items;
}
