use Rattle.std.proofs.Common.{◌≡◌, ◌≢◌, All, AllPairs, IsSome, [], ◌∷◌, ◌++◌, ap, subst, sym, ◌∙◌}
use Rattle.std.specs.FinMap as map
use Rattle.raw_cells.proofs.Maps.{all_put}
use Rattle.engine_bench.proofs.Names.{distinct_push}
use Rattle.engine_bench.proofs.slots.put_all.Goals as goal

pub loop-key-preserved : goal.loop-key-preserved
loop-key-preserved c =
    let names = c.loop-key.names.items in let live = c.reserve.new.self.live in let old = c.loop-key.invariant in
    let before : All (λ s. IsSome (map.get live s)) names = λ k d lt. rw c.reserve.ensures.live (old.live k d lt) in
    let push : c.push_reserved.new.self.items ≡ names ++ c.put.result ∷ [] = c.push_reserved.ensures.items ∙ ap (λ l. l ++ c.put.result ∷ []) c.reserve-in-loop-key.ensures.items in
    record {
      live = rw (c.put.ensures.live, push) (all_put live c.put.result c.recorded.result names before);
      distinct = subst (AllPairs (λ s t. s ≢ t)) (sym push) (distinct_push live c.put.result names c.put.ensures.free before old.distinct);
    }
