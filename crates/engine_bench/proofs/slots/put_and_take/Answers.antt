use Rattle.raw_cells.proofs.Maps.{some-put}
use Rattle.engine_bench.proofs.slots.put_and_take.Goals as goal

pub take-sum-requires : goal.take-sum-requires
take-sum-requires c = rw c.put-slot.ensures.live (some-put c.reserve.new.self.live c.put-slot.result c.recorded.result)
