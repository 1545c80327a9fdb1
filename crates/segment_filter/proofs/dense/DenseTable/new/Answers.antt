use Rattle.segment_filter.proofs.dense.DenseTable.new.Goals as goal

pub invariant_of-result : goal.invariant_of-result
invariant_of-result g c = (c.is_table.ensures, c.new-told.ensures _)
