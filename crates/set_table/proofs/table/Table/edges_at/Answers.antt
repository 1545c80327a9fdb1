use Rattle.set_table.proofs.HeldLaws.{edges_there, edges_told}
use Rattle.set_table.proofs.table.Table.edges_at.Goals as goal

pub edges_part-requires : goal.edges_part-requires
edges_part-requires c = rw c.as_slice.ensures.value (edges_there c.self.invariant c.self.view_is c.requires.within c.index-answer.ensures c.requires.edges)

pub returns : goal.returns
returns c = edges_told c.self.invariant c.self.view_is c.requires.within c.index-answer.ensures c.requires.edges (rw c.as_slice.ensures.value at c.edges_part.ensures)
