use Rattle.set_table.proofs.HeldLaws.{ends_there, ends_told}
use Rattle.set_table.proofs.table.Table.marks_at.Goals as goal

pub marks_part-requires : goal.marks_part-requires
marks_part-requires c = rw c.as_slice.ensures.value (ends_there c.self.invariant c.self.view_is c.requires.within c.index-answer.ensures c.requires.ends)

pub returns : goal.returns
returns c = ends_told c.self.invariant c.self.view_is c.requires.within c.index-answer.ensures c.requires.ends (rw c.as_slice.ensures.value at c.marks_part.ensures)
