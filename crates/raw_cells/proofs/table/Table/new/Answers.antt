use Rattle.std.proofs.Common.{map, refl, sym, ap, subst, ◌∙◌, arith}
use Rattle.raw_cells.specs.Places.{AreTold}
use Rattle.raw_cells.proofs.Told.{rows_of}
use Rattle.raw_cells.proofs.table.Table.new.Goals as goal

pub invariant_of-result : goal.invariant_of-result
invariant_of-result g c = rw c.new.ensures.items (record { all = refl; few = omega arith; told = λ k d lt. absurd (omega arith) })

pub returns : goal.returns
returns g c = ap rows_of c.new.ensures.items
