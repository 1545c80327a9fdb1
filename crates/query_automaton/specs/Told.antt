-- What the faults of the operations are for a query.
use Rattle.std.specs.Prelude.{ℕ, ◌<◌, ◌≤◌}
use Rattle.marked_automaton.specs.declared.fault.SizeFault.{SizeFault}
use Rattle.place_automaton.specs.declared.fault.AtomFault.{AtomFault}
use Rattle.place_automaton.specs.declared.fault.AtomFault.TheVariants as atom
use Rattle.algebra.specs.declared.TheConstants.{MOST_ENDS}
use Rattle.algebra.specs.declared.fault.JoinFault.{JoinFault}
use Rattle.algebra.specs.declared.fault.JoinFault.TheVariants as join
use Rattle.algebra_minus.specs.declared.fault.MinusFault.{MinusFault}
use Rattle.algebra_minus.specs.declared.fault.MinusFault.TheVariants as minus
use Rattle.query_automaton.specs.declared.fault.CompileFault.{CompileFault}
use Rattle.query_automaton.specs.declared.fault.CompileFault.TheVariants.{Size, Held, Ends, Spent}

abbrev pub compile_fault : JoinFault → CompileFault
compile_fault (join.Size fault) = Size fault
compile_fault (join.Ends count) = Ends count
compile_fault join.Spent = Spent

abbrev pub minus_fault : MinusFault → CompileFault
minus_fault (minus.Size fault) = Size fault
minus_fault minus.Spent = Spent

abbrev pub atom_fault_of : AtomFault → CompileFault
atom_fault_of (atom.Size fault) = Size fault
atom_fault_of (atom.Ends count) = Ends count

-- a size is refused so; ends only where there are more than the limit, and no more told than there are; and steps are wanting
-- only where there were no more than so many
abbrev pub IsTold : (SizeFault → Type 0) → ℕ → ℕ → ℕ → CompileFault → Type 0
IsTold P ends effort most (Size fault) = P fault
IsTold P ends effort most (Held count) = ⊥
IsTold P ends effort most (Ends count) = (MOST_ENDS < count) × (count ≤ ends)
IsTold P ends effort most Spent = effort ≤ most
