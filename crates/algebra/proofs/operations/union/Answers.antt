use Rattle.std.specs.Prelude.{IfOk}
use Rattle.marked_automaton.specs.Automaton.{Marked}
use Rattle.marked_automaton.specs.Reduct.{Reduces}
use Rattle.algebra.specs.Uniting.{union_over}
use Rattle.algebra.proofs.operations.union.Goals as goal

pub returns-clause-reduct : goal.returns-clause-reduct
returns-clause-reduct c =
    rw (← c.in_ok-copy.ensures) c.unite.ensures.reduct
