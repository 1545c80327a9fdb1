use Rattle.std.proofs.Common.{take}
use Rattle.spanner_model.specs.ExprView.{query_of}
use Rattle.rematch_program.specs.Explained.{HasLines, atoms_in}
use Rattle.rematch_program.proofs.explanation.push_let_atoms.Given as goal

abbrev pub invariant-loop-k : goal.invariant-loop-k
invariant-loop-k l = HasLines 0 l.fn.text.items (atoms_in (take l.k (query_of l.query).lets)) l.atoms l.text.items
