use Rattle.std.proofs.Common.{◌≤◌, length, arith, ◌∙◌}
use Rattle.marked_automaton.specs.Reduct.{Reduces}
use Rattle.marked_automaton.proofs.Reducts.{reduct_of_reduct}
use Rattle.query_automaton.specs.QueryAutomaton.{of_join}
use Rattle.query_automaton.specs.Steps.{join_steps}
use Rattle.query_automaton.specs.Told.{IsTold}
use Rattle.algebra.proofs.Followed.{handed_on}
use Rattle.query_automaton.proofs.Combining.{AreTooLarge, Join}
use Rattle.query_automaton.proofs.HeldQueries.{joined_size, told_spent}
use Rattle.query_automaton.proofs.expressions.Compiler.joined.Goals as goal

pub returns-clause-made : goal.returns-clause-made
returns-clause-made c =
    let a = c.args.all.now in
    let p = c.args.part.now in
    let j = c.in_ok-pairs.pairs in
    let useful = c.in_ok-trim.field-0 in
    let names = c.in_ok-pairs.ensures.join.names in
    let reduct : Reduces j.graph (of_join a p).graph =
    rw (← names) c.in_ok-pairs.ensures.join.reduct in
    rw c.in_ok-new.ensures
    (c.in_ok-trim.ensures.names ∙ names, reduct_of_reduct useful.graph j.graph (of_join a p).graph c.in_ok-trim.ensures.reduct reduct)

pub returns-in_err-spend-clause-fault : goal.returns-in_err-spend-clause-fault
returns-in_err-spend-clause-fault c =
    let a = c.args.all.now in
    let p = c.args.part.now in
    let j = c.in_ok-pairs.pairs in
    let fault = c.in_err-spend.field-0.0 in
    let few = joined_size a p j c.in_ok-pairs.ensures.join c.in_err-spend.ensures.marked in
    let le : c.args.effort.now ≤ join_steps a p = omega (
      arith,
      c.spend.ensures,
      c.states.ensures.value,
      c.from.ensures,
      c.states-2.ensures.value,
      c.from-2.ensures,
      c.in_ok-pairs.ensures.steps,
      c.in_err-spend.ensures.spent,
      few,
    ) in
    handed_on (IsTold (AreTooLarge Join a p) (length (of_join a p).graph.stops) c.args.effort.now (join_steps a p)) c.from_residual-in_err-spend.result fault c.from_residual-in_err-spend.ensures.1
    (told_spent (AreTooLarge Join a p) (length (of_join a p).graph.stops) c.args.effort.now (join_steps a p) le fault c.in_err-spend.ensures.fault)

pub returns-clause-steps : goal.returns-clause-steps
returns-clause-steps c =
    let a = c.args.all.now in
    let p = c.args.part.now in
    omega (
      arith,
      c.spend.ensures,
      c.states.ensures.value,
      c.from.ensures,
      c.states-2.ensures.value,
      c.from-2.ensures,
      c.in_ok-pairs.ensures.steps,
      c.in_ok-spend.ensures.steps,
      joined_size a p c.in_ok-pairs.pairs c.in_ok-pairs.ensures.join c.in_ok-spend.ensures.marked,
    )
