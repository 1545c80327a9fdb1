use Rattle.std.proofs.Common.{◌+◌, ◌≤◌, length, arith, ◌∙◌}
use Rattle.marked_automaton.proofs.Reducts.{reduct_of_reduct}
use Rattle.marked_automaton.specs.Faults.{IsSizeFaultWithin}
use Rattle.algebra.proofs.Followed.{handed_on}
use Rattle.query_automaton.specs.QueryAutomaton.{of_minus}
use Rattle.query_automaton.specs.Steps.{minus_steps}
use Rattle.query_automaton.specs.Told.{IsTold, minus_fault}
use Rattle.query_automaton.proofs.HeldLaws.{reduced_size}
use Rattle.query_automaton.proofs.HeldQueries.{minus_refused, told_spent}
use Rattle.query_automaton.proofs.expressions.Compiler.differing.Goals as goal

pub returns-clause-made : goal.returns-clause-made
returns-clause-made c =
    let a = c.args.left.now in
    let p = c.args.right.now in
    let j = c.in_ok-alone.alone in
    let useful = c.in_ok-trim.field-0 in
    rw c.in_ok-new.ensures
    (c.in_ok-trim.ensures.names ∙ c.in_ok-alone.ensures.names, reduct_of_reduct useful.graph j.graph (of_minus a p).graph c.in_ok-trim.ensures.reduct c.in_ok-alone.ensures.reduct)

pub returns-in_err-alone-clause-fault : goal.returns-in_err-alone-clause-fault
returns-in_err-alone-clause-fault c =
    let a = c.args.left.now in
    let p = c.args.right.now in
    let fault = c.in_err-alone.field-0.0 in
    let le : c.args.effort.now ≤ c.spend.new.self + (a.graph.states + p.graph.states) =
    omega (arith, c.spend.ensures, c.states.ensures.value, c.from.ensures, c.states-2.ensures.value, c.from-2.ensures) in
    handed_on (IsTold (IsSizeFaultWithin (of_minus a p).graph.states (length (of_minus a p).graph.ways)) 0 c.args.effort.now (minus_steps a p)) c.from_residual.result (minus_fault fault)
    c.from_residual.ensures.1 (minus_refused a p c.args.effort.now c.spend.new.self le fault c.in_err-alone.ensures.within c.in_err-alone.ensures.fault)

pub returns-in_err-spend-clause-fault : goal.returns-in_err-spend-clause-fault
returns-in_err-spend-clause-fault c =
    let a = c.args.left.now in
    let p = c.args.right.now in
    let j = c.in_ok-alone.alone in
    let fault = c.in_err-spend.field-0.0 in
    let few = reduced_size j (of_minus a p) c.in_err-spend.ensures.marked c.in_ok-alone.ensures.reduct in
    let le : c.args.effort.now ≤ minus_steps a p = omega (
      arith,
      c.spend.ensures,
      c.states.ensures.value,
      c.from.ensures,
      c.states-2.ensures.value,
      c.from-2.ensures,
      c.in_ok-alone.ensures.steps,
      c.in_err-spend.ensures.spent,
      few,
    ) in
    let P = IsSizeFaultWithin (of_minus a p).graph.states (length (of_minus a p).graph.ways) in
    handed_on (IsTold P 0 c.args.effort.now (minus_steps a p)) c.from_residual-in_err-spend.result fault c.from_residual-in_err-spend.ensures.1
    (told_spent P 0 c.args.effort.now (minus_steps a p) le fault c.in_err-spend.ensures.fault)

pub returns-clause-steps : goal.returns-clause-steps
returns-clause-steps c =
    let a = c.args.left.now in
    let p = c.args.right.now in
    omega (
      arith,
      c.spend.ensures,
      c.states.ensures.value,
      c.from.ensures,
      c.states-2.ensures.value,
      c.from-2.ensures,
      c.in_ok-alone.ensures.steps,
      c.in_ok-spend.ensures.steps,
      reduced_size c.in_ok-alone.alone (of_minus a p) c.in_ok-spend.ensures.marked c.in_ok-alone.ensures.reduct,
    )
