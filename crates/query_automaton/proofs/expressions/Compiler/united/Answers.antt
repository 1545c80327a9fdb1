use Rattle.std.proofs.Common.{◌≤◌, length, arith}
use Rattle.algebra.proofs.Followed.{handed_on}
use Rattle.query_automaton.specs.QueryAutomaton.{of_union}
use Rattle.query_automaton.specs.declared.fault.CompileFault.TheVariants.{Size}
use Rattle.query_automaton.specs.Steps.{union_steps}
use Rattle.query_automaton.specs.Told.{IsTold}
use Rattle.query_automaton.proofs.Combined.{union_too_large, united_made}
use Rattle.query_automaton.proofs.Combining.{AreTooLarge, Union}
use Rattle.query_automaton.proofs.HeldQueries.{told_spent, united_size}
use Rattle.query_automaton.proofs.expressions.Compiler.united.Goals.{then-len-before+in_ok-spend-2, else-len-before}
use Rattle.query_automaton.proofs.expressions.Compiler.united.Goals as goal

pub returns-clause-made : goal.returns-clause-made
returns-clause-made c =
    let p = c.args.part.now in
    let whole = c.in_ok-take.field-0 in
    let both = c.in_ok-both.both in
    rw c.in_ok-new.ensures
    (rw (← c.in_ok-take.ensures) (united_made whole p both c.in_ok-both.ensures.names c.in_ok-both.ensures.reduct))

pub returns-in_err-both-clause-fault : goal.returns-in_err-both-clause-fault
returns-in_err-both-clause-fault c =
    let p = c.args.part.now in
    let fault = c.in_err-both.field-0.0 in
    handed_on (IsTold (AreTooLarge Union c.args.all p) (length (of_union c.args.all p).graph.stops) c.args.effort.now (union_steps c.args.all p))
    c.from_residual-in_err-both.result (Size fault) c.from_residual-in_err-both.ensures.1
    (rw (← c.in_ok-take.ensures) (union_too_large c.in_ok-take.field-0 p fault c.in_err-both.ensures.fault))

pub returns-in_err-spend-2-clause-fault : goal.returns-in_err-spend-2-clause-fault
returns-in_err-spend-2-clause-fault c =
    let a = c.args.all in
    let p = c.args.part.now in
    let both = c.in_ok-both.both in
    let fault = c.in_err-spend-2.field-0.0 in
    let few = united_size a p c.in_ok-take.field-0 both c.in_ok-take.ensures c.in_ok-both.ensures.names c.in_ok-both.ensures.reduct c.in_err-spend-2.ensures.marked in
    let le : c.args.effort.now ≤ union_steps a p = omega (arith, c.in_ok-spend.ensures.steps, c.in_err-spend-2.ensures.spent, few) in
    handed_on (IsTold (AreTooLarge Union a p) (length (of_union a p).graph.stops) c.args.effort.now (union_steps a p))
    c.from_residual-in_err-spend-2.result fault c.from_residual-in_err-spend-2.ensures.1
    (told_spent (AreTooLarge Union a p) (length (of_union a p).graph.stops) c.args.effort.now (union_steps a p) le fault c.in_err-spend-2.ensures.fault)

pub returns-clause-steps : goal.returns-clause-steps
returns-clause-steps c =
    let a = c.args.all in
    let p = c.args.part.now in
    let both = c.in_ok-both.both in
    elim c.if-len-before.branch [
      | then-len-before+in_ok-spend-2 w ↦
          let few = united_size a p c.in_ok-take.field-0 both c.in_ok-take.ensures c.in_ok-both.ensures.names c.in_ok-both.ensures.reduct w.in_ok-spend-2.ensures.marked in
          omega (arith, c.in_ok-spend.ensures.steps, w.in_ok-spend-2.ensures.steps, w.effort-is, few)
      | else-len-before w ↦ omega (arith, c.in_ok-spend.ensures.steps, w.effort-is)
    ]
