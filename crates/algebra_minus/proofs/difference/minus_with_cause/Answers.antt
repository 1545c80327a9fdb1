use Rattle.algebra_minus.specs.DifferenceOf.{difference_of}
use Rattle.algebra_minus.proofs.DifferenceMade.{difference_made}
use Rattle.algebra_minus.proofs.Grouped.{accepts_by, reduces_by}
use Rattle.algebra_minus.proofs.StepLaws.{steps_of_reducts, told_refusal, told_within}
use Rattle.algebra_minus.proofs.difference.minus_with_cause.Goals as goal

pub returns-in-Ok-clause-reduct : goal.returns-in-Ok-clause-reduct
returns-in-Ok-clause-reduct c =
    let a = c.in_ok-first.ensures in
    let b = c.in_ok-second.ensures in
    let A = c.args.a.now.graph in
    let B = c.args.b.now.graph in
    reduces_by c.in_ok-first.first.graph c.in_ok-second.second.graph A B c.in-Ok.automaton.graph a.reduct b.reduct c.in-Ok.ensures.difference
    (difference_of A B) (difference_made A B a.old.whole b.old.whole)

pub returns-in-Ok-clause-words : goal.returns-in-Ok-clause-words
returns-in-Ok-clause-words c =
    let a = c.in_ok-first.ensures in
    let b = c.in_ok-second.ensures in
    accepts_by c.in_ok-first.first.graph c.in_ok-second.second.graph c.args.a.now.graph c.args.b.now.graph c.in-Ok.automaton.graph a.reduct b.reduct c.in-Ok.ensures.difference

pub returns-in-Ok-clause-steps : goal.returns-in-Ok-clause-steps
returns-in-Ok-clause-steps c =
    steps_of_reducts c.args.a.now c.args.b.now c.in_ok-first.first c.in_ok-second.second c.in_ok-first.ensures c.in_ok-second.ensures
    c.args.effort.now c.minus_grouped.new.effort c.minus_grouped.ensures.steps

pub returns-clause-fault : goal.returns-clause-fault
returns-clause-fault c =
    let takes = steps_of_reducts c.args.a.now c.args.b.now c.in_ok-first.first c.in_ok-second.second c.in_ok-first.ensures c.in_ok-second.ensures
    c.args.effort.now c.minus_grouped.new.effort c.minus_grouped.ensures.steps in
    told_refusal c.args.a.now c.args.b.now c.in_ok-first.first c.in_ok-second.second c.in_ok-first.ensures c.in_ok-second.ensures
    c.args.effort.now c.minus_grouped.new.effort c.in-Err.fault c.told.result
    c.in-Err.ensures.fault takes c.told.ensures

pub returns-clause-within : goal.returns-clause-within
returns-clause-within c =
    told_within c.args.a.now c.args.b.now c.in_ok-first.first c.in_ok-second.second c.in_ok-first.ensures c.in_ok-second.ensures
    c.minus_grouped.new.effort c.in-Err.fault c.told.result c.in-Err.ensures.fault
    c.told.ensures
