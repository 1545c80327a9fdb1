use Rattle.std.proofs.Common.{arith}
use Rattle.std.proofs.lemmas.Result.{IfErr-weaker, on_ok_weaker}
use Rattle.algebra.specs.Joining.{IsSpentOn, most_steps}
use Rattle.algebra.proofs.StepLaws.{first_steps, spent_more}
use Rattle.algebra.proofs.Rejoined.{first_fault, first_join}
use Rattle.algebra.proofs.operations.join_with_cause.Goals as goal

pub returns-clause-join : goal.returns-clause-join
returns-clause-join c = first_join c.args.a.now c.args.b.now c.in_ok-first.first c.join_to-2.result c.is_marked.ensures c.in_ok-first.ensures c.join_to-2.ensures.join

pub returns-clause-fault : goal.returns-clause-fault
returns-clause-fault c = first_fault c.args.a.now c.args.b.now c.in_ok-first.first c.join_to-2.result c.is_marked.ensures c.in_ok-first.ensures c.join_to-2.ensures.fault

pub returns-clause-spent : goal.returns-clause-spent
returns-clause-spent c =
    let a = c.args.a.now in
    let b = c.args.b.now in
    let g = c.in_ok-first.first in
    IfErr-weaker c.join_to-2.result (IsSpentOn c.args.effort.now (most_steps g b)) (IsSpentOn c.args.effort.now (most_steps a b))
    (λ e h. spent_more c.args.effort.now (most_steps g b) (most_steps a b) e (first_steps a b g c.in_ok-first.ensures) h) c.join_to-2.ensures.spent

pub returns-clause-steps : goal.returns-clause-steps
returns-clause-steps c =
    on_ok_weaker c.join_to-2.result (λ le. omega (arith, le, first_steps c.args.a.now c.args.b.now c.in_ok-first.first c.in_ok-first.ensures)) c.join_to-2.ensures.steps
