use Rattle.std.proofs.Common.{arith}
use Rattle.std.proofs.lemmas.Result.{IfErr-weaker, on_ok_weaker}
use Rattle.algebra.specs.Joining.{IsSpentOn, most_steps}
use Rattle.algebra.proofs.StepLaws.{second_steps, spent_more}
use Rattle.algebra.proofs.Rejoined.{second_fault, second_join}
use Rattle.algebra.proofs.joining.join_to.Goals as goal

pub returns-clause-join : goal.returns-clause-join
returns-clause-join c = second_join c.args.a.now c.args.b.now c.in_ok-second.second c.join_grouped-2.result c.is_marked.ensures c.in_ok-second.ensures c.join_grouped-2.ensures.join

pub returns-clause-fault : goal.returns-clause-fault
returns-clause-fault c = second_fault c.args.a.now c.args.b.now c.in_ok-second.second c.join_grouped-2.result c.is_marked.ensures c.in_ok-second.ensures c.join_grouped-2.ensures.fault

pub returns-clause-spent : goal.returns-clause-spent
returns-clause-spent c =
    let a = c.args.a.now in
    let b = c.args.b.now in
    let g = c.in_ok-second.second in
    IfErr-weaker c.join_grouped-2.result (IsSpentOn c.args.effort.now (most_steps a g)) (IsSpentOn c.args.effort.now (most_steps a b))
    (λ e h. spent_more c.args.effort.now (most_steps a g) (most_steps a b) e (second_steps b a g c.in_ok-second.ensures) h) c.join_grouped-2.ensures.spent

pub returns-clause-steps : goal.returns-clause-steps
returns-clause-steps c =
    on_ok_weaker c.join_grouped-2.result (λ le. omega (arith, le, second_steps c.args.b.now c.args.a.now c.in_ok-second.second c.in_ok-second.ensures)) c.join_grouped-2.ensures.steps
