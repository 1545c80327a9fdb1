use Rattle.std.proofs.Common.{◌≡◌, ◌++◌, [], ◌∷◌, length, refl, ap, ◌∙◌, arith}
use Rattle.output_graph.specs.declared.program.Plan.{Plan}
use Rattle.output_graph.proofs.PlanLaws.{groups_next, plan_next}
use Rattle.output_graph.proofs.program.add_source.Goals as goal

pub returns-clause-plan : goal.returns-clause-plan
returns-clause-plan c =
    let old : Plan = c.args.plan.now in
    let so = c.in_ok-kept.ensures in
    let has = old.counts.ok.0 in
    let many = c.len.ensures in
    let is = c.in_ok-source.ensures in
    let source : c.in_ok-source.source ≡ length old.counts.items = omega arith in
    let counts : c.push.new.self.items ≡ old.counts.items ++ length c.args.edges.now ∷ [] = c.in_ok-push.ensures.items ∙ ap (λ v. v.items ++ length c.args.edges.now ∷ []) so.counts in
    plan_next c.in_ok-source.source old c.requires.plan source c.args.edges.now c.requires.descend c.add_edges.new.plan c.in_ok-kept.kept so _ counts refl refl refl refl c.in_ok-add_release.ensures

pub returns-clause-groups : goal.returns-clause-groups
returns-clause-groups c =
    let old : Plan = c.args.plan.now in
    let so = c.in_ok-kept.ensures in
    let counts : c.push.new.self.items ≡ old.counts.items ++ length c.args.edges.now ∷ [] = c.in_ok-push.ensures.items ∙ ap (λ v. v.items ++ length c.args.edges.now ∷ []) so.counts in
    groups_next c.in_ok-source.source old c.requires.plan c.args.edges.now c.add_edges.new.plan c.in_ok-kept.kept so c.push.new.self.items c.add_edges.new.plan.moves.items counts refl
