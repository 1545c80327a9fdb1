use Rattle.std.proofs.Common.{◌≡◌, true, ◌↔◌, Some, [], ap, ◌∙◌, inl, inr, subst, arith}
use Rattle.span_core.specs.Lists.{Has}
use Rattle.span_core.proofs.HasLaws.{Has-slice_get}
use Rattle.spanner_model.specs.Tree.{cat_all}
use Rattle.spanner_model.specs.Captures.{VarName}
use Rattle.spanner_model.specs.View.{tree_of, trees_of}
use Rattle.spanner_model.specs.Sequential.{HasVar, IsSure}
use Rattle.spanner_model.specs.WellBuilt.{IsWellBuilt}
use Rattle.spanner_model.proofs.Nodes.{nodes}
use Rattle.spanner_model.proofs.Trees.{tree_of-Empty, tree_of-One, tree_of-Cat, tree_of-Alt, tree_of-Rep, tree_of-Cap}
use Rattle.spanner_model.proofs.TreeLaws.{part_nodes, parts_well_built, arms_well_built, arms_two, arms_have, arms_nodes}
use Rattle.spanner_model.proofs.GatheredLaws.{gathered_same}
use Rattle.functional_check.specs.Numbered.{members}
use Rattle.functional_check.proofs.NumberedLaws.{members_none, members_nothing, members_when, members_either, members_both}
use Rattle.functional_check.proofs.PartFaults.{part_among}
use Rattle.functional_check.proofs.SureLaws.{own_name, captured_sure, sure_next, next_arm}
use Rattle.functional_check.proofs.sure_variables.+sure.Goals as goal

pub sure_among-sure_in_some-requires : goal.sure_among-sure_in_some-requires
sure_among-sure_in_some-requires t c =
    let ts = trees_of c.in-Cat.parts in
    let e = ap tree_of c.in-Cat.is ∙ tree_of-Cat c.in-Cat.parts in
    (omega (arith, ap nodes e), (parts_well_built ts (subst IsWellBuilt e c.requires.built), (c.requires.ascending, λ x v. c.requires.among x (rw e v))))

pub sure_among-sure_in_all-requires : goal.sure_among-sure_in_all-requires
sure_among-sure_in_all-requires t c =
    let ts = trees_of c.in-Alt.arms in
    let e = ap tree_of c.in-Alt.is ∙ tree_of-Alt c.in-Alt.arms in
    let built = subst IsWellBuilt e c.requires.built in (
      omega (arith, ap nodes e, arms_nodes ts),
      (omega (arith, arms_two ts built), (arms_well_built ts built, (c.requires.ascending, λ x v. c.requires.among x (rw e ((arms_have ts x).1 v))))),
    )

pub sure_in_all-sure_among-vars-requires : goal.sure_in_all-sure_among-vars-requires
sure_in_all-sure_among-vars-requires t c =
    let ts = trees_of c.args.arms.now in
    let f = tree_of c.at.result.now in
    let has = Has-slice_get ts 0 f c.at.ensures in
    (omega (arith, part_nodes ts f has), (c.requires.built f has, (c.requires.ascending, part_among c.args.names.now ts f has c.requires.among)))

pub sure_in_all-sure_among-arm-requires : goal.sure_in_all-sure_among-arm-requires
sure_in_all-sure_among-arm-requires t c =
    let ts = trees_of c.args.arms.now in
    let f = tree_of c.at-in-loop-k.result.now in
    let has = Has-slice_get ts c.loop-k.k f c.at-in-loop-k.ensures in
    (omega (arith, part_nodes ts f has), (c.requires.built f has, (c.requires.ascending, part_among c.args.names.now ts f has c.requires.among)))

pub sure_in_all-loop-k-preserved : goal.sure_in_all-loop-k-preserved
sure_in_all-loop-k-preserved t c =
    let names = c.args.names.now in
    next_arm (trees_of c.args.arms.now) c.loop-k.k (tree_of c.at-in-loop-k.result.now) (members names c.loop-k.vars) (members names c.sure_among-arm.result) (members names c.meet-vars.result)
    c.at-in-loop-k.ensures c.loop-k.invariant c.sure_among-arm.ensures (members_both names c.loop-k.vars c.sure_among-arm.result c.meet-vars.result c.requires.ascending c.meet-vars.ensures)

pub sure_in_some-sure_among-part-requires : goal.sure_in_some-sure_among-part-requires
sure_in_some-sure_among-part-requires t c =
    let ts = trees_of c.args.parts.now in
    let f = tree_of c.at.result.now in
    let has = Has-slice_get ts c.loop-k.k f c.at.ensures in
    (omega (arith, part_nodes ts f has), (c.requires.built f has, (c.requires.ascending, part_among c.args.names.now ts f has c.requires.among)))

pub sure_in_some-loop-k-init : goal.sure_in_some-loop-k-init
sure_in_some-loop-k-init t c = members_nothing c.args.names.now c.empty-vars.result (IsSure (cat_all [])) c.empty-vars.ensures (λ x h. h)

pub sure_in_some-loop-k-preserved : goal.sure_in_some-loop-k-preserved
sure_in_some-loop-k-preserved t c =
    let names = c.args.names.now in
    sure_next (trees_of c.args.parts.now) c.loop-k.k (tree_of c.at.result.now) (members names c.loop-k.vars) (members names c.sure_among-part.result) (members names c.union-vars.result)
    c.at.ensures c.loop-k.invariant c.sure_among-part.ensures (members_either names c.loop-k.vars c.sure_among-part.result c.union-vars.result c.union-vars.ensures)

pub sure_among-returns-in-Empty : goal.sure_among-returns-in-Empty
sure_among-returns-in-Empty t c =
    let set = members c.args.names.now c.empty.result in
    let none = members_none c.args.names.now c.empty.result c.empty.ensures in
    elim c.in-Empty.is [
      | inl e ↦ rw (ap tree_of e ∙ tree_of-Empty) (λ x. (none x, λ h. absurd h))
      | inr p ↦ rw (ap tree_of p.1 ∙ tree_of-One p.0) (λ x. (none x, λ h. absurd h))
    ]

pub sure_among-returns-in-Cap : goal.sure_among-returns-in-Cap
sure_among-returns-in-Cap t c =
    let names = c.args.names.now in
    let name = c.in-Cap.name in
    let sub = tree_of c.in-Cap.sub.value in
    let vars = members names c.sure_among-vars-in-Cap.result in
    let own = members names c.of.result in
    let all = members names c.union.result in
    let e = ap tree_of c.in-Cap.is ∙ tree_of-Cap name c.in-Cap.sub in
    let has = c.requires.among name (rw e (inl (λ i. name))) in
    let added = gathered_same vars all (Has own) (λ (x : VarName). name ≡ x) true (own_name names own name c.of.ensures has)
    (members_either names c.sure_among-vars-in-Cap.result c.of.result c.union.result c.union.ensures) in
    let inner = rw c.deref-in-Cap.ensures at c.sure_among-vars-in-Cap.ensures in
    rw e (captured_sure name sub vars all inner added)

pub sure_among-returns-in-Rep : goal.sure_among-returns-in-Rep
sure_among-returns-in-Rep t c =
    let names = c.args.names.now in
    let least = c.in-Rep.least in
    let most = c.in-Rep.most in
    let vars = members names c.sure_among-vars.result in
    let all = members names c.repeated.result in
    let e = ap tree_of c.in-Rep.is ∙ tree_of-Rep c.in-Rep.sub least most in
    let inner = rw c.deref.ensures at c.sure_among-vars.ensures in
    let when = members_when names c.sure_among-vars.result c.repeated.result (least ≡ 1) (most ≡ Some 1) c.repeated.ensures in
    rw e (λ x. (
      λ h. let p = (when x).0 h in (p.0, p.1, (inner x).0 p.2),
      λ s. (when x).1 (s.0, s.1, (inner x).1 s.2),
    ))
