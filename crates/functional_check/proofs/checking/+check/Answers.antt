use Rattle.std.proofs.Common.{[], ap, ◌∙◌, ◌↔◌, inl, inr, subst, arith}
use Rattle.span_core.specs.Lists.{Has}
use Rattle.span_core.proofs.HasLaws.{Has-slice_get}
use Rattle.spanner_model.specs.Captures.{VarName}
use Rattle.spanner_model.specs.Tree.{cat_all, alt_all}
use Rattle.spanner_model.specs.View.{tree_of, trees_of}
use Rattle.spanner_model.specs.Sequential.{HasVar, IsSequential}
use Rattle.spanner_model.specs.WellBuilt.{IsWellBuilt}
use Rattle.spanner_model.proofs.Nodes.{nodes}
use Rattle.spanner_model.proofs.Trees.{tree_of-Empty, tree_of-One, tree_of-Cat, tree_of-Alt, tree_of-Cap}
use Rattle.spanner_model.proofs.TreeLaws.{part_nodes, parts_well_built, arms_well_built, arms_have, arms_nodes}
use Rattle.functional_check.specs.Numbered.{members}
use Rattle.functional_check.proofs.NumberedLaws.{members_none, members_nothing, members_either, members_both}
use Rattle.functional_check.proofs.PartFaults.{part_among, cat_fault, alt_fault, sequential_next, twice_next, vars_next, cat_done_fault, cat_done, alt_done, checked_err}
use Rattle.functional_check.proofs.checking.+check.Goals as goal

pub check_arms-check_among-requires : goal.check_arms-check_among-requires
check_arms-check_among-requires t c =
    let ts = trees_of c.args.arms.now in
    let f = tree_of c.at.result.now in
    let has = Has-slice_get ts c.loop-k.k f c.at.ensures in
    (omega (arith, part_nodes ts f has), (c.requires.built f has, (c.requires.ascending, part_among c.args.names.now ts f has c.requires.among)))

pub check_arms-returns-in_err-arm : goal.check_arms-returns-in_err-arm
check_arms-returns-in_err-arm t c =
    let ts = trees_of c.args.arms.now in
    let e = c.in_err-arm.field-0.0 in
    checked_err c.args.names.now (alt_all ts) c.from_residual.result e c.from_residual.ensures.1
    (alt_fault ts c.loop-k.k (tree_of c.at.result.now) e c.at.ensures c.loop-k.invariant.sequential c.in_err-arm.ensures)

pub check_arms-loop-k-init : goal.check_arms-loop-k-init
check_arms-loop-k-init t c = record {
  sequential = λ f h. absurd h;
  vars = members_nothing c.args.names.now c.empty-vars.result (HasVar (cat_all [])) c.empty-vars.ensures (λ x h. h);
}

pub check_arms-loop-k-preserved : goal.check_arms-loop-k-preserved
check_arms-loop-k-preserved t c =
    let ts = trees_of c.args.arms.now in
    let f = tree_of c.at.result.now in
    let names = c.args.names.now in
    let here = c.in_ok-arm.ensures in
    record {
      sequential = sequential_next ts c.loop-k.k f c.at.ensures c.loop-k.invariant.sequential here.0;
      vars = vars_next ts c.loop-k.k f (members names c.loop-k.vars) (members names c.in_ok-arm.arm) (members names c.union-vars.result) c.at.ensures c.loop-k.invariant.vars here.1
          (members_either names c.loop-k.vars c.in_ok-arm.arm c.union-vars.result c.union-vars.ensures);
    }

pub check_arms-returns : goal.check_arms-returns
check_arms-returns t c =
    alt_done (trees_of c.args.arms.now) c.loop-k.k (members c.args.names.now c.loop-k.vars) (omega (arith, c.len-k-end.ensures, c.loop-k-test.false))
    c.loop-k.invariant.sequential c.loop-k.invariant.vars

pub check_among-check_parts-requires : goal.check_among-check_parts-requires
check_among-check_parts-requires t c =
    let ts = trees_of c.in-Cat.parts in
    let e = ap tree_of c.in-Cat.is ∙ tree_of-Cat c.in-Cat.parts in
    (omega (arith, ap nodes e), (parts_well_built ts (subst IsWellBuilt e c.requires.built), (c.requires.ascending, λ x v. c.requires.among x (rw e v))))

pub check_among-check_arms-requires : goal.check_among-check_arms-requires
check_among-check_arms-requires t c =
    let ts = trees_of c.in-Alt.arms in
    let e = ap tree_of c.in-Alt.is ∙ tree_of-Alt c.in-Alt.arms in
    let built = subst IsWellBuilt e c.requires.built in
    (omega (arith, ap nodes e, arms_nodes ts), (arms_well_built ts built, (c.requires.ascending, λ x v. c.requires.among x (rw e ((arms_have ts x).1 v)))))

pub check_among-captured-requires : goal.check_among-captured-requires
check_among-captured-requires t c =
    let name = c.in-Cap.name in
    let e = ap tree_of c.in-Cap.is ∙ tree_of-Cap name c.in-Cap.sub in
    c.requires.among name (rw e (inl (λ i. name)))

pub check_parts-check_among-requires : goal.check_parts-check_among-requires
check_parts-check_among-requires t c =
    let ts = trees_of c.args.parts.now in
    let f = tree_of c.at.result.now in
    let has = Has-slice_get ts c.loop-k.k f c.at.ensures in
    (omega (arith, part_nodes ts f has), (c.requires.built f has, (c.requires.ascending, part_among c.args.names.now ts f has c.requires.among)))

pub check_parts-returns-in_err-part : goal.check_parts-returns-in_err-part
check_parts-returns-in_err-part t c =
    let ts = trees_of c.args.parts.now in
    let e = c.in_err-part.field-0.0 in
    checked_err c.args.names.now (cat_all ts) c.from_residual.result e c.from_residual.ensures.1
    (cat_fault ts c.loop-k.k (tree_of c.at.result.now) e c.at.ensures c.loop-k.invariant.sequential c.in_err-part.ensures)

pub check_parts-loop-k-init : goal.check_parts-loop-k-init
check_parts-loop-k-init t c = record {
  sequential = λ f h. absurd h;
  vars = members_nothing c.args.names.now c.empty-vars.result (HasVar (cat_all [])) c.empty-vars.ensures (λ x h. h);
  twice = λ x. (λ h. absurd (members_none c.args.names.now c.empty-twice.result c.empty-twice.ensures x h), λ h. absurd h);
}

pub check_parts-loop-k-preserved : goal.check_parts-loop-k-preserved
check_parts-loop-k-preserved t c =
    let ts = trees_of c.args.parts.now in
    let f = tree_of c.at.result.now in
    let names = c.args.names.now in
    let vars = c.loop-k.vars in
    let part = c.in_ok-part.part in
    let here = c.in_ok-part.ensures in
    record {
      sequential = sequential_next ts c.loop-k.k f c.at.ensures c.loop-k.invariant.sequential here.0;
      vars = vars_next ts c.loop-k.k f (members names vars) (members names part) (members names c.union-vars.result) c.at.ensures c.loop-k.invariant.vars here.1
          (members_either names vars part c.union-vars.result c.union-vars.ensures);
      twice = twice_next ts c.loop-k.k f (members names vars) (members names part) (members names c.loop-k.twice) (members names c.meet.result) (members names c.union-twice.result) c.at.ensures
          c.loop-k.invariant.vars here.1 c.loop-k.invariant.twice (members_both names vars part c.meet.result c.requires.ascending c.meet.ensures)
          (members_either names c.loop-k.twice c.meet.result c.union-twice.result c.union-twice.ensures);
    }

pub check_parts-returns-in-Some : goal.check_parts-returns-in-Some
check_parts-returns-in-Some t c =
    cat_done_fault (trees_of c.args.parts.now) c.loop-k.k c.in-Some.var (members c.args.names.now c.loop-k.twice)
    (omega (arith, c.len-k-end.ensures, c.loop-k-test.false)) c.loop-k.invariant.sequential
    c.loop-k.invariant.twice c.in-Some.ensures

pub check_parts-returns-in-None : goal.check_parts-returns-in-None
check_parts-returns-in-None t c =
    cat_done (trees_of c.args.parts.now) c.loop-k.k (members c.args.names.now c.loop-k.vars) (members c.args.names.now c.loop-k.twice)
    (omega (arith, c.len-k-end.ensures, c.loop-k-test.false)) c.loop-k.invariant.sequential
    c.loop-k.invariant.vars c.loop-k.invariant.twice c.in-None.ensures

pub check_among-returns-in-Empty : goal.check_among-returns-in-Empty
check_among-returns-in-Empty t c =
    let set = members c.args.names.now c.empty.result in
    let none = members_none c.args.names.now c.empty.result c.empty.ensures in
    elim c.in-Empty.is [
      | inl e ↦ rw (ap tree_of e ∙ tree_of-Empty) (tt, λ x. (none x, λ h. absurd h))
      | inr p ↦ rw (ap tree_of p.1 ∙ tree_of-One p.0) (tt, λ x. (none x, λ h. absurd h))
    ]
