use Rattle.std.proofs.Common.{◌≡◌, ◌↔◌, true, false, List, [], take, inl, inr, refl, sym, ◌∙◌, subst, arith}
use Rattle.std.proofs.lemmas.List.{take_all}
use Rattle.span_core.specs.Lists.{Has}
use Rattle.span_core.proofs.HasLaws.{Has-slice_get}
use Rattle.spanner_model.specs.Captures.{VarName}
use Rattle.spanner_model.specs.Gathered.{Adds}
use Rattle.spanner_model.proofs.GatheredLaws.{gathered_next, gathered_same, names_in_turn}
use Rattle.functional_check.specs.Numbered.{members}
use Rattle.functional_check.proofs.LeastLaws.{least_at}
use Rattle.functional_check.proofs.NumberedLaws.{members_nothing, members_within, members_either, members_both}
use Rattle.functional_check.proofs.SureLaws.{names_more, own_name}
use Rattle.query_parser.proofs.check.projected.Goals as goal

pub loop-k-init : goal.loop-k-init
loop-k-init c = record {
  vars = members_nothing c.args.names.now c.empty-vars.result (Has []) c.empty-vars.ensures (λ x h. h);
  known = λ x h. absurd h;
}

pub loop-k-preserved : goal.loop-k-preserved
loop-k-preserved c =
    let names = c.args.names.now in
    let keep = c.args.keep.now in
    let bound = members names c.args.bound.vars in
    let name = c.at-name.result.now in
    let at = c.at-name.ensures.value in
    let vars = c.loop-k.vars in
    let new = c.union-vars.result in
    let here : Has bound name = c.has.ensures.0 c.if-not-has.false in
    let own = own_name names (members names c.of.result) name c.of.ensures (members_within names c.args.bound.vars name here) in
    let more = gathered_same (members names vars) (members names new) (Has (members names c.of.result)) (λ (x : VarName). name ≡ x) true own
    (members_either names vars c.of.result new c.union-vars.ensures) in
    record {
      vars = gathered_next (λ (y : VarName) (x : VarName). y ≡ x) Has names_in_turn keep c.loop-k.k name [] (members names vars) (members names new) at c.loop-k.invariant.vars more;
      known = λ x h. elim ((names_more keep c.loop-k.k name x at).0 h) as (λ _. Has bound x) [ inl o ↦ c.loop-k.invariant.known x o | inr e ↦ subst (Has bound) e here ];
    }

pub returns-then-not-has : goal.returns-then-not-has
returns-then-not-has c =
    let keep = c.args.keep.now in
    let bound = members c.args.names.now c.args.bound.vars in
    let name = c.at-name.result.now in
    let at = c.at-name.ensures.value in
    let absent : Has bound name → ⊥ = λ h. let t : false ≡ true = sym c.if-not-has.true ∙ c.has.ensures.1 h in absurd (cc) in (
      name,
      least_at keep c.loop-k.k name (λ (y : VarName). Has bound y → ⊥) c.len-k-end.ensures.ascending at (Has-slice_get keep c.loop-k.k name at) absent (λ x h n. n (c.loop-k.invariant.known x h)),
      refl,
    )

pub returns : goal.returns
returns c =
    let names = c.args.names.now in
    let keep = c.args.keep.now in
    let vars = members names c.loop-k.vars in
    let all : take c.loop-k.k keep ≡ keep = take_all c.loop-k.k keep (omega (arith, c.len-k-end.ensures.value, c.loop-k-test.false)) in
    let are : (x : VarName) → Has vars x ↔ Has keep x = λ x.
    let added = rw all at c.loop-k.invariant.vars x in
    (λ h. elim (added.0 h) as (λ _. Has keep x) [ inl n ↦ absurd n | inr g ↦ g ], λ h. added.1 (inr h)) in
    let sure = members_both names c.loop-k.vars c.args.bound.sure c.meet.result c.requires c.meet.ensures in (
      are,
      λ x. (λ h. let p = (sure x).0 h in ((are x).0 p.0, p.1), λ h. (sure x).1 ((are x).1 h.0, h.1)),
      λ x h. c.loop-k.invariant.known x (rw all h),
    )
