use Rattle.std.proofs.Common.{◌≡◌, ◌↔◌, length, take, inl, refl, sym, ap, ◌∙◌, subst, arith}
use Rattle.std.proofs.Math.Seq.{take-length}
use Rattle.std.specs.Prelude.{IsTrue}
use Rattle.std.proofs.lemmas.Bool.{false≢true}
use Rattle.spanner_model.specs.Tree.{Tree, cat_all, rep}
use Rattle.spanner_model.specs.View.{tree_of, trees_of}
use Rattle.span_core.proofs.HasLaws.{Has-slice_get}
use Rattle.spanner_model.proofs.NodeParts.{has_parts}
use Rattle.spanner_model.proofs.TreeLaws.{part_nodes}
use Rattle.spanner_model.proofs.Trees.{tree_of-Rep, tree_of-Cap}
use Rattle.spanner_model.specs.Sequential.{HasNoVar}
use Rattle.plain_spanner.proofs.BareLaws.{bare_same, bare_part, bare_more}
use Rattle.plain_spanner.proofs.bare.+bare.Goals as goal

pub is_bare-are_bare-requires : goal.is_bare-are_bare-requires
is_bare-are_bare-requires t c =
    let p = has_parts c.args.formula.now c.in-Cat.parts c.in-Cat.is in omega (arith, p.size)

pub is_bare-returns-in-Cat : goal.is_bare-returns-in-Cat
is_bare-returns-in-Cat t c =
    let p = has_parts c.args.formula.now c.in-Cat.parts c.in-Cat.is in
    let s = bare_same (tree_of c.args.formula.now) (cat_all (trees_of c.in-Cat.parts)) p.vars in
    (λ r. s.0 (c.are_bare.ensures.0 r), λ b. c.are_bare.ensures.1 (s.1 b))

pub is_bare-returns-in-Rep : goal.is_bare-returns-in-Rep
is_bare-returns-in-Rep t c =
    let e = ap tree_of c.in-Rep.is ∙ tree_of-Rep c.in-Rep.sub c.in-Rep.field-1 c.in-Rep.field-2 ∙ ap (λ x. rep (tree_of x) c.in-Rep.field-1 c.in-Rep.field-2) (sym c.deref.ensures) in
    rw e c.is_bare.ensures

pub is_bare-returns-in-Cap : goal.is_bare-returns-in-Cap
is_bare-returns-in-Cap t c =
    let e = ap tree_of c.in-Cap.is ∙ tree_of-Cap c.in-Cap.field-0 c.in-Cap.field-1 in
    (λ r. absurd (false≢true r), λ b. absurd (subst HasNoVar e b c.in-Cap.field-0 (inl refl)))

pub are_bare-is_bare-requires : goal.are_bare-is_bare-requires
are_bare-is_bare-requires t c =
    let has = Has-slice_get (trees_of c.args.parts.now) c.loop-k.k (tree_of c.at.result.now) c.at.ensures in
    omega (arith, part_nodes (trees_of c.args.parts.now) (tree_of c.at.result.now) has)

pub are_bare-returns-then-not-is_bare : goal.are_bare-returns-then-not-is_bare
are_bare-returns-then-not-is_bare t c =
    let ts = trees_of c.args.parts.now in
    let has = Has-slice_get ts c.loop-k.k (tree_of c.at.result.now) c.at.ensures in
    (λ r. absurd (false≢true r), λ b. absurd (false≢true (sym c.if-not-is_bare.true ∙ c.is_bare.ensures.1 (bare_part ts (tree_of c.at.result.now) has b))))

pub are_bare-loop-k-preserved : goal.are_bare-loop-k-preserved
are_bare-loop-k-preserved t c =
    bare_more (trees_of c.args.parts.now) c.loop-k.k (tree_of c.at.result.now) c.at.ensures c.loop-k.invariant (c.is_bare.ensures.0 c.if-not-is_bare.false)

pub are_bare-returns : goal.are_bare-returns
are_bare-returns t c =
    let ts = trees_of c.args.parts.now in
    let e : c.loop-k.k ≡ length ts = omega arith in
    (λ r. rw (← (ap (λ n. take n ts) e ∙ take-length ts)) c.loop-k.invariant, λ b. refl)
