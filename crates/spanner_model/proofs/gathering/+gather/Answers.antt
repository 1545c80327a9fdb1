use Rattle.std.proofs.Common.{arith}
use Rattle.spanner_model.specs.Tree.{cat_all}
use Rattle.spanner_model.specs.View.{tree_of, trees_of}
use Rattle.spanner_model.specs.Sequential.{HasVar}
use Rattle.span_core.proofs.HasLaws.{Has-slice_get}
use Rattle.spanner_model.proofs.GatheredLaws.{gathered_same, gathered_next, gathered_no_more, parts_in_turn}
use Rattle.spanner_model.proofs.NodeParts.{has_parts}
use Rattle.spanner_model.proofs.TreeLaws.{part_nodes}
use Rattle.spanner_model.proofs.gathering.+gather.Goals as goal

pub gather_formula-gather_parts-requires : goal.gather_formula-gather_parts-requires
gather_formula-gather_parts-requires t c =
    let p = has_parts c.args.formula.now c.in-Cat.parts c.in-Cat.is in
    (omega (arith, p.size), p.built c.requires)

pub gather_formula-returns-in-Cat : goal.gather_formula-returns-in-Cat
gather_formula-returns-in-Cat t c =
    let p = has_parts c.args.formula.now c.in-Cat.parts c.in-Cat.is in
    gathered_same c.args.into.now c.gather_parts.new.into (HasVar (cat_all (trees_of c.in-Cat.parts))) (HasVar (tree_of c.args.formula.now)) c.gather_parts.result p.vars c.gather_parts.ensures

pub gather_parts-gather_formula-requires : goal.gather_parts-gather_formula-requires
gather_parts-gather_formula-requires t c =
    let has = Has-slice_get (trees_of c.args.parts.now) c.loop-k.k (tree_of c.at.result.now) c.at.ensures in
    (omega (arith, part_nodes (trees_of c.args.parts.now) (tree_of c.at.result.now) has), c.requires (tree_of c.at.result.now) has)

pub gather_parts-returns-then-not-gather_formula : goal.gather_parts-returns-then-not-gather_formula
gather_parts-returns-then-not-gather_formula t c =
    gathered_no_more HasVar (λ ts. HasVar (cat_all ts)) parts_in_turn (trees_of c.args.parts.now) c.loop-k.k (tree_of c.at.result.now) c.args.into.now
    c.loop-k.into c.gather_formula.new.into c.at.ensures c.loop-k.invariant c.if-not-gather_formula.ensures

pub gather_parts-loop-k-preserved : goal.gather_parts-loop-k-preserved
gather_parts-loop-k-preserved t c =
    gathered_next HasVar (λ ts. HasVar (cat_all ts)) parts_in_turn (trees_of c.args.parts.now) c.loop-k.k (tree_of c.at.result.now) c.args.into.now
    c.loop-k.into c.gather_formula.new.into c.at.ensures c.loop-k.invariant c.if-not-gather_formula.ensures
