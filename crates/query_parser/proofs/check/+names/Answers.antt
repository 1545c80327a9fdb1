use Rattle.std.proofs.Common.{ap, ◌∙◌, subst, arith, ◌↔◌}
use Rattle.spanner_model.specs.Expression.{join_all}
use Rattle.spanner_model.specs.ExprView.{expr_of, exprs_of}
use Rattle.spanner_model.specs.Sound.{NameIn}
use Rattle.span_core.proofs.HasLaws.{Has-slice_get}
use Rattle.spanner_model.proofs.Nodes.{expr_nodes}
use Rattle.spanner_model.proofs.ExprLaws.{part_size, union_size}
use Rattle.spanner_model.proofs.ExprTrees.{expr_of-Union, expr_of-Join}
use Rattle.spanner_model.proofs.GatheredLaws.{gathered_same, gathered_next, gathered_no_more}
use Rattle.query_parser.specs.Formed.{IsFormed}
use Rattle.query_parser.proofs.ReachLaws.{union_formed, join_formed, name_of_union, name_in_turn}
use Rattle.query_parser.proofs.check.+names.Goals as goal

pub gather_names-gather_parts-requires : goal.gather_names-gather_parts-requires
gather_names-gather_parts-requires t c =
    let es = exprs_of c.in-Union.parts in
    let e = ap expr_of c.in-Union.is ∙ expr_of-Union c.in-Union.parts in
    let f = union_formed c.requires.0 es (subst (IsFormed c.requires.0) e c.requires.1) in
    (omega (arith, ap expr_nodes e, union_size es), λ g h. (c.requires.0, f.0 g h))

pub gather_names-gather_parts-requires-in-Join : goal.gather_names-gather_parts-requires-in-Join
gather_names-gather_parts-requires-in-Join t c =
    let es = exprs_of c.in-Join.parts in
    let e = ap expr_of c.in-Join.is ∙ expr_of-Join c.in-Join.parts in
    (omega (arith, ap expr_nodes e), λ g h. (c.requires.0, join_formed c.requires.0 es (subst (IsFormed c.requires.0) e c.requires.1) g h))

pub gather_names-returns-in-Union : goal.gather_names-returns-in-Union
gather_names-returns-in-Union t c =
    let es = exprs_of c.in-Union.parts in
    let e = ap expr_of c.in-Union.is ∙ expr_of-Union c.in-Union.parts in
    gathered_same c.args.into.now c.gather_parts.new.into (NameIn (join_all es)) (NameIn (expr_of c.args.expr.now)) c.gather_parts.result
    (λ x. rw e (name_of_union es x)) c.gather_parts.ensures

pub gather_parts-gather_names-requires : goal.gather_parts-gather_names-requires
gather_parts-gather_names-requires t c =
    let es = exprs_of c.args.parts.now in
    let e = expr_of c.at.result.now in
    let has = Has-slice_get es c.loop-k.k e c.at.ensures in
    (omega (arith, part_size es e has), c.requires e has)

pub gather_parts-returns-then-not-gather_names : goal.gather_parts-returns-then-not-gather_names
gather_parts-returns-then-not-gather_names t c =
    gathered_no_more NameIn (λ es. NameIn (join_all es)) name_in_turn (exprs_of c.args.parts.now) c.loop-k.k (expr_of c.at.result.now) c.args.into.now c.loop-k.into c.gather_names.new.into
    c.at.ensures c.loop-k.invariant c.if-not-gather_names.ensures

pub gather_parts-loop-k-preserved : goal.gather_parts-loop-k-preserved
gather_parts-loop-k-preserved t c =
    gathered_next NameIn (λ es. NameIn (join_all es)) name_in_turn (exprs_of c.args.parts.now) c.loop-k.k (expr_of c.at.result.now) c.args.into.now c.loop-k.into c.gather_names.new.into
    c.at.ensures c.loop-k.invariant c.if-not-gather_names.ensures
