use Rattle.std.proofs.Common.{length, arith}
use Rattle.span_core.specs.Lists.{Has}
use Rattle.spanner_model.specs.Expression.{join_all}
use Rattle.spanner_model.specs.ExprView.{expr_of, exprs_of}
use Rattle.spanner_model.specs.Answer.{VarOf}
use Rattle.spanner_model.specs.Gathered.{vars_in}
use Rattle.span_core.proofs.HasLaws.{Has-slice_get}
use Rattle.spanner_model.proofs.ExprLaws.{part_size}
use Rattle.spanner_model.proofs.NodeExprs.{has_exprs, named_vars}
use Rattle.spanner_model.proofs.GatheredLaws.{gathered_same, gathered_next, gathered_no_more, exprs_in_turn}
use Rattle.spanner_model.proofs.gathering.+expressions.Goals as goal

pub gather_expr-gather_exprs-requires : goal.gather_expr-gather_exprs-requires
gather_expr-gather_exprs-requires t c =
    let p = has_exprs (vars_in c.args.known.now) (length c.args.known.now) c.args.expr.now c.in-Union.parts c.in-Union.is in
    (omega (arith, p.size), p.under c.requires)

pub gather_expr-returns-in-Named : goal.gather_expr-returns-in-Named
gather_expr-returns-in-Named t c =
    gathered_same c.args.into.now c.gather_all.new.into (Has c.index-known-k.result) (VarOf (vars_in c.args.known.now) (expr_of c.args.expr.now)) c.gather_all.result
    (named_vars c.args.known.now c.args.expr.now c.in-Named.k c.index-known-k.result c.in-Named.is c.requires c.index-known-k.is) c.gather_all.ensures

pub gather_expr-returns-in-Union : goal.gather_expr-returns-in-Union
gather_expr-returns-in-Union t c =
    let V = vars_in c.args.known.now in
    let p = has_exprs V (length c.args.known.now) c.args.expr.now c.in-Union.parts c.in-Union.is in
    gathered_same c.args.into.now c.gather_exprs.new.into (VarOf V (join_all (exprs_of c.in-Union.parts))) (VarOf V (expr_of c.args.expr.now)) c.gather_exprs.result p.vars c.gather_exprs.ensures

pub gather_exprs-gather_expr-requires : goal.gather_exprs-gather_expr-requires
gather_exprs-gather_expr-requires t c =
    let es = exprs_of c.args.parts.now in
    let has = Has-slice_get es c.loop-k.k (expr_of c.at.result.now) c.at.ensures in
    (omega (arith, part_size es (expr_of c.at.result.now) has), c.requires (expr_of c.at.result.now) has)

pub gather_exprs-returns-then-not-gather_expr : goal.gather_exprs-returns-then-not-gather_expr
gather_exprs-returns-then-not-gather_expr t c =
    let V = vars_in c.args.known.now in
    gathered_no_more (VarOf V) (λ es. VarOf V (join_all es)) (exprs_in_turn V) (exprs_of c.args.parts.now) c.loop-k.k (expr_of c.at.result.now) c.args.into.now c.loop-k.into c.gather_expr.new.into
    c.at.ensures c.loop-k.invariant c.if-not-gather_expr.ensures

pub gather_exprs-loop-k-preserved : goal.gather_exprs-loop-k-preserved
gather_exprs-loop-k-preserved t c =
    let V = vars_in c.args.known.now in
    gathered_next (VarOf V) (λ es. VarOf V (join_all es)) (exprs_in_turn V) (exprs_of c.args.parts.now) c.loop-k.k (expr_of c.at.result.now) c.args.into.now c.loop-k.into c.gather_expr.new.into
    c.at.ensures c.loop-k.invariant c.if-not-gather_expr.ensures
