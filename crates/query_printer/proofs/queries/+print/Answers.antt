use Rattle.std.proofs.Common.{[], ◌∷◌, length, map, ap, subst, ◌∙◌, arith}
use Rattle.std.specs.Prelude.{codes}
use Rattle.spanner_model.specs.ExprView.{expr_of, exprs_of, lets_of}
use Rattle.span_core.proofs.HasLaws.{Has-slice_get}
use Rattle.span_core.proofs.ListLaws.{prefix_then}
use Rattle.spanner_model.proofs.Nodes.{expr_nodes}
use Rattle.spanner_model.proofs.ExprLaws.{part_size, union_size}
use Rattle.spanner_model.proofs.ExprTrees.{expr_of-Union, expr_of-Join}
use Rattle.query_parser.specs.Spells.{names_of}
use Rattle.query_parser.specs.Formed.{IsFormed}
use Rattle.query_printer.specs.PrintedQuery.{wraps_in_union, wraps_in_join, keep_text, printed}
use Rattle.query_parser.proofs.ReachLaws.{union_formed, join_formed}
use Rattle.query_printer.proofs.PrintedParts.{conj_text, unit_text, conj_put, unit_put, text_at, texts_put, union_done, join_done, five_on}
use Rattle.query_printer.proofs.queries.+print.Goals as goal

pub push_expr-push_union-requires : goal.push_expr-push_union-requires
push_expr-push_union-requires t c =
    let es = exprs_of c.in-Union.parts in
    let n = length (lets_of c.args.lets.now) in
    let e = ap expr_of c.in-Union.is ∙ expr_of-Union c.in-Union.parts in
    let f = union_formed n es (subst (IsFormed n) e c.requires) in
    (omega (arith, ap expr_nodes e, union_size es), f.0)

pub push_expr-push_join-requires : goal.push_expr-push_join-requires
push_expr-push_join-requires t c =
    let es = exprs_of c.in-Join.parts in
    let n = length (lets_of c.args.lets.now) in
    let e = ap expr_of c.in-Join.is ∙ expr_of-Join c.in-Join.parts in
    (omega (arith, ap expr_nodes e), join_formed n es (subst (IsFormed n) e c.requires))

pub push_union-push_wrapped-requires : goal.push_union-push_wrapped-requires
push_union-push_wrapped-requires t c =
    let es = exprs_of c.args.parts.now in
    let e = expr_of c.at-part.result.now in
    let has = Has-slice_get es c.loop-k.k e c.at-part.ensures in
    (omega (arith, part_size es e has), c.requires e has)

pub push_join-push_wrapped-requires : goal.push_join-push_wrapped-requires
push_join-push_wrapped-requires t c =
    let es = exprs_of c.args.parts.now in
    let e = expr_of c.at-part.result.now in
    let has = Has-slice_get es c.loop-k.k e c.at-part.ensures in
    (omega (arith, part_size es e has), c.requires e has)

pub push_union-returns-in_err-push_wrapped-clause-front : goal.push_union-returns-in_err-push_wrapped-clause-front
push_union-returns-in_err-push_wrapped-clause-front t c =
    prefix_then _ _ _ (prefix_then _ _ _ c.loop-k.invariant.front c.in_ok-push_given.ensures.front) c.in_err-push_wrapped.ensures.front

pub push_join-returns-in_err-push_wrapped-clause-front : goal.push_join-returns-in_err-push_wrapped-clause-front
push_join-returns-in_err-push_wrapped-clause-front t c =
    prefix_then _ _ _ (prefix_then _ _ _ c.loop-k.invariant.front c.in_ok-push_given.ensures.front) c.in_err-push_wrapped.ensures.front

pub push_union-loop-k-preserved : goal.push_union-loop-k-preserved
push_union-loop-k-preserved t c =
    let es = exprs_of c.args.parts.now in
    let e = expr_of c.at-part.result.now in
    let names = names_of (lets_of c.args.lets.now) in
    let w = c.wraps_in_union.ensures ∙ ap wraps_in_union c.of.ensures in
    record {
      printed = texts_put c.loop-k.out.items (codes " union ") (map (conj_text names) es) c.loop-k.k (conj_text names e) c.push_given.new.out.items c.push_wrapped.new.out.items _
          (text_at (conj_text names) es c.loop-k.k e c.at-part.ensures) c.in_ok-push_given.ensures.ok
          (conj_put names e c.wraps_in_union.result c.push_given.new.out.items c.push_wrapped.new.out.items w c.in_ok-push_wrapped.ensures.ok) c.loop-k.invariant.printed;
      front = prefix_then _ _ _ (prefix_then _ _ _ c.loop-k.invariant.front c.in_ok-push_given.ensures.front) c.in_ok-push_wrapped.ensures.front;
    }

pub push_join-loop-k-preserved : goal.push_join-loop-k-preserved
push_join-loop-k-preserved t c =
    let es = exprs_of c.args.parts.now in
    let e = expr_of c.at-part.result.now in
    let names = names_of (lets_of c.args.lets.now) in
    let w = c.wraps_in_join.ensures ∙ ap wraps_in_join c.of.ensures in
    record {
      printed = texts_put c.loop-k.out.items (codes " join ") (map (unit_text names) es) c.loop-k.k (unit_text names e) c.push_given.new.out.items c.push_wrapped.new.out.items _
          (text_at (unit_text names) es c.loop-k.k e c.at-part.ensures) c.in_ok-push_given.ensures.ok
          (unit_put names e c.wraps_in_join.result c.push_given.new.out.items c.push_wrapped.new.out.items w c.in_ok-push_wrapped.ensures.ok) c.loop-k.invariant.printed;
      front = prefix_then _ _ _ (prefix_then _ _ _ c.loop-k.invariant.front c.in_ok-push_given.ensures.front) c.in_ok-push_wrapped.ensures.front;
    }

pub push_union-returns-clause-ok : goal.push_union-returns-clause-ok
push_union-returns-clause-ok t c =
    union_done (names_of (lets_of c.args.lets.now)) (exprs_of c.args.parts.now) c.args.out.now.items c.loop-k.out.items c.loop-k.k (omega (arith, c.loop-k-test.false, c.len-k-end.ensures))
    c.loop-k.invariant.printed

pub push_join-returns-clause-ok : goal.push_join-returns-clause-ok
push_join-returns-clause-ok t c =
    join_done (names_of (lets_of c.args.lets.now)) (exprs_of c.args.parts.now) c.args.out.now.items c.loop-k.out.items c.loop-k.k (omega (arith, c.loop-k-test.false, c.len-k-end.ensures))
    c.loop-k.invariant.printed

pub push_projection-returns-clause-ok : goal.push_projection-returns-clause-ok
push_projection-returns-clause-ok t c =
    five_on c.push_bytes-3.result c.args.out.now.items (codes "project ") (keep_text c.args.names.now) (codes " (") (printed (names_of (lets_of c.args.lets.now)) (expr_of c.args.sub.now)) (41 ∷ [])
    c.push_bytes.new.out.items c.push_keep.new.out.items c.push_bytes-2.new.out.items c.push_expr.new.out.items c.push_bytes-3.new.out.items c.in_ok-push_bytes.ensures.ok c.in_ok-push_keep.ensures.ok
    c.in_ok-push_bytes-2.ensures.ok c.in_ok-push_expr.ensures.ok c.push_bytes-3.ensures.ok
