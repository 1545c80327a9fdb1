use Rattle.std.proofs.Common.{◌≡◌, ◌<◌, length, get_or, sym, ap, ◌∙◌, subst, arith, inl}
use Rattle.std.specs.Option.{option_map}
use Rattle.std.proofs.lemmas.Option.{slice_get-get_or, slice_get-map}
use Rattle.span_core.proofs.HasLaws.{Has-slice_get}
use Rattle.spanner_model.specs.Sound.{NameIn}
use Rattle.spanner_model.specs.Expression.{ExprTree, minus, join_all}
use Rattle.spanner_model.specs.ExprView.{expr_of, exprs_of}
use Rattle.spanner_model.proofs.Nodes.{expr_nodes}
use Rattle.spanner_model.proofs.ExprLaws.{part_size, union_size}
use Rattle.spanner_model.proofs.ExprTrees.{expr_of-Union, expr_of-Join, expr_of-Minus, expr_of-Named}
use Rattle.functional_check.proofs.NumberedLaws.{members_none, members_either, members_both}
use Rattle.query_parser.specs.declared.check.Bound.{Bound}
use Rattle.query_parser.specs.Formed.{IsFormed}
use Rattle.query_parser.specs.Bounds.{bound_in, bounds_in, IsBoundOf, vars_known, sure_known, Checked}
use Rattle.query_parser.specs.TreeFaults.{Passes}
use Rattle.query_parser.proofs.CheckLaws.{union_inner, join_inner, pass_next, union_begin, union_next, union_done, clash_next, join_begin, join_next, join_done_fault, join_done, minus_done, checked_err}
use Rattle.query_parser.proofs.ReachLaws.{union_formed, join_formed, names_united, part_named, parts_sure}
use Rattle.query_parser.proofs.KnownLaws.{named_bound}
use Rattle.query_parser.proofs.check.+check.Goals as goal

pub check_expr-check_union-requires : goal.check_expr-check_union-requires
check_expr-check_union-requires t c =
    let es = exprs_of c.in-Union.parts in
    let n = length c.args.known.now in
    let e = ap expr_of c.in-Union.is ∙ expr_of-Union c.in-Union.parts in
    let f = union_formed n es (subst (IsFormed n) e c.requires.formed) in (
      omega (arith, ap expr_nodes e, union_size es),
      (f.1, (f.0, (c.requires.ascending, ((λ x n. c.requires.named x (rw e (names_united es x n))), c.requires.among)))),
    )

pub check_expr-check_join-requires : goal.check_expr-check_join-requires
check_expr-check_join-requires t c =
    let es = exprs_of c.in-Join.parts in
    let n = length c.args.known.now in
    let e = ap expr_of c.in-Join.is ∙ expr_of-Join c.in-Join.parts in (
      omega (arith, ap expr_nodes e),
      (join_formed n es (subst (IsFormed n) e c.requires.formed), (c.requires.ascending, ((λ x n. c.requires.named x (rw e n)), c.requires.among))),
    )

pub check_expr-returns-in-Named : goal.check_expr-returns-in-Named
check_expr-returns-in-Named t c =
    let names = c.args.names.now in
    let known = c.args.known.now in
    let V = vars_known (bounds_in names known) in
    let S = sure_known (bounds_in names known) in
    let k = c.in-Named.k in
    let none : Bound = record { vars = record { bits = 0 }; sure = record { bits = 0 } } in
    let b = get_or known k none in
    let is = ap expr_of c.in-Named.is ∙ expr_of-Named k in
    let within : k < length known = subst (IsFormed (length known)) is c.requires.formed in
    let at = slice_get-map (bound_in names) known k ∙ ap (option_map (bound_in names)) (slice_get-get_or known k none within) in
    rw is (tt, named_bound (bounds_in names known) k (bound_in names b) at)

pub check_join-check_expr-requires : goal.check_join-check_expr-requires
check_join-check_expr-requires t c =
    let es = exprs_of c.args.parts.now in
    let e = expr_of c.at.result.now in
    let has = Has-slice_get es c.loop-k.k e c.at.ensures in
    (omega (arith, part_size es e has), (c.requires.formed e has, (c.requires.ascending, (part_named c.args.names.now es e has c.requires.named, c.requires.among))))

pub check_join-returns-in_err-part : goal.check_join-returns-in_err-part
check_join-returns-in_err-part t c =
    let known = bounds_in c.args.names.now c.args.known.now in
    let V = vars_known known in
    let S = sure_known known in
    let es = exprs_of c.args.parts.now in
    let f = c.in_err-part.field-0.0 in
    checked_err V S c.args.names.now (join_all es) c.from_residual.result f c.from_residual.ensures.1
    (inl (join_inner V S es c.loop-k.k (expr_of c.at.result.now) f c.at.ensures c.loop-k.invariant.passed c.in_err-part.ensures))

pub check_join-loop-k-init : goal.check_join-loop-k-init
check_join-loop-k-init t c =
    let names = c.args.names.now in
    let known = bounds_in names c.args.known.now in
    let none = c.none-bound.result in
    record {
      passed = λ e h. absurd h;
      bound = join_begin (vars_known known) (sure_known known) (exprs_of c.args.parts.now) (bound_in names none) (members_none names none.vars c.none-bound.ensures.vars)
          (members_none names none.sure c.none-bound.ensures.sure);
      first = tt;
    }

pub check_join-loop-k-preserved : goal.check_join-loop-k-preserved
check_join-loop-k-preserved t c =
    let names = c.args.names.now in
    let known = bounds_in names c.args.known.now in
    let V = vars_known known in
    let S = sure_known known in
    let es = exprs_of c.args.parts.now in
    let e = expr_of c.at.result.now in
    let old = c.loop-k.bound in
    let part = c.in_ok-part.part in
    let new = c.join-bound.result in
    let here = c.in_ok-part.ensures in
    record {
      passed = pass_next V S es c.loop-k.k e c.at.ensures c.loop-k.invariant.passed here.0;
      bound = join_next V S es c.loop-k.k e (bound_in names old) (bound_in names part) (bound_in names new) c.at.ensures c.loop-k.invariant.bound here.1
          (members_either names old.vars part.vars new.vars c.join-bound.ensures.vars) (members_either names old.sure part.sure new.sure c.join-bound.ensures.sure);
      first = clash_next V S es c.loop-k.k e (bound_in names old) (bound_in names part) c.loop-k.clash c.first_clash-clash.result c.at.ensures
          (parts_sure known (length c.args.known.now) es c.loop-k.k c.requires.among c.requires.formed) c.loop-k.invariant.bound here.1 c.loop-k.invariant.first
          c.first_clash-clash.ensures.before c.first_clash-clash.ensures.here;
    }

pub check_join-returns-in-Some : goal.check_join-returns-in-Some
check_join-returns-in-Some t c =
    let known = bounds_in c.args.names.now c.args.known.now in
    join_done_fault (vars_known known) (sure_known known) (exprs_of c.args.parts.now) c.loop-k.k c.in-Some.var c.loop-k.clash (omega (arith, c.len-k-end.ensures, c.loop-k-test.false))
    c.loop-k.invariant.passed c.loop-k.invariant.first c.in-Some.is

pub check_join-returns-in-None : goal.check_join-returns-in-None
check_join-returns-in-None t c =
    let known = bounds_in c.args.names.now c.args.known.now in
    join_done (vars_known known) (sure_known known) (exprs_of c.args.parts.now) c.loop-k.k (bound_in c.args.names.now c.loop-k.bound) c.loop-k.clash
    (omega (arith, c.len-k-end.ensures, c.loop-k-test.false)) c.loop-k.invariant.passed c.loop-k.invariant.first c.in-None.is c.loop-k.invariant.bound

pub check_union-check_expr-requires : goal.check_union-check_expr-requires
check_union-check_expr-requires t c =
    let es = exprs_of c.args.parts.now in
    let e = expr_of c.at.result.now in
    let has = Has-slice_get es 0 e c.at.ensures in
    (omega (arith, part_size es e has), (c.requires.formed e has, (c.requires.ascending, (part_named c.args.names.now es e has c.requires.named, c.requires.among))))

pub check_union-returns-in-Err : goal.check_union-returns-in-Err
check_union-returns-in-Err t c =
    let known = bounds_in c.args.names.now c.args.known.now in
    inl (union_inner (vars_known known) (sure_known known) (exprs_of c.args.parts.now) 0 (expr_of c.at.result.now) c.in-Err.fault c.at.ensures (λ u h. absurd h) c.in-Err.ensures)

pub check_union-loop-k-init : goal.check_union-loop-k-init
check_union-loop-k-init t c =
    let known = bounds_in c.args.names.now c.args.known.now in
    let here = c.in-Ok.ensures in
    let first = union_begin (vars_known known) (sure_known known) (exprs_of c.args.parts.now) (expr_of c.at.result.now) (bound_in c.args.names.now c.in-Ok.bound) c.at.ensures here.0 here.1 in
    record { passed = first.0; bound = first.1 }

pub check_union-check_expr-requires-in-loop-k : goal.check_union-check_expr-requires-in-loop-k
check_union-check_expr-requires-in-loop-k t c =
    let es = exprs_of c.args.parts.now in
    let e = expr_of c.at-in-loop-k.result.now in
    let has = Has-slice_get es c.loop-k.k e c.at-in-loop-k.ensures in
    (omega (arith, part_size es e has), (c.requires.formed e has, (c.requires.ascending, (part_named c.args.names.now es e has c.requires.named, c.requires.among))))

pub check_union-returns-in-Err-check_expr : goal.check_union-returns-in-Err-check_expr
check_union-returns-in-Err-check_expr t c =
    let known = bounds_in c.args.names.now c.args.known.now in
    inl (union_inner (vars_known known) (sure_known known) (exprs_of c.args.parts.now) c.loop-k.k (expr_of c.at-in-loop-k.result.now) c.in-Err-check_expr.fault c.at-in-loop-k.ensures
    c.loop-k.invariant.passed c.in-Err-check_expr.ensures)

pub check_union-loop-k-preserved : goal.check_union-loop-k-preserved
check_union-loop-k-preserved t c =
    let names = c.args.names.now in
    let known = bounds_in names c.args.known.now in
    let V = vars_known known in
    let S = sure_known known in
    let es = exprs_of c.args.parts.now in
    let e = expr_of c.at-in-loop-k.result.now in
    let old = c.loop-k.bound in
    let part = c.in-Ok-check_expr.part in
    let new = c.unite-bound.result in
    let here = c.in-Ok-check_expr.ensures in
    record {
      passed = pass_next V S es c.loop-k.k e c.at-in-loop-k.ensures c.loop-k.invariant.passed here.0;
      bound = union_next V S es c.loop-k.k e (bound_in names old) (bound_in names part) (bound_in names new) c.at-in-loop-k.ensures c.loop-k.invariant.bound here.1
          (members_either names old.vars part.vars new.vars c.unite-bound.ensures.vars) (members_both names old.sure part.sure new.sure c.requires.ascending c.unite-bound.ensures.sure);
    }

pub check_union-returns : goal.check_union-returns
check_union-returns t c =
    let known = bounds_in c.args.names.now c.args.known.now in
    union_done (vars_known known) (sure_known known) (exprs_of c.args.parts.now) c.loop-k.k (bound_in c.args.names.now c.loop-k.bound) (omega (arith, c.len-k-end.ensures, c.loop-k-test.false))
    c.loop-k.invariant.passed c.loop-k.invariant.bound

pub check_expr-returns-in_ok-other-in-Minus : goal.check_expr-returns-in_ok-other-in-Minus
check_expr-returns-in_ok-other-in-Minus t c =
    let names = c.args.names.now in
    let known = bounds_in names c.args.known.now in
    let V = vars_known known in
    let S = sure_known known in
    let e = expr_of c.deref-in-Minus.result.now in
    let g = expr_of c.deref-in-Minus-2.result.now in
    let left = c.in_ok-bound-in-Minus.ensures in
    let right = c.in_ok-other-in-Minus.ensures in
    let is : expr_of c.args.expr.now ≡ minus e g =
    ap expr_of c.in-Minus.is ∙ (expr_of-Minus c.in-Minus.left c.in-Minus.right ∙ (λ i. minus (expr_of (sym c.deref-in-Minus.ensures i)) (expr_of (sym c.deref-in-Minus-2.ensures i)))) in
    rw is
    (minus_done V S names e g c.in_ok-bound-in-Minus.bound c.in_ok-other-in-Minus.other c.differing.result left.0 left.1 right.0 right.1 c.differing.ensures)
