-- The equations of `expr_of`, one for each variant, and of `exprs_of`.
use Rattle.std.proofs.Common.{◌≡◌, ℕ, ◌<◌, List, map, length, get_or, Some, Box, Global, sym, ap, ◌∙◌, subst, arith}
use Rattle.std.specs.Prelude.{slice_get}
use Rattle.std.specs.Option.{option_map}
use Rattle.std.proofs.lemmas.List.{length-map}
use Rattle.std.proofs.lemmas.Option.{slice_get-get_or, slice_get-map}
use Rattle.spanner_model.specs.View.{atom_of}
use Rattle.spanner_model.specs.Expression.{ExprTree, atom, named, project, minus, union_all, join_all}
use Rattle.spanner_model.specs.ExprView.{node_expr, part_exprs, expr_of, exprs_of}
use Rattle.spanner_model.specs.declared.formula.Atom as atom_type
use Rattle.spanner_model.specs.declared.expression.Expr.{Expr, Expr-F, fold-roll-Expr}
use Rattle.spanner_model.specs.declared.expression.Exprs.{Exprs, out-Exprs, fold_out-Exprs}
use Rattle.spanner_model.specs.declared.expression.Expr.TheVariants.{Atom, Named, Union, Join, Project, rolls-Atom, rolls-Named, rolls-Union, rolls-Join, rolls-Project, Minus, rolls-Minus}

pub expr_of-Atom : (a : atom_type.Atom) → expr_of (Atom a) ≡ atom (atom_of a)
expr_of-Atom a = ap expr_of (sym (rolls-Atom a)) ∙ fold-roll-Expr ExprTree (List ExprTree) node_expr part_exprs (Expr-F.Atom a)

pub expr_of-Named : (k : ℕ) → expr_of (Named k) ≡ named k
expr_of-Named k = ap expr_of (sym (rolls-Named k)) ∙ fold-roll-Expr ExprTree (List ExprTree) node_expr part_exprs (Expr-F.Named k)

pub expr_of-Union : (parts : Exprs) → expr_of (Union parts) ≡ union_all (exprs_of parts)
expr_of-Union parts = ap expr_of (sym (rolls-Union parts)) ∙ fold-roll-Expr ExprTree (List ExprTree) node_expr part_exprs (Expr-F.Union parts)

pub expr_of-Join : (parts : Exprs) → expr_of (Join parts) ≡ join_all (exprs_of parts)
expr_of-Join parts = ap expr_of (sym (rolls-Join parts)) ∙ fold-roll-Expr ExprTree (List ExprTree) node_expr part_exprs (Expr-F.Join parts)

pub expr_of-Project : (names : List (List ℕ)) (sub : Box Expr Global) → expr_of (Project names sub) ≡ project names (expr_of sub.value)
expr_of-Project names sub =
    ap expr_of (sym (rolls-Project names sub)) ∙ fold-roll-Expr ExprTree (List ExprTree) node_expr part_exprs (Expr-F.Project names sub)

pub expr_of-Minus : (left right : Box Expr Global) → expr_of (Minus left right) ≡ minus (expr_of left.value) (expr_of right.value)
expr_of-Minus left right =
    ap expr_of (sym (rolls-Minus left right)) ∙ fold-roll-Expr ExprTree (List ExprTree) node_expr part_exprs (Expr-F.Minus left right)

pub exprs_of-out : (parts : Exprs) → exprs_of parts ≡ map expr_of (out-Exprs parts).list.items
exprs_of-out parts = fold_out-Exprs ExprTree (List ExprTree) node_expr part_exprs parts

-- the part at a place
pub expr_at : (parts : Exprs) (k : ℕ) (e : Expr) → k < length (exprs_of parts) → e ≡ get_or (out-Exprs parts).list.items k e →
    slice_get (exprs_of parts) k ≡ Some (expr_of e)
expr_at parts k e within is =
    let items = (out-Exprs parts).list.items in
    let there : k < length (map expr_of items) = subst (λ ts. k < length ts) (exprs_of-out parts) within in
    let within' : k < length items = omega (arith, length-map items expr_of) in
    ap (λ ts. slice_get ts k) (exprs_of-out parts) ∙ slice_get-map expr_of items k
    ∙ ap (option_map expr_of) (slice_get-get_or items k e within') ∙ ap (λ x. Some (expr_of x)) (sym is)
