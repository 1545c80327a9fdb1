-- Unions, joins and named expressions of the code, and their parts.
use Rattle.std.proofs.Common.{◌≡◌, ℕ, ◌<◌, ◌⊎◌, ◌↔◌, List, length, get_or, Some, inl, inr, refl, sym, ap, ◌∙◌, subst}
use Rattle.std.specs.Prelude.{slice_get}
use Rattle.std.specs.Option.{IsSomeAnd}
use Rattle.std.proofs.lemmas.Option.{slice_get-get_or}
use Rattle.span_core.specs.Lists.{Has}
use Rattle.spanner_model.specs.Captures.{VarName}
use Rattle.spanner_model.specs.Expression.{ExprTree, union_all, join_all}
use Rattle.spanner_model.specs.ExprView.{expr_of, exprs_of}
use Rattle.spanner_model.specs.Answer.{VarOf}
use Rattle.spanner_model.specs.Gathered.{vars_in, IsUnderLets}
use Rattle.spanner_model.specs.declared.expression.Expr.{Expr}
use Rattle.spanner_model.specs.declared.expression.Exprs.{Exprs}
use Rattle.spanner_model.specs.declared.expression.Expr.TheVariants.{Named, Union, Join}
use Rattle.spanner_model.proofs.Nodes.{expr_nodes}
use Rattle.spanner_model.proofs.ExprLaws.{LetVars, union_size, union_part_under, join_part_under, union_vars}
use Rattle.spanner_model.proofs.ExprTrees.{expr_of-Named, expr_of-Union, expr_of-Join}

-- what the parts of an expression have of it
pub record HasExprs (V : LetVars) (n : ℕ) (e : ExprTree) (es : List ExprTree) : Type 0 where
  pub size : expr_nodes e ≡ expr_nodes (join_all es)
  pub under : IsUnderLets n e → (g : ExprTree) → Has es g → IsUnderLets n g
  pub vars : (x : VarName) → VarOf V (join_all es) x ↔ VarOf V e x

union_exprs : (V : LetVars) (n : ℕ) (es : List ExprTree) → HasExprs V n (union_all es) es
union_exprs V n es = record { size = union_size es; under = λ h g has. union_part_under n es g h has; vars = union_vars V es }

join_exprs : (V : LetVars) (n : ℕ) (es : List ExprTree) → HasExprs V n (join_all es) es
join_exprs V n es = record { size = refl; under = λ h g has. join_part_under n es g h has; vars = λ x. (λ h. h, λ h. h) }

pub has_exprs : (V : LetVars) (n : ℕ) (e : Expr) (parts : Exprs) → (e ≡ Union parts) ⊎ (e ≡ Join parts) → HasExprs V n (expr_of e) (exprs_of parts)
has_exprs V n e parts (inl is) = subst (λ (t : ExprTree). HasExprs V n t (exprs_of parts)) (sym (ap expr_of is ∙ expr_of-Union parts)) (union_exprs V n (exprs_of parts))
has_exprs V n e parts (inr is) = subst (λ (t : ExprTree). HasExprs V n t (exprs_of parts)) (sym (ap expr_of is ∙ expr_of-Join parts)) (join_exprs V n (exprs_of parts))

-- the variables of a named expression are the names that are kept for it
kept_vars : (known : List (List VarName)) (k : ℕ) (names : List VarName) → slice_get known k ≡ Some names → (x : VarName) → Has names x ↔ vars_in known k x
kept_vars known k names at x = subst (λ o. Has names x ↔ IsSomeAnd o (λ ns. Has ns x)) (sym at) (λ h. h, λ h. h)

pub named_vars : (known : List (List VarName)) (e : Expr) (k : ℕ) (names : List VarName) → e ≡ Named k → IsUnderLets (length known) (expr_of e) →
    names ≡ get_or known k names → (x : VarName) → Has names x ↔ VarOf (vars_in known) (expr_of e) x
named_vars known e k names is under at x =
    let tree = ap expr_of is ∙ expr_of-Named k in
    let within : k < length known = subst (IsUnderLets (length known)) tree under in
    subst (λ (t : ExprTree). Has names x ↔ VarOf (vars_in known) t x) (sym tree) (kept_vars known k names (slice_get-get_or known k names within ∙ ap Some (sym at)) x)
