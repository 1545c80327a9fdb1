-- Unions and joins of any number of parts.
use Rattle.std.proofs.Common.{◌≡◌, ℕ, List, [], ◌∷◌, None, inl, inr, refl, sym, ◌∙◌, subst}
use Rattle.span_core.specs.Lists.{Has}
use Rattle.spanner_model.specs.Captures.{VarName, Mapping}
use Rattle.spanner_model.specs.Expression.{ExprTree, union_all, join_all}
use Rattle.spanner_model.specs.Answer.{VarOf, IsRestriction, Answer, vars_of_lets}
use Rattle.spanner_model.proofs.Deciding.{Told, told_of, told_lets}
use Rattle.spanner_model.proofs.ExprLaws.{join_part_var}

-- m on the variables of P, and elsewhere absent
abbrev restrict_by : {P : Type 0} → Told P → Mapping → Mapping
restrict_by (inl h) m x = m x
restrict_by (inr h) m x = None

restrict_on : {P : Type 0} (t : Told P) (m : Mapping) (x : VarName) → P → restrict_by t m x ≡ m x
restrict_on (inl h) m x p = refl
restrict_on (inr h) m x p = absurd (h p)

restrict_off : {P : Type 0} (t : Told P) (m : Mapping) (x : VarName) → (P → ⊥) → restrict_by t m x ≡ None
restrict_off (inl h) m x p = absurd (p h)
restrict_off (inr h) m x p = refl

module _ (V : ℕ → VarName → Type 0) (A : ℕ → Mapping → Type 0) (d : List ℕ) where
  pub union_some : (es : List ExprTree) (m : Mapping) → Answer V A d (union_all es) m → (e : ExprTree) × Has es e × Answer V A d e m
  union_some [] m h = absurd h
  union_some (e ∷ es) m (inl h) = (e, inl refl, h)
  union_some (e ∷ es) m (inr h) = let p = union_some es m h in (p.0, inr p.1, p.2)

  pub some_union : (es : List ExprTree) (m : Mapping) (e : ExprTree) → Has es e → Answer V A d e m → Answer V A d (union_all es) m
  some_union [] m e has h = absurd has
  some_union (g ∷ es) m e (inl is) h = inl (subst (λ (w : ExprTree). Answer V A d w m) (sym is) h)
  some_union (g ∷ es) m e (inr has) h = inr (some_union es m e has h)

  -- the restriction to a part of what is joined
  abbrev PartAnswers : Mapping → ExprTree → Type 0
  PartAnswers m e = (r : Mapping) × IsRestriction (VarOf V e) m r × Answer V A d e r

  pub join_outside : (es : List ExprTree) (m : Mapping) → Answer V A d (join_all es) m → (x : VarName) → (VarOf V (join_all es) x → ⊥) → m x ≡ None
  join_outside [] m h x out = h x
  join_outside (e ∷ es) m h x out = h.6 x out

  -- a restriction of a restriction, where the variables are among those kept
  through : (P Q : VarName → Type 0) (m n r : Mapping) → ((x : VarName) → Q x → P x) → IsRestriction P m n → IsRestriction Q n r → IsRestriction Q m r
  through P Q m n r in_p h g x = (λ q. (g x).0 q ∙ (h x).0 (in_p x q), (g x).1)

  back : (P Q : VarName → Type 0) (m n r : Mapping) → ((x : VarName) → Q x → P x) → IsRestriction P m n → IsRestriction Q m r → IsRestriction Q n r
  back P Q m n r in_p h g x = (λ q. (g x).0 q ∙ sym ((h x).0 (in_p x q)), (g x).1)

  pub join_each : (es : List ExprTree) (m : Mapping) → Answer V A d (join_all es) m → (e : ExprTree) → Has es e → PartAnswers m e
  join_each [] m h e has = absurd has
  join_each (g ∷ es) m h e (inl is) = subst (PartAnswers m) is (h.0, h.2, h.3)
  join_each (g ∷ es) m h e (inr has) =
      let p = join_each es h.1 h.5 e has in
      (p.0, through (VarOf V (join_all es)) (VarOf V e) m h.1 p.0 (λ x v. join_part_var V es e x has v) h.4 p.1, p.2)

  pub each_join : ((e : ExprTree) (x : VarName) → Told (VarOf V e x)) → (es : List ExprTree) (m : Mapping) → ((x : VarName) → (VarOf V (join_all es) x → ⊥) → m x ≡ None) →
      ((e : ExprTree) → Has es e → PartAnswers m e) → Answer V A d (join_all es) m
  each_join told [] m out each = λ x. out x (λ h. h)
  each_join told (g ∷ es) m out each =
      let first = each g (inl refl) in
      let others : Mapping = λ x. restrict_by (told (join_all es) x) m x in
      let are : IsRestriction (VarOf V (join_all es)) m others = λ x. (restrict_on (told (join_all es) x) m x, restrict_off (told (join_all es) x) m x) in
      let rest = each_join told es others (λ x no_var. (are x).1 no_var)
      (λ e has. let p = each e (inr has) in (p.0, back (VarOf V (join_all es)) (VarOf V e) m others p.0 (λ x v. join_part_var V es e x has v) are p.1, p.2)) in
      (first.0, others, first.1, first.2, are, rest, out)

pub told_under : (lets : List (VarName × ExprTree)) (n : ℕ) (e : ExprTree) (x : VarName) → Told (VarOf (vars_of_lets lets n) e x)
told_under lets n e x = told_of (vars_of_lets lets n) (told_lets lets n) e x
