-- Whether a name is a variable can be told.
use Rattle.std.proofs.Common.{◌≡◌, ℕ, zero, suc, ◌⊎◌, Bool, true, false, List, [], ◌∷◌, Option, Some, None, inl, inr, refl}
use Rattle.std.specs.Prelude.{slice_get, nat_eq, MatchBool}
use Rattle.std.specs.Option.{IsSomeAnd}
use Rattle.std.specs.Str.{bytes_eq}
use Rattle.std.proofs.lemmas.Slice.Eq.{bytes_eq-Decides}
use Rattle.span_core.specs.Lists.{Has}
use Rattle.spanner_model.specs.Tree.{Tree, empty, one, cat_end, cat, alt_end, alt, rep, cap}
use Rattle.spanner_model.specs.Captures.{VarName}
use Rattle.spanner_model.specs.Sequential.{HasVar}
use Rattle.spanner_model.specs.Expression.{ExprTree, atom, named, union_end, union, join_end, join, project, minus}
use Rattle.spanner_model.specs.Answer.{VarOf, vars_of_lets}

-- it holds, or it does not
abbrev pub Told : Type 0 → Type 0
Told P = P ⊎ (P → ⊥)

pub told_either : {P Q : Type 0} → Told P → Told Q → Told (P ⊎ Q)
told_either (inl p) q = inl (inl p)
told_either (inr np) (inl q) = inl (inr q)
told_either {P} {Q} (inr np) (inr nq) = inr (λ h. elim h [ inl p ↦ np p | inr q ↦ nq q ])

told_name_by : (b : Bool) (x y : VarName) → bytes_eq x y ≡ b → Told (x ≡ y)
told_name_by true x y e = inl ((bytes_eq-Decides x y).0 e)
told_name_by false x y e = inr (λ is. let f : true ≡ false = (let t : bytes_eq x y ≡ true = (bytes_eq-Decides x y).1 is in cc) in absurd (cc))

pub told_name : (x y : VarName) → Told (x ≡ y)
told_name x y = told_name_by (bytes_eq x y) x y refl

pub told_has : (names : List VarName) (x : VarName) → Told (Has names x)
told_has [] x = inr (λ h. h)
told_has (y ∷ names) x = told_either (told_name y x) (told_has names x)

pub told_var : (f : Tree) (x : VarName) → Told (HasVar f x)
told_var empty x = inr (λ h. h)
told_var (one set) x = inr (λ h. h)
told_var cat_end x = inr (λ h. h)
told_var (cat f rest) x = told_either (told_var f x) (told_var rest x)
told_var alt_end x = inr (λ h. h)
told_var (alt f rest) x = told_either (told_var f x) (told_var rest x)
told_var (rep f least most) x = told_var f x
told_var (cap y f) x = told_either (told_name y x) (told_var f x)

-- under lets whose variables can be told
module _ (V : ℕ → VarName → Type 0) (told : (k : ℕ) (x : VarName) → Told (V k x)) where
  pub told_of : (e : ExprTree) (x : VarName) → Told (VarOf V e x)
  told_of (atom a) x = told_var a.formula x
  told_of (named k) x = told k x
  told_of union_end x = inr (λ h. h)
  told_of (union e rest) x = told_either (told_of e x) (told_of rest x)
  told_of join_end x = inr (λ h. h)
  told_of (join e rest) x = told_either (told_of e x) (told_of rest x)
  told_of (project names e) x = told_has names x
  told_of (minus e g) x = told_of e x

pub told_choice : (b : Bool) {P Q : Type 0} → Told P → Told Q → Told (MatchBool b P Q)
told_choice true p q = p
told_choice false p q = q

told_let : (lets : List (VarName × ExprTree)) (n : ℕ) (x : VarName) → ((k : ℕ) (x : VarName) → Told (vars_of_lets lets n k x)) → (o : Option (VarName × ExprTree)) →
    Told (IsSomeAnd o (λ l. VarOf (vars_of_lets lets n) l.1 x))
told_let lets n x before None = inr (λ h. h)
told_let lets n x before (Some l) = told_of (vars_of_lets lets n) before l.1 x

pub told_lets : (lets : List (VarName × ExprTree)) (n k : ℕ) (x : VarName) → Told (vars_of_lets lets n k x)
told_lets lets zero k x = inr (λ h. h)
told_lets lets (suc n) k x = told_choice (nat_eq k n) (told_let lets n x (told_lets lets n) (slice_get lets n)) (told_lets lets n k x)
