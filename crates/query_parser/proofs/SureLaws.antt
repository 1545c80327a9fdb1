-- Sure variables: they are variables, whether one is sure can be told, and those of unions and joins by their parts.
use Rattle.std.proofs.Common.{◌≡◌, ◌↔◌, ℕ, zero, suc, Bool, true, false, List, [], ◌∷◌, ◌++◌, Option, Some, None, inl, inr, refl, ap, arith}
use Rattle.std.specs.Prelude.{slice_get, nat_eq}
use Rattle.std.specs.Option.{IsSomeAnd}
use Rattle.std.proofs.lemmas.Bool.Decides.{nat_tests}
use Rattle.span_core.specs.Lists.{Has}
use Rattle.spanner_model.specs.Captures.{VarName}
use Rattle.spanner_model.specs.Tree.{Tree, empty, one, cat_end, cat, alt_end, alt, rep, cap}
use Rattle.spanner_model.specs.Sequential.{HasVar, IsSure}
use Rattle.spanner_model.specs.WellBuilt.{IsBuilt, AreParts}
use Rattle.spanner_model.specs.Expression.{ExprTree, atom, named, union_end, union, join_end, join, project, minus, union_all, join_all}
use Rattle.spanner_model.specs.Answer.{VarOf}
use Rattle.spanner_model.specs.Sound.{SureOf, sure_of_lets}
use Rattle.spanner_model.proofs.Deciding.{Told, told_name, told_has, told_choice, told_either}
use Rattle.spanner_model.proofs.GatheredLaws.{NamesInTurn}
use Rattle.query_parser.specs.Formed.{IsFormed, AreJoinedFormed}
use Rattle.query_parser.proofs.ToldNames.{told_both}

-- ---- sure variables are variables

mutual
  sure_of_formula : (f : Tree) (x : VarName) → IsBuilt f → IsSure f x → HasVar f x
  sure_of_formula empty x c s = absurd s
  sure_of_formula (one bytes) x c s = absurd s
  sure_of_formula cat_end x c s = absurd s
  sure_of_formula (cat f rest) x c (inl s) = inl (sure_of_formula f x c.0 s)
  sure_of_formula (cat f rest) x c (inr s) = inr (sure_of_parts rest x c.1 s)
  sure_of_formula alt_end x c s = absurd c
  sure_of_formula (alt f rest) x c s = inl (sure_of_formula f x c.0 s.0)
  sure_of_formula (rep f least most) x c s = sure_of_formula f x c.0 s.2
  sure_of_formula (cap y f) x c (inl e) = inl e
  sure_of_formula (cap y f) x c (inr s) = inr (sure_of_formula f x c.0 s)

  sure_of_parts : (f : Tree) (x : VarName) → AreParts f → IsSure f x → HasVar f x
  sure_of_parts cat_end x c s = absurd s
  sure_of_parts (cat f rest) x c (inl s) = inl (sure_of_formula f x c.0 s)
  sure_of_parts (cat f rest) x c (inr s) = inr (sure_of_parts rest x c.1 s)
  sure_of_parts _ x c s = absurd c

-- V k has the variables, and S k the sure ones, of the let k
module _ (V S : ℕ → VarName → Type 0) (among : (k : ℕ) (x : VarName) → S k x → V k x) where
  mutual
    pub sure_var : (n : ℕ) (e : ExprTree) (x : VarName) → IsFormed n e → SureOf S e x → VarOf V e x
    sure_var n (atom a) x c h = sure_of_formula a.formula x c.0 h
    sure_var n (named k) x c h = among k x h
    sure_var n union_end x c h = absurd c
    sure_var n (union e rest) x c h = inl (sure_var n e x c.0 h.0)
    sure_var n join_end x c h = absurd c
    sure_var n (join e rest) x c (inl h) = inl (sure_var n e x c.0 h)
    sure_var n (join e rest) x c (inr h) = inr (joined_sure_var n rest x c.1 h)
    sure_var n (project names e) x c h = h.0
    sure_var n (minus e g) x c h = sure_var n e x c.0 h

    joined_sure_var : (n : ℕ) (e : ExprTree) (x : VarName) → AreJoinedFormed n e → SureOf S e x → VarOf V e x
    joined_sure_var n join_end x c h = absurd h
    joined_sure_var n (join e rest) x c (inl h) = inl (sure_var n e x c.0 h)
    joined_sure_var n (join e rest) x c (inr h) = inr (joined_sure_var n rest x c.1 h)
    joined_sure_var n _ x c h = absurd c

-- ---- part by part

module _ (S : ℕ → VarName → Type 0) where
  pub join_part_sure : (es : List ExprTree) (e : ExprTree) (x : VarName) → Has es e → SureOf S e x → SureOf S (join_all es) x
  join_part_sure [] e x h s = absurd h
  join_part_sure (g ∷ es) e x (inl is) s = inl (rw is s)
  join_part_sure (g ∷ es) e x (inr h) s = inr (join_part_sure es e x h s)

  pub join_sure_part : (es : List ExprTree) (x : VarName) → SureOf S (join_all es) x → (e : ExprTree) × Has es e × SureOf S e x
  join_sure_part [] x s = absurd s
  join_sure_part (g ∷ es) x (inl s) = (g, inl refl, s)
  join_sure_part (g ∷ es) x (inr s) = let p = join_sure_part es x s in (p.0, inr p.1, p.2)

  pub sure_in_turn : NamesInTurn (SureOf S) (λ es. SureOf S (join_all es))
  sure_in_turn = record { of_one = λ es e x. join_part_sure es e x; one_of = λ es x. join_sure_part es x }

  -- what is sure in each part and in one more
  pub union_sure_more : (es : List ExprTree) (e : ExprTree) (x : VarName) → SureOf S (union_all (es ++ e ∷ [])) x ↔ (SureOf S (union_all es) x × SureOf S e x)
  union_sure_more [] e x = (λ h. (tt, h.0), λ h. (h.1, tt))
  union_sure_more (g ∷ es) e x =
      let later = union_sure_more es e x in (
        λ h. let both = later.0 h.1 in ((h.0, both.0), both.1),
        λ h. (h.0.0, later.1 (h.0.1, h.1)),
      )

-- ---- told

told_number : (n : ℕ) → Told (n ≡ 1)
told_number n = by (nat_eq n 1) refl
  where
    by : (b : Bool) → nat_eq n 1 ≡ b → Told (n ≡ 1)
    by true e = inl (grind (arith, nat_tests))
    by false e = inr (λ is. absurd (grind (arith, nat_tests)))

pub told_most : (most : Option ℕ) → Told (most ≡ Some 1)
told_most None = inr (λ e. absurd (cc))
told_most (Some n) = by (told_number n)
  where
    by : Told (n ≡ 1) → Told (Some n ≡ Some 1)
    by (inl e) = inl (ap (λ m. Some m) e)
    by (inr more) = inr (λ e. more (let is : n ≡ 1 = cc in is))

told_sure : (f : Tree) (x : VarName) → Told (IsSure f x)
told_sure empty x = inr (λ h. h)
told_sure (one bytes) x = inr (λ h. h)
told_sure cat_end x = inr (λ h. h)
told_sure (cat f rest) x = told_either (told_sure f x) (told_sure rest x)
told_sure alt_end x = inl tt
told_sure (alt f rest) x = told_both (told_sure f x) (told_sure rest x)
told_sure (rep f least most) x = by (told_number least) (told_most most) (told_sure f x)
  where
    by : Told (least ≡ 1) → Told (most ≡ Some 1) → Told (IsSure f x) → Told (IsSure (rep f least most) x)
    by (inl a) (inl b) (inl s) = inl (a, b, s)
    by (inr none) b s = inr (λ h. none h.0)
    by a (inr none) s = inr (λ h. none h.1)
    by a b (inr none) = inr (λ h. none h.2)
told_sure (cap y f) x = told_either (told_name y x) (told_sure f x)

-- under lets whose sure variables can be told
module _ (S : ℕ → VarName → Type 0) (told : (k : ℕ) (x : VarName) → Told (S k x)) where
  pub told_sure_of : (e : ExprTree) (x : VarName) → Told (SureOf S e x)
  told_sure_of (atom a) x = told_sure a.formula x
  told_sure_of (named k) x = told k x
  told_sure_of union_end x = inl tt
  told_sure_of (union e rest) x = told_both (told_sure_of e x) (told_sure_of rest x)
  told_sure_of join_end x = inr (λ h. h)
  told_sure_of (join e rest) x = told_either (told_sure_of e x) (told_sure_of rest x)
  told_sure_of (project names e) x = told_both (told_has names x) (told_sure_of e x)
  told_sure_of (minus e g) x = told_sure_of e x

told_sure_let : (lets : List (VarName × ExprTree)) (n : ℕ) (x : VarName) → ((k : ℕ) (y : VarName) → Told (sure_of_lets lets n k y)) → (o : Option (VarName × ExprTree)) →
    Told (IsSomeAnd o (λ l. SureOf (sure_of_lets lets n) l.1 x))
told_sure_let lets n x before None = inr (λ h. h)
told_sure_let lets n x before (Some l) = told_sure_of (sure_of_lets lets n) before l.1 x

pub told_sure_lets : (lets : List (VarName × ExprTree)) (n k : ℕ) (x : VarName) → Told (sure_of_lets lets n k x)
told_sure_lets lets zero k x = inr (λ h. h)
told_sure_lets lets (suc n) k x = told_choice (nat_eq k n) (told_sure_let lets n x (told_sure_lets lets n) (slice_get lets n)) (told_sure_lets lets n k x)
