-- Passing and faults do not depend on how the variables of lets, and the sure ones, are given.
use Rattle.std.proofs.Common.{ℕ, List, [], ◌∷◌, inl, inr, ◌↔◌}
use Rattle.span_core.specs.Lists.{Has}
use Rattle.spanner_model.specs.Captures.{VarName}
use Rattle.spanner_model.specs.Expression.{ExprTree, atom, named, union_end, union, join_end, join, project, minus}
use Rattle.spanner_model.specs.Answer.{VarOf}
use Rattle.spanner_model.specs.Sound.{SureOf}
use Rattle.spanner_model.proofs.ExprLaws.{SameVars, var_same, sure_same, turned, shares_same}
use Rattle.functional_check.specs.Faults.{IsLeast}
use Rattle.query_parser.specs.declared.fault.QueryFault.{QueryFault}
use Rattle.query_parser.specs.declared.fault.QueryFault.TheVariants.{Check, JoinUnsure, UnknownVariable, MinusVariables}
use Rattle.query_parser.specs.TreeFaults.{Passes, HasPassingParts, Clashes, ClashesFirst, IsOfOneSide, OwnFault, InnerFault, IsExprFault}

module _ (V W S T : ℕ → VarName → Type 0) (same : SameVars V W) (same_sure : SameVars S T) where
  forth : (e : ExprTree) (x : VarName) → VarOf V e x → VarOf W e x
  forth = var_same V W same

  back : (e : ExprTree) (x : VarName) → VarOf W e x → VarOf V e x
  back = var_same W V (turned V W same)

  sure_forth : (e : ExprTree) (x : VarName) → SureOf S e x → SureOf T e x
  sure_forth = sure_same S T same_sure

  sure_back : (e : ExprTree) (x : VarName) → SureOf T e x → SureOf S e x
  sure_back = sure_same T S (turned S T same_sure)

  pub same_passes : (e : ExprTree) → Passes V S e → Passes W T e
  same_passes (atom a) p = p
  same_passes (named k) p = tt
  same_passes union_end p = tt
  same_passes (union e rest) p = (same_passes e p.0, same_passes rest p.1)
  same_passes join_end p = tt
  same_passes (join e rest) p = (same_passes e p.0, same_passes rest p.1, shares_same V W S T same same_sure e rest p.2)
  same_passes (project names e) p = (same_passes e p.0, λ x h. forth e x (p.1 x h))
  same_passes (minus e g) p =
      (same_passes e p.0, same_passes g p.1, λ x. (λ h. forth g x ((p.2 x).0 (back e x h)), λ h. forth e x ((p.2 x).1 (back g x h))))

  same_parts : (e : ExprTree) → HasPassingParts V S e → HasPassingParts W T e
  same_parts (union e rest) p = (same_passes e p.0, same_parts rest p.1)
  same_parts (join e rest) p = (same_passes e p.0, same_parts rest p.1)
  same_parts (project names e) p = same_passes e p
  same_parts (minus e g) p = (same_passes e p.0, same_passes g p.1)
  same_parts (atom a) p = tt
  same_parts (named k) p = tt
  same_parts union_end p = tt
  same_parts join_end p = tt

  same_least : (P Q : VarName → Type 0) (x : VarName) → ((y : VarName) → P y ↔ Q y) → IsLeast P x → IsLeast Q x
  same_least P Q x s l = ((s x).0 l.0, λ y h. l.1 y ((s y).1 h))

  same_clashes : (before : List ExprTree) (e : ExprTree) (y : VarName) → Clashes V S before e y ↔ Clashes W T before e y
  same_clashes before e y = (
    λ c. (c.0, c.1, forth c.0 y c.2, forth e y c.3, λ both. c.4 (sure_back c.0 y both.0, sure_back e y both.1)),
    λ c. (c.0, c.1, back c.0 y c.2, back e y c.3, λ both. c.4 (sure_forth c.0 y both.0, sure_forth e y both.1)),
  )

  same_first : (before : List ExprTree) (rest : ExprTree) (x : VarName) → ClashesFirst V S before rest x → ClashesFirst W T before rest x
  same_first before (join e rest) x (inl h) = inl (same_least (Clashes V S before e) (Clashes W T before e) x (same_clashes before e) h)
  same_first before (join e rest) x (inr h) = inr ((λ y c. h.0 y ((same_clashes before e y).1 c)), same_first (e ∷ before) rest x h.1)
  same_first before (atom a) x h = absurd h
  same_first before (named k) x h = absurd h
  same_first before union_end x h = absurd h
  same_first before (union e rest) x h = absurd h
  same_first before join_end x h = absurd h
  same_first before (project names e) x h = absurd h
  same_first before (minus e g) x h = absurd h

  same_side : (e g : ExprTree) (y : VarName) → IsOfOneSide V S e g y ↔ IsOfOneSide W T e g y
  same_side e g y = (
    λ h. elim h as (λ _. IsOfOneSide W T e g y) [ inl a ↦ inl (forth e y a.0, λ v. a.1 (back g y v)) | inr a ↦ inr (forth g y a.0, λ v. a.1 (back e y v)) ],
    λ h. elim h as (λ _. IsOfOneSide V S e g y) [ inl a ↦ inl (back e y a.0, λ v. a.1 (forth g y v)) | inr a ↦ inr (back g y a.0, λ v. a.1 (forth e y v)) ],
  )

  same_own : (e : ExprTree) (f : QueryFault) → OwnFault V S e f → OwnFault W T e f
  same_own (atom a) (Check c) o = o
  same_own (join e rest) (JoinUnsure x) o = same_first (e ∷ []) rest x o
  same_own (project names e) (UnknownVariable x) o =
      same_least (λ y. Has names y × ¬ VarOf V e y) (λ y. Has names y × ¬ VarOf W e y) x
      (λ y. (λ h. (h.0, λ v. h.1 (back e y v)), λ h. (h.0, λ v. h.1 (forth e y v)))) o
  same_own (minus e g) (MinusVariables x) o = same_least (IsOfOneSide V S e g) (IsOfOneSide W T e g) x (same_side e g) o
  same_own e f o = absurd o

  same_over : (e : ExprTree) (f : QueryFault) → (InnerFault V S e f → InnerFault W T e f) → IsExprFault V S e f → IsExprFault W T e f
  same_over e f inside (inl i) = inl (inside i)
  same_over e f inside (inr o) = inr (same_parts e o.0, same_own e f o.1)

  same_inner : (e : ExprTree) (f : QueryFault) → InnerFault V S e f → InnerFault W T e f
  same_inner (union e rest) f (inl i) = inl (same_over e f (same_inner e f) i)
  same_inner (union e rest) f (inr i) = inr (same_passes e i.0, same_inner rest f i.1)
  same_inner (join e rest) f (inl i) = inl (same_over e f (same_inner e f) i)
  same_inner (join e rest) f (inr i) = inr (same_passes e i.0, same_inner rest f i.1)
  same_inner (project names e) f i = same_over e f (same_inner e f) i
  same_inner (minus e g) f (inl i) = inl (same_over e f (same_inner e f) i)
  same_inner (minus e g) f (inr i) = inr (same_passes e i.0, same_over g f (same_inner g f) i.1)
  same_inner (atom a) f i = absurd i
  same_inner (named k) f i = absurd i
  same_inner union_end f i = absurd i
  same_inner join_end f i = absurd i

  pub same_fault : (e : ExprTree) (f : QueryFault) → IsExprFault V S e f → IsExprFault W T e f
  same_fault e f = same_over e f (same_inner e f)
