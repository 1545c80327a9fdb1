-- An expression that passes has no fault, and one has one fault at most.
use Rattle.std.proofs.Common.{◌≡◌, ℕ, List, [], ◌∷◌, ap, refl, sym, ◌∙◌, inl, inr}
use Rattle.span_core.specs.Lists.{Has}
use Rattle.spanner_model.specs.Captures.{VarName}
use Rattle.functional_check.specs.declared.checking.CheckFault.{CheckFault}
use Rattle.spanner_model.specs.Expression.{AtomTree, ExprTree, atom, named, union_end, union, join_end, join, project, minus}
use Rattle.spanner_model.specs.Answer.{VarOf}
use Rattle.spanner_model.specs.Sound.{SharesSure}
use Rattle.functional_check.specs.Faults.{IsFault, IsLeast}
use Rattle.functional_check.proofs.FaultLaws.{no_fault, fault_one}
use Rattle.functional_check.proofs.LeastLaws.{least_one}
use Rattle.query_parser.specs.declared.fault.QueryFault.{QueryFault}
use Rattle.query_parser.specs.declared.fault.QueryFault.TheVariants.{Check, JoinUnsure, UnknownVariable, MinusVariables}
use Rattle.query_parser.specs.TreeFaults.{Passes, HasPassingParts, Clashes, ClashesFirst, IsOfOneSide, OwnFault, InnerFault, IsExprFault}

module _ (V S : ℕ → VarName → Type 0) where
  passing_parts : (e : ExprTree) → Passes V S e → HasPassingParts V S e
  passing_parts (atom a) p = tt
  passing_parts (named k) p = tt
  passing_parts union_end p = tt
  passing_parts (union e rest) p = (p.0, passing_parts rest p.1)
  passing_parts join_end p = tt
  passing_parts (join e rest) p = (p.0, passing_parts rest p.1)
  passing_parts (project names e) p = p.0
  passing_parts (minus e g) p = (p.0, p.1)

  -- where each part before shares with those that follow only what is sure in both, no variable clashes
  none_clashes : (before : List ExprTree) (rest : ExprTree) → ((g : ExprTree) → Has before g → SharesSure V S g rest) → Passes V S rest → (x : VarName) → ClashesFirst V S before rest x → ⊥
  none_clashes before (join e rest) share p x (inl h) = h.0.4 ((share h.0.0 h.0.1).0 x h.0.2 h.0.3)
  none_clashes before (join e rest) share p x (inr h) = none_clashes (e ∷ before) rest next p.1 x h.1
    where
      next : (g : ExprTree) → Has (e ∷ before) g → SharesSure V S g rest
      next g (inl is) = rw (← is) p.2
      next g (inr has) = (share g has).1
  none_clashes before (atom a) share p x h = h
  none_clashes before (named k) share p x h = h
  none_clashes before union_end share p x h = h
  none_clashes before (union e rest) share p x h = h
  none_clashes before join_end share p x h = h
  none_clashes before (project names e) share p x h = h
  none_clashes before (minus e g) share p x h = h

  one_clashes : (before : List ExprTree) (rest : ExprTree) (x y : VarName) → ClashesFirst V S before rest x → ClashesFirst V S before rest y → x ≡ y
  one_clashes before (join e rest) x y (inl h) (inl g) = least_one (Clashes V S before e) x y h g
  one_clashes before (join e rest) x y (inl h) (inr g) = absurd (g.0 x h.0)
  one_clashes before (join e rest) x y (inr h) (inl g) = absurd (h.0 y g.0)
  one_clashes before (join e rest) x y (inr h) (inr g) = one_clashes (e ∷ before) rest x y h.1 g.1
  one_clashes before (atom a) x y h g = absurd h
  one_clashes before (named k) x y h g = absurd h
  one_clashes before union_end x y h g = absurd h
  one_clashes before (union e rest) x y h g = absurd h
  one_clashes before join_end x y h g = absurd h
  one_clashes before (project names e) x y h g = absurd h
  one_clashes before (minus e f) x y h g = absurd h

  own_none : (e : ExprTree) (fault : QueryFault) → Passes V S e → OwnFault V S e fault → ⊥
  own_none (atom a) (Check c) p o = no_fault a.formula c p o
  own_none (join e rest) (JoinUnsure x) p o = none_clashes (e ∷ []) rest first p.1 x o
    where
      first : (g : ExprTree) → Has (e ∷ []) g → SharesSure V S g rest
      first g (inl is) = rw (← is) p.2
      first g (inr n) = absurd n
  own_none (project names e) (UnknownVariable x) p o = o.0.1 (p.1 x o.0.0)
  own_none (minus e g) (MinusVariables x) p o = elim o.0 [ inl h ↦ h.1 ((p.2 x).0 h.0) | inr h ↦ h.1 ((p.2 x).1 h.0) ]
  own_none e fault p o = absurd o

  own_atom : (u : AtomTree) (f : QueryFault) → OwnFault V S (atom u) f → (c : CheckFault) × (f ≡ Check c) × IsFault u.formula c
  own_atom u (Check c) a = (c, refl, a)
  own_atom u f a = absurd a

  own_join : (e rest : ExprTree) (f : QueryFault) → OwnFault V S (join e rest) f → (x : VarName) × (f ≡ JoinUnsure x) × ClashesFirst V S (e ∷ []) rest x
  own_join e rest (JoinUnsure x) a = (x, refl, a)
  own_join e rest f a = absurd a

  own_project : (names : List VarName) (e : ExprTree) (f : QueryFault) → OwnFault V S (project names e) f →
      (x : VarName) × (f ≡ UnknownVariable x) × IsLeast (λ y. Has names y × ¬ VarOf V e y) x
  own_project names e (UnknownVariable x) a = (x, refl, a)
  own_project names e f a = absurd a

  own_minus : (e g : ExprTree) (f : QueryFault) → OwnFault V S (minus e g) f → (x : VarName) × (f ≡ MinusVariables x) × IsLeast (IsOfOneSide V S e g) x
  own_minus e g (MinusVariables x) a = (x, refl, a)
  own_minus e g f a = absurd a

  own_one : (e : ExprTree) (f g : QueryFault) → OwnFault V S e f → OwnFault V S e g → f ≡ g
  own_one (atom u) f g a b =
      let (c, is, x) = own_atom u f a in
      let (d, same, y) = own_atom u g b in is ∙ ap (λ z. Check z) (fault_one u.formula c d x y) ∙ sym same
  own_one (join e rest) f g a b =
      let (c, is, x) = own_join e rest f a in
      let (d, same, y) = own_join e rest g b in is ∙ ap (λ z. JoinUnsure z) (one_clashes (e ∷ []) rest c d x y) ∙ sym same
  own_one (project names e) f g a b =
      let (c, is, x) = own_project names e f a in
      let (d, same, y) = own_project names e g b in is ∙ ap (λ z. UnknownVariable z) (least_one (λ z. Has names z × ¬ VarOf V e z) c d x y) ∙ sym same
  own_one (minus e h) f g a b =
      let (c, is, x) = own_minus e h f a in
      let (d, same, y) = own_minus e h g b in is ∙ ap (λ z. MinusVariables z) (least_one (IsOfOneSide V S e h) c d x y) ∙ sym same
  own_one (named k) f g a b = absurd a
  own_one union_end f g a b = absurd a
  own_one (union e rest) f g a b = absurd a
  own_one join_end f g a b = absurd a

  over_none : (e : ExprTree) (fault : QueryFault) → (HasPassingParts V S e → InnerFault V S e fault → ⊥) → Passes V S e → IsExprFault V S e fault → ⊥
  over_none e fault inside p (inl i) = inside (passing_parts e p) i
  over_none e fault inside p (inr o) = own_none e fault p o.1

  inner_none : (e : ExprTree) (fault : QueryFault) → HasPassingParts V S e → InnerFault V S e fault → ⊥
  inner_none (union e rest) fault p (inl f) = over_none e fault (inner_none e fault) p.0 f
  inner_none (union e rest) fault p (inr i) = inner_none rest fault p.1 i.1
  inner_none (join e rest) fault p (inl f) = over_none e fault (inner_none e fault) p.0 f
  inner_none (join e rest) fault p (inr i) = inner_none rest fault p.1 i.1
  inner_none (project names e) fault p f = over_none e fault (inner_none e fault) p f
  inner_none (minus e g) fault p (inl f) = over_none e fault (inner_none e fault) p.0 f
  inner_none (minus e g) fault p (inr i) = over_none g fault (inner_none g fault) p.1 i.1
  inner_none (atom a) fault p i = i
  inner_none (named k) fault p i = i
  inner_none union_end fault p i = i
  inner_none join_end fault p i = i

  -- an expression that passes has no fault
  pub expr_none : (e : ExprTree) (fault : QueryFault) → Passes V S e → IsExprFault V S e fault → ⊥
  expr_none e fault = over_none e fault (inner_none e fault)

  over_one : (e : ExprTree) (f g : QueryFault) → (InnerFault V S e f → InnerFault V S e g → f ≡ g) → IsExprFault V S e f → IsExprFault V S e g → f ≡ g
  over_one e f g inside (inl i) (inl j) = inside i j
  over_one e f g inside (inl i) (inr o) = absurd (inner_none e f o.0 i)
  over_one e f g inside (inr o) (inl i) = absurd (inner_none e g o.0 i)
  over_one e f g inside (inr o) (inr p) = own_one e f g o.1 p.1

  inner_one : (e : ExprTree) (f g : QueryFault) → InnerFault V S e f → InnerFault V S e g → f ≡ g
  inner_one (union e rest) f g (inl a) (inl b) = over_one e f g (inner_one e f g) a b
  inner_one (union e rest) f g (inl a) (inr b) = absurd (expr_none e f b.0 a)
  inner_one (union e rest) f g (inr a) (inl b) = absurd (expr_none e g a.0 b)
  inner_one (union e rest) f g (inr a) (inr b) = inner_one rest f g a.1 b.1
  inner_one (join e rest) f g (inl a) (inl b) = over_one e f g (inner_one e f g) a b
  inner_one (join e rest) f g (inl a) (inr b) = absurd (expr_none e f b.0 a)
  inner_one (join e rest) f g (inr a) (inl b) = absurd (expr_none e g a.0 b)
  inner_one (join e rest) f g (inr a) (inr b) = inner_one rest f g a.1 b.1
  inner_one (project names e) f g a b = over_one e f g (inner_one e f g) a b
  inner_one (minus e h) f g (inl a) (inl b) = over_one e f g (inner_one e f g) a b
  inner_one (minus e h) f g (inl a) (inr b) = absurd (expr_none e f b.0 a)
  inner_one (minus e h) f g (inr a) (inl b) = absurd (expr_none e g a.0 b)
  inner_one (minus e h) f g (inr a) (inr b) = over_one h f g (inner_one h f g) a.1 b.1
  inner_one (atom u) f g a b = absurd a
  inner_one (named k) f g a b = absurd a
  inner_one union_end f g a b = absurd a
  inner_one join_end f g a b = absurd a

  -- an expression has one fault at most
  pub expr_one : (e : ExprTree) (f g : QueryFault) → IsExprFault V S e f → IsExprFault V S e g → f ≡ g
  expr_one e f g = over_one e f g (inner_one e f g)
