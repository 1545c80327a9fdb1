-- An answer is absent outside the expression's variables, and gives each sure one a span.
use Rattle.std.proofs.Common.{◌≡◌, ℕ, zero, suc, Bool, true, false, List, [], ◌∷◌, length, Option, Some, None, ◌⊎◌, inl, inr, refl, sym, ◌∙◌}
use Rattle.std.specs.Prelude.{slice_get, nat_eq, MatchBool, if◌then◌else◌}
use Rattle.std.specs.Option.{IsSomeAnd}
use Rattle.std.specs.Str.{bytes_eq}
use Rattle.std.proofs.lemmas.Slice.Eq.{bytes_eq-Decides}
use Rattle.spanner_model.specs.Captures.{VarName, Captures, Mapping, Captured, span_of}
use Rattle.spanner_model.specs.Expression.{ExprTree, QueryTree, atom, named, union_end, union, join_end, join, project, minus}
use Rattle.span_core.specs.declared.span.Span.{Span}
use Rattle.spanner_model.specs.Sound.{SureOf, sure_of_lets, IsSureResult}
use Rattle.spanner_model.specs.Answer.{VarOf, Answer, vars_of_lets, answers_of_lets, IsAnswer, IsResultVar}
use Rattle.spanner_model.proofs.FitLaws.{fit_only_vars, fit_sure}

-- a name that is not captured has no span
pub span_of-absent : (c : Captures) (x : VarName) → (Captured c x → ⊥) → span_of c x ≡ None
span_of-absent [] x out = refl
span_of-absent (p ∷ c) x out = by (bytes_eq p.0 x) refl (span_of-absent c x (λ h. out (inr h)))
  where
    by : (b : Bool) → bytes_eq p.0 x ≡ b → span_of c x ≡ None → (if b then Some p.1 else span_of c x) ≡ None
    by true e later = absurd (out (inl ((bytes_eq-Decides p.0 x).0 e)))
    by false e later = later

-- under lets whose answers are absent outside their variables
module _ (V : ℕ → VarName → Type 0) (A : ℕ → Mapping → Type 0) (d : List ℕ) (lets_absent : (k : ℕ) (m : Mapping) → A k m → (x : VarName) → (V k x → ⊥) → m x ≡ None) where
  pub answer_absent : (e : ExprTree) (m : Mapping) → Answer V A d e m → (x : VarName) → (VarOf V e x → ⊥) → m x ≡ None
  answer_absent (atom a) m h x out = h.7 x ∙ span_of-absent h.2 x (λ c. out (fit_only_vars a.formula d h.0 h.1 h.2 h.3 x c))
  answer_absent (named k) m h x out = lets_absent k m h x out
  answer_absent union_end m h x out = absurd h
  answer_absent (union e rest) m (inl h) x out = answer_absent e m h x (λ v. out (inl v))
  answer_absent (union e rest) m (inr h) x out = answer_absent rest m h x (λ v. out (inr v))
  answer_absent join_end m h x out = h x
  answer_absent (join e rest) m h x out = h.6 x out
  answer_absent (project names e) m h x out = (h.2 x).1 out
  answer_absent (minus e g) m h x out = answer_absent e m h.0 x out

pub lets_absent : (lets : List (VarName × ExprTree)) (d : List ℕ) (n k : ℕ) (m : Mapping) → answers_of_lets lets d n k m → (x : VarName) → (vars_of_lets lets n k x → ⊥) → m x ≡ None
lets_absent lets d zero k m h x out = absurd h
lets_absent lets d (suc n) k m h x out = by (nat_eq k n) h out (lets_absent lets d n k m) (lets_absent lets d n)
  where
    one : (o : Option (VarName × ExprTree)) → ((k : ℕ) (m : Mapping) → answers_of_lets lets d n k m → (x : VarName) → (vars_of_lets lets n k x → ⊥) → m x ≡ None) →
        IsSomeAnd o (λ l. Answer (vars_of_lets lets n) (answers_of_lets lets d n) d l.1 m) →
        (IsSomeAnd o (λ l. VarOf (vars_of_lets lets n) l.1 x) → ⊥) → m x ≡ None
    one None below h out = absurd h
    one (Some l) below h out = answer_absent (vars_of_lets lets n) (answers_of_lets lets d n) d below l.1 m h x out

    by : (b : Bool) →
        MatchBool b (IsSomeAnd (slice_get lets n) (λ l. Answer (vars_of_lets lets n) (answers_of_lets lets d n) d l.1 m)) (answers_of_lets lets d n k m) →
        (MatchBool b (IsSomeAnd (slice_get lets n) (λ l. VarOf (vars_of_lets lets n) l.1 x)) (vars_of_lets lets n k x) → ⊥) →
        (answers_of_lets lets d n k m → (x : VarName) → (vars_of_lets lets n k x → ⊥) → m x ≡ None) →
        ((k : ℕ) (m : Mapping) → answers_of_lets lets d n k m → (x : VarName) → (vars_of_lets lets n k x → ⊥) → m x ≡ None) → m x ≡ None
    by true h out here below = one (slice_get lets n) below h out
    by false h out here below = here h x out

pub query_absent : (q : QueryTree) (d : List ℕ) (m : Mapping) → IsAnswer q d m → (x : VarName) → (IsResultVar q x → ⊥) → m x ≡ None
query_absent q d m h x out =
    answer_absent (vars_of_lets q.lets (length q.lets)) (answers_of_lets q.lets d (length q.lets)) d (lets_absent q.lets d (length q.lets)) q.body m h x out

-- ---- what an answer gives

-- the mapping gives the name a span
abbrev pub Gives : Mapping → VarName → Type 0
Gives m x = (s : Span) × (m x ≡ Some s)

span_by : (b : Bool) (p : VarName × Span) (c : Captures) (x : VarName) → (b ≡ true → p.0 ≡ x) → (p.0 ≡ x → b ≡ true) → (p.0 ≡ x) ⊎ Captured c x → (Captured c x → Gives (span_of c) x) →
    (s : Span) × ((if b then Some p.1 else span_of c x) ≡ Some s)
span_by true p c x f g h later = (p.1, refl)
span_by false p c x f g (inl e) later = absurd (let t : false ≡ true = g e in cc)
span_by false p c x f g (inr h) later = later h

pub span_of-given : (c : Captures) (x : VarName) → Captured c x → Gives (span_of c) x
span_of-given [] x h = absurd h
span_of-given (p ∷ c) x h = span_by (bytes_eq p.0 x) p c x (bytes_eq-Decides p.0 x).0 (bytes_eq-Decides p.0 x).1 h (span_of-given c x)

-- under lets whose sure variables are variables, and have spans
module _ (V S : ℕ → VarName → Type 0) (A : ℕ → Mapping → Type 0) (d : List ℕ)
    (given : (k : ℕ) (m : Mapping) → A k m → (x : VarName) → S k x → V k x × Gives m x) where
  pub answer_sure : (e : ExprTree) (m : Mapping) → Answer V A d e m → (x : VarName) → SureOf S e x → VarOf V e x × Gives m x
  answer_sure (atom a) m h x v =
      let c = fit_sure a.formula d h.0 h.1 h.2 h.3 x v in
      let g = span_of-given h.2 x c in
      (fit_only_vars a.formula d h.0 h.1 h.2 h.3 x c, (g.0, h.7 x ∙ g.1))
  answer_sure (named k) m h x v = given k m h x v
  answer_sure union_end m h x v = absurd h
  answer_sure (union e rest) m (inl h) x v = let r = answer_sure e m h x v.0 in (inl r.0, r.1)
  answer_sure (union e rest) m (inr h) x v = let r = answer_sure rest m h x v.1 in (inr r.0, r.1)
  answer_sure join_end m h x v = absurd v
  answer_sure (join e rest) m h x (inl v) =
      let r = answer_sure e h.0 h.3 x v in (inl r.0, (r.1.0, sym ((h.2 x).0 r.0) ∙ r.1.1))
  answer_sure (join e rest) m h x (inr v) =
      let r = answer_sure rest h.1 h.5 x v in (inr r.0, (r.1.0, sym ((h.4 x).0 r.0) ∙ r.1.1))
  answer_sure (project names e) m h x v =
      let r = answer_sure e h.0 h.1 x v.1 in (v.0, (r.1.0, (h.2 x).0 v.0 ∙ r.1.1))
  answer_sure (minus e g) m h x v = answer_sure e m h.0 x v

module _ (lets : List (VarName × ExprTree)) (d : List ℕ) where
  three : (b : Bool) (P P' Q Q' R R' T : Type 0) → (P → Q → R × T) → (P' → Q' → R' × T) →
      MatchBool b P P' → MatchBool b Q Q' → MatchBool b R R' × T
  three true P P' Q Q' R R' T f g p q = f p q
  three false P P' Q Q' R R' T f g p q = g p q

  let_given : (n : ℕ) (o : Option (VarName × ExprTree)) (m : Mapping) (x : VarName) →
      ((k : ℕ) (m : Mapping) → answers_of_lets lets d n k m → (x : VarName) → sure_of_lets lets n k x → vars_of_lets lets n k x × Gives m x) →
      IsSomeAnd o (λ l. Answer (vars_of_lets lets n) (answers_of_lets lets d n) d l.1 m) → IsSomeAnd o (λ l. SureOf (sure_of_lets lets n) l.1 x) →
      IsSomeAnd o (λ l. VarOf (vars_of_lets lets n) l.1 x) × Gives m x
  let_given n None m x before h v = absurd h
  let_given n (Some l) m x before h v =
      answer_sure (vars_of_lets lets n) (sure_of_lets lets n) (answers_of_lets lets d n) d before l.1 m h x v

  pub lets_given : (n k : ℕ) (m : Mapping) → answers_of_lets lets d n k m → (x : VarName) → sure_of_lets lets n k x → vars_of_lets lets n k x × Gives m x
  lets_given zero k m h x v = absurd h
  lets_given (suc n) k m h x v =
      three (nat_eq k n)
      (IsSomeAnd (slice_get lets n) (λ l. Answer (vars_of_lets lets n) (answers_of_lets lets d n) d l.1 m)) (answers_of_lets lets d n k m)
      (IsSomeAnd (slice_get lets n) (λ l. SureOf (sure_of_lets lets n) l.1 x)) (sure_of_lets lets n k x)
      (IsSomeAnd (slice_get lets n) (λ l. VarOf (vars_of_lets lets n) l.1 x)) (vars_of_lets lets n k x)
      (Gives m x)
      (let_given n (slice_get lets n) m x (lets_given n)) (λ g w. lets_given n k m g x w) h v

-- an answer gives each sure variable of the result a span
pub query_given : (q : QueryTree) (d : List ℕ) (m : Mapping) → IsAnswer q d m → (x : VarName) → IsSureResult q x → Gives m x
query_given q d m h x v =
    (answer_sure (vars_of_lets q.lets (length q.lets)) (sure_of_lets q.lets (length q.lets)) (answers_of_lets q.lets d (length q.lets)) d
    (lets_given q.lets d (length q.lets)) q.body m h x v).1
