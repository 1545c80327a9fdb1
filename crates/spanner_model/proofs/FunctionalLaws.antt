-- Functional formulas are sequential and all their variables are sure; queries of them are sound, and have the answers that they had before a variable could be absent.
use Rattle.std.proofs.Common.{◌≡◌, ℕ, zero, suc, ◌⊎◌, ◌↔◌, Bool, true, false, List, length, Option, Some, None, inl, inr, refl}
use Rattle.std.specs.Prelude.{slice_get, nat_eq, MatchBool}
use Rattle.std.specs.Option.{IsSomeAnd, ForSome}
use Rattle.spanner_model.specs.Tree.{Tree, empty, one, cat_end, cat, alt_end, alt, rep, cap}
use Rattle.spanner_model.specs.Captures.{VarName, Mapping}
use Rattle.spanner_model.specs.Sequential.{HasVar, IsSequential, IsSure}
use Rattle.spanner_model.specs.Expression.{ExprTree, QueryTree, atom, named, union_end, union, join_end, join, project, minus}
use Rattle.spanner_model.specs.Answer.{VarOf, Answer, vars_of_lets, answers_of_lets, IsAnswer, IsResultVar}
use Rattle.spanner_model.specs.Sound.{SureOf, sure_of_lets, IsSureResult, SharesSure, IsSoundExpr, AreUnited, AreJoined, IsSoundUnder, IsSound}
use Rattle.spanner_model.specs.Functional.{AgreesWithArms, IsFunctional, AgreesWithParts, IsFunctionalExpr, AreUnitedEqual, AreJoinedFunctional, IsFunctionalUnder, IsFunctionalQuery}
use Rattle.spanner_model.specs.Functional.{HasExactly, TotalAnswer, total_answers_of_lets, IsTotalAnswer}
use Rattle.spanner_model.proofs.AnswerLaws.{Gives, answer_sure, lets_given}

-- ---- functional formulas

pub functional_sequential : (f : Tree) → IsFunctional f → IsSequential f
functional_sequential empty ok = tt
functional_sequential (one set) ok = tt
functional_sequential cat_end ok = tt
functional_sequential (cat f rest) ok = (functional_sequential f ok.0, functional_sequential rest ok.1, ok.2)
functional_sequential alt_end ok = tt
functional_sequential (alt f rest) ok = (functional_sequential f ok.0, functional_sequential rest ok.1)
functional_sequential (rep f least most) ok = (functional_sequential f ok.0, inl ok.1)
functional_sequential (cap x f) ok = (functional_sequential f ok.0, ok.1)

-- of arms that agree each has a variable that some has
first_has : (f rest : Tree) (x : VarName) → AgreesWithArms f rest → HasVar f x ⊎ HasVar rest x → HasVar f x
first_has f rest x agree (inl a) = a
first_has f empty x agree (inr b) = absurd b
first_has f (one set) x agree (inr b) = absurd b
first_has f cat_end x agree (inr b) = absurd b
first_has f alt_end x agree (inr b) = absurd b
first_has f (cat g r) x agree (inr b) = (agree x).1 b
first_has f (alt g r) x agree (inr b) = (agree x).1 b
first_has f (rep g a b') x agree (inr b) = (agree x).1 b
first_has f (cap y g) x agree (inr b) = (agree x).1 b

arms_sure : (f rest : Tree) (x : VarName) → AgreesWithArms f rest → HasVar f x → (HasVar rest x → IsSure rest x) → IsSure rest x
arms_sure f empty x agree v go = go ((agree x).0 v)
arms_sure f (one set) x agree v go = go ((agree x).0 v)
arms_sure f cat_end x agree v go = go ((agree x).0 v)
arms_sure f alt_end x agree v go = tt
arms_sure f (cat g r) x agree v go = go ((agree x).0 v)
arms_sure f (alt g r) x agree v go = go ((agree x).0 v)
arms_sure f (rep g a b) x agree v go = go ((agree x).0 v)
arms_sure f (cap y g) x agree v go = go ((agree x).0 v)

pub functional_sure : (f : Tree) (x : VarName) → IsFunctional f → HasVar f x → IsSure f x
functional_sure empty x ok v = absurd v
functional_sure (one set) x ok v = absurd v
functional_sure cat_end x ok v = absurd v
functional_sure (cat f rest) x ok (inl v) = inl (functional_sure f x ok.0 v)
functional_sure (cat f rest) x ok (inr v) = inr (functional_sure rest x ok.1 v)
functional_sure alt_end x ok v = absurd v
functional_sure (alt f rest) x ok v =
    let w = first_has f rest x ok.2 v in
    (functional_sure f x ok.0 w, arms_sure f rest x ok.2 w (functional_sure rest x ok.1))
functional_sure (rep f least most) x ok v = absurd (ok.1 x v)
functional_sure (cap y f) x ok (inl e) = inl e
functional_sure (cap y f) x ok (inr v) = inr (functional_sure f x ok.0 v)

-- ---- expressions

-- of parts that agree each has a variable that some has
first_var : (V : ℕ → VarName → Type 0) (e rest : ExprTree) (x : VarName) → AgreesWithParts V e rest → VarOf V e x ⊎ VarOf V rest x → VarOf V e x
first_var V e rest x agree (inl a) = a
first_var V e (atom a) x agree (inr b) = (agree x).1 b
first_var V e (named k) x agree (inr b) = (agree x).1 b
first_var V e union_end x agree (inr b) = absurd b
first_var V e (union g r) x agree (inr b) = (agree x).1 b
first_var V e join_end x agree (inr b) = (agree x).1 b
first_var V e (join g r) x agree (inr b) = (agree x).1 b
first_var V e (project names g) x agree (inr b) = (agree x).1 b
first_var V e (minus g k) x agree (inr b) = (agree x).1 b

module _ (V S : ℕ → VarName → Type 0) (lets_sure : (k : ℕ) (x : VarName) → V k x → S k x) where
  parts_sure : (e rest : ExprTree) (x : VarName) → AgreesWithParts V e rest → VarOf V e x → (VarOf V rest x → SureOf S rest x) → SureOf S rest x
  parts_sure e (atom a) x agree v go = go ((agree x).0 v)
  parts_sure e (named k) x agree v go = go ((agree x).0 v)
  parts_sure e union_end x agree v go = tt
  parts_sure e (union g r) x agree v go = go ((agree x).0 v)
  parts_sure e join_end x agree v go = go ((agree x).0 v)
  parts_sure e (join g r) x agree v go = go ((agree x).0 v)
  parts_sure e (project names g) x agree v go = go ((agree x).0 v)
  parts_sure e (minus g k) x agree v go = go ((agree x).0 v)

  mutual
    pub functional_gives : (n : ℕ) (e : ExprTree) → IsFunctionalExpr V n e → (x : VarName) → VarOf V e x → SureOf S e x
    functional_gives n (atom a) ok x v = functional_sure a.formula x ok.1 v
    functional_gives n (named k) ok x v = lets_sure k x v
    functional_gives n union_end ok x v = absurd v
    functional_gives n (union e rest) ok x v =
        let w = first_var V e rest x ok.3 v in
        (functional_gives n e ok.0 x w, parts_sure e rest x ok.3 w (united_sure n rest ok.1 x))
    functional_gives n join_end ok x v = absurd v
    functional_gives n (join e rest) ok x (inl v) = inl (functional_gives n e ok.0 x v)
    functional_gives n (join e rest) ok x (inr v) = inr (joined_sure n rest ok.1 x v)
    functional_gives n (project names e) ok x v = (v, functional_gives n e ok.0 x (ok.1 x v).0)
    functional_gives n (minus e g) ok x v = functional_gives n e ok.0 x v

    united_sure : (n : ℕ) (e : ExprTree) → AreUnitedEqual V n e → (x : VarName) → VarOf V e x → SureOf S e x
    united_sure n union_end ok x v = tt
    united_sure n (union e rest) ok x v =
        let w = first_var V e rest x ok.2 v in
        (functional_gives n e ok.0 x w, parts_sure e rest x ok.2 w (united_sure n rest ok.1 x))
    united_sure n _ ok x v = absurd ok

    joined_sure : (n : ℕ) (e : ExprTree) → AreJoinedFunctional V n e → (x : VarName) → VarOf V e x → SureOf S e x
    joined_sure n join_end ok x v = absurd v
    joined_sure n (join e rest) ok x (inl v) = inl (functional_gives n e ok.0 x v)
    joined_sure n (join e rest) ok x (inr v) = inr (joined_sure n rest ok.1 x v)
    joined_sure n _ ok x v = absurd ok

  shares : (n : ℕ) (e rest : ExprTree) → IsFunctionalExpr V n e → AreJoinedFunctional V n rest → SharesSure V S e rest
  shares n e join_end ok all = tt
  shares n e (join g rest) ok all = ((λ x v w. (functional_gives n e ok x v, functional_gives n g all.0 x w)), shares n e rest ok all.1)
  shares n e _ ok all = absurd all

  mutual
    pub sound : (n : ℕ) (e : ExprTree) → IsFunctionalExpr V n e → IsSoundExpr V S n e
    sound n (atom a) ok = (ok.0, functional_sequential a.formula ok.1)
    sound n (named k) ok = ok
    sound n union_end ok = ok
    sound n (union e rest) ok = (sound n e ok.0, united_sound n rest ok.1, ok.2)
    sound n join_end ok = ok
    sound n (join e rest) ok = (sound n e ok.0, joined_sound n rest ok.1, ok.2, shares n e rest ok.0 ok.1)
    sound n (project names e) ok = (sound n e ok.0, ok.1, ok.2)
    sound n (minus e g) ok = (sound n e ok.0, sound n g ok.1, ok.2)

    united_sound : (n : ℕ) (e : ExprTree) → AreUnitedEqual V n e → AreUnited V S n e
    united_sound n union_end ok = tt
    united_sound n (union e rest) ok = (sound n e ok.0, united_sound n rest ok.1)
    united_sound n _ ok = absurd ok

    joined_sound : (n : ℕ) (e : ExprTree) → AreJoinedFunctional V n e → AreJoined V S n e
    joined_sound n join_end ok = tt
    joined_sound n (join e rest) ok = (sound n e ok.0, joined_sound n rest ok.1, shares n e rest ok.0 ok.1)
    joined_sound n _ ok = absurd ok

choice : (b : Bool) (P Q R S : Type 0) → (P → R) → (Q → S) → MatchBool b P Q → MatchBool b R S
choice true P Q R S f g h = f h
choice false P Q R S f g h = g h

module _ (lets : List (VarName × ExprTree)) (are : (k : ℕ) → ForSome (slice_get lets k) (λ l. IsFunctionalUnder lets k l.1)) where
  let_sure : (n : ℕ) (o : Option (VarName × ExprTree)) (x : VarName) → slice_get lets n ≡ o →
      ((k : ℕ) (x : VarName) → vars_of_lets lets n k x → sure_of_lets lets n k x) →
      IsSomeAnd o (λ l. VarOf (vars_of_lets lets n) l.1 x) → IsSomeAnd o (λ l. SureOf (sure_of_lets lets n) l.1 x)
  let_sure n None x at before v = absurd v
  let_sure n (Some l) x at before v = functional_gives (vars_of_lets lets n) (sure_of_lets lets n) before n l.1 (are n l at).0 x v

  pub lets_sure : (n k : ℕ) (x : VarName) → vars_of_lets lets n k x → sure_of_lets lets n k x
  lets_sure zero k x v = absurd v
  lets_sure (suc n) k x v =
      choice (nat_eq k n) (IsSomeAnd (slice_get lets n) (λ l. VarOf (vars_of_lets lets n) l.1 x)) (vars_of_lets lets n k x)
      (IsSomeAnd (slice_get lets n) (λ l. SureOf (sure_of_lets lets n) l.1 x)) (sure_of_lets lets n k x)
      (let_sure n (slice_get lets n) x refl (lets_sure n)) (lets_sure n k x) v

  pub sound_under : (n : ℕ) (e : ExprTree) → IsFunctionalUnder lets n e → IsSoundUnder lets n e
  sound_under n e ok = (sound (vars_of_lets lets n) (sure_of_lets lets n) (lets_sure n) n e ok.0, ok.1)

pub query_sound : (q : QueryTree) → IsFunctionalQuery q → IsSound q
query_sound q s = record {
  sound_lets = λ k l at. sound_under q.lets s.lets_are k l.1 (s.lets_are k l at);
  sound_body = sound_under q.lets s.lets_are (length q.lets) q.body s.body_is;
  distinct = s.distinct;
  free = s.free;
  few = s.few;
}

pub query_sure : (q : QueryTree) → IsFunctionalQuery q → (x : VarName) → IsResultVar q x → IsSureResult q x
query_sure q s =
    functional_gives (vars_of_lets q.lets (length q.lets)) (sure_of_lets q.lets (length q.lets)) (lets_sure q.lets s.lets_are (length q.lets)) (length q.lets) q.body s.body_is.0

-- ---- answers

-- under lets whose variables are sure, A being the answers of lets and T those of before
module _ (V S : ℕ → VarName → Type 0) (A T : ℕ → Mapping → Type 0) (d : List ℕ)
    (all_sure : (k : ℕ) (x : VarName) → V k x → S k x)
    (given : (k : ℕ) (m : Mapping) → A k m → (x : VarName) → S k x → V k x × Gives m x)
    (go : (k : ℕ) (m : Mapping) → T k m → A k m)
    (back : (k : ℕ) (m : Mapping) → A k m → T k m) where
  mutual
    pub total_answers : (n : ℕ) (e : ExprTree) (m : Mapping) → IsFunctionalExpr V n e → TotalAnswer V T d e m → Answer V A d e m
    total_answers n (atom a) m ok h = h
    total_answers n (named k) m ok h = go k m h
    total_answers n union_end m ok h = h
    total_answers n (union e rest) m ok (inl h) = inl (total_answers n e m ok.0 h)
    total_answers n (union e rest) m ok (inr h) = inr (united_answers n rest m ok.1 h)
    total_answers n join_end m ok h = absurd ok
    total_answers n (join e rest) m ok h = (h.0, h.1, h.2, total_answers n e h.0 ok.0 h.3, h.4, joined_answers n rest h.1 ok.1 h.5, h.6.1)
    total_answers n (project names e) m ok h = (h.0, total_answers n e h.0 ok.0 h.1, h.2)
    total_answers n (minus e g) m ok h = (total_answers n e m ok.0 h.0, λ r. h.1 (answers_total n g m ok.1 r))

    united_answers : (n : ℕ) (e : ExprTree) (m : Mapping) → AreUnitedEqual V n e → TotalAnswer V T d e m → Answer V A d e m
    united_answers n union_end m ok h = h
    united_answers n (union e rest) m ok (inl h) = inl (total_answers n e m ok.0 h)
    united_answers n (union e rest) m ok (inr h) = inr (united_answers n rest m ok.1 h)
    united_answers n _ m ok h = absurd ok

    joined_answers : (n : ℕ) (e : ExprTree) (m : Mapping) → AreJoinedFunctional V n e → TotalAnswer V T d e m → Answer V A d e m
    joined_answers n join_end m ok h = λ x. h.1 x (λ v. v)
    joined_answers n (join e rest) m ok h = (h.0, h.1, h.2, total_answers n e h.0 ok.0 h.3, h.4, joined_answers n rest h.1 ok.1 h.5, h.6.1)
    joined_answers n _ m ok h = absurd ok

    pub answers_total : (n : ℕ) (e : ExprTree) (m : Mapping) → IsFunctionalExpr V n e → Answer V A d e m → TotalAnswer V T d e m
    answers_total n (atom a) m ok h = h
    answers_total n (named k) m ok h = back k m h
    answers_total n union_end m ok h = h
    answers_total n (union e rest) m ok (inl h) = inl (answers_total n e m ok.0 h)
    answers_total n (union e rest) m ok (inr h) = inr (united_total n rest m ok.1 h)
    answers_total n join_end m ok h = absurd ok
    answers_total n (join e rest) m ok h =
        let exactly : HasExactly (λ x. VarOf V e x ⊎ VarOf V rest x) m =
        (λ x v. (answer_sure V S A d given (join e rest) m h x (functional_gives V S all_sure n (join e rest) ok x v)).1, h.6) in
        (h.0, h.1, h.2, answers_total n e h.0 ok.0 h.3, h.4, joined_total n rest h.1 ok.1 h.5, exactly)
    answers_total n (project names e) m ok h = (h.0, answers_total n e h.0 ok.0 h.1, h.2)
    answers_total n (minus e g) m ok h = (answers_total n e m ok.0 h.0, λ r. h.1 (total_answers n g m ok.1 r))

    united_total : (n : ℕ) (e : ExprTree) (m : Mapping) → AreUnitedEqual V n e → Answer V A d e m → TotalAnswer V T d e m
    united_total n union_end m ok h = h
    united_total n (union e rest) m ok (inl h) = inl (answers_total n e m ok.0 h)
    united_total n (union e rest) m ok (inr h) = inr (united_total n rest m ok.1 h)
    united_total n _ m ok h = absurd ok

    joined_total : (n : ℕ) (e : ExprTree) (m : Mapping) → AreJoinedFunctional V n e → Answer V A d e m → TotalAnswer V T d e m
    joined_total n join_end m ok h = (λ x v. absurd v, λ x out. h x)
    joined_total n (join e rest) m ok h =
        let exactly : HasExactly (λ x. VarOf V e x ⊎ VarOf V rest x) m =
        (λ x v. (answer_sure V S A d given (join e rest) m h x (joined_sure V S all_sure n (join e rest) ok x v)).1, h.6) in
        (h.0, h.1, h.2, answers_total n e h.0 ok.0 h.3, h.4, joined_total n rest h.1 ok.1 h.5, exactly)
    joined_total n _ m ok h = absurd ok

-- both ways, of the first lets
module _ (lets : List (VarName × ExprTree)) (d : List ℕ) (are : (k : ℕ) → ForSome (slice_get lets k) (λ l. IsFunctionalUnder lets k l.1)) where
  abbrev Same : ℕ → Type 0
  Same n = (k : ℕ) (m : Mapping) →
      (total_answers_of_lets lets d n k m → answers_of_lets lets d n k m) × (answers_of_lets lets d n k m → total_answers_of_lets lets d n k m)

  let_same : (n : ℕ) (o : Option (VarName × ExprTree)) (m : Mapping) → slice_get lets n ≡ o → Same n →
      (IsSomeAnd o (λ l. TotalAnswer (vars_of_lets lets n) (total_answers_of_lets lets d n) d l.1 m) → IsSomeAnd o (λ l. Answer (vars_of_lets lets n) (answers_of_lets lets d n) d l.1 m))
      × (IsSomeAnd o (λ l. Answer (vars_of_lets lets n) (answers_of_lets lets d n) d l.1 m) → IsSomeAnd o (λ l. TotalAnswer (vars_of_lets lets n) (total_answers_of_lets lets d n) d l.1 m))
  let_same n None m at before = (λ h. absurd h, λ h. absurd h)
  let_same n (Some l) m at before =
      let V = vars_of_lets lets n in
      let S = sure_of_lets lets n in
      let A = answers_of_lets lets d n in
      let T = total_answers_of_lets lets d n in (
        λ h. total_answers V S A T d (lets_sure lets are n) (lets_given lets d n) (λ k m. (before k m).0) (λ k m. (before k m).1) n l.1 m (are n l at).0 h,
        λ h. answers_total V S A T d (lets_sure lets are n) (lets_given lets d n) (λ k m. (before k m).0) (λ k m. (before k m).1) n l.1 m (are n l at).0 h,
      )

  pub lets_same : (n : ℕ) → Same n
  lets_same zero k m = (λ h. absurd h, λ h. absurd h)
  lets_same (suc n) k m =
      let P : Type 0 = IsSomeAnd (slice_get lets n) (λ l. TotalAnswer (vars_of_lets lets n) (total_answers_of_lets lets d n) d l.1 m) in
      let Q : Type 0 = IsSomeAnd (slice_get lets n) (λ l. Answer (vars_of_lets lets n) (answers_of_lets lets d n) d l.1 m) in
      let here = let_same n (slice_get lets n) m refl (lets_same n) in
      let before = lets_same n k m in (
        choice (nat_eq k n) P (total_answers_of_lets lets d n k m) Q (answers_of_lets lets d n k m) here.0 before.0,
        choice (nat_eq k n) Q (answers_of_lets lets d n k m) P (total_answers_of_lets lets d n k m) here.1 before.1,
      )

pub query_answers : (q : QueryTree) (d : List ℕ) (m : Mapping) → IsFunctionalQuery q → IsTotalAnswer q d m ↔ IsAnswer q d m
query_answers q d m s =
    let n = length q.lets in
    let V = vars_of_lets q.lets n in
    let S = sure_of_lets q.lets n in
    let A = answers_of_lets q.lets d n in
    let T = total_answers_of_lets q.lets d n in
    let same = lets_same q.lets d s.lets_are n in (
      total_answers V S A T d (lets_sure q.lets s.lets_are n) (lets_given q.lets d n) (λ k m. (same k m).0) (λ k m. (same k m).1) n q.body m s.body_is.0,
      answers_total V S A T d (lets_sure q.lets s.lets_are n) (lets_given q.lets d n) (λ k m. (same k m).0) (λ k m. (same k m).1) n q.body m s.body_is.0,
    )
