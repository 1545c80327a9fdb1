-- What fits a part of a document fits it where the document grows; so no answer goes, but by an end or a difference.
use Rattle.std.proofs.Common.{◌≡◌, ℕ, zero, suc, Bool, true, false, List, [], ◌∷◌, ◌++◌, length, Option, Some, None, inl, inr, arith, length-append, true≢false}
use Rattle.std.proofs.lemmas.Bool.{false≢true}
use Rattle.std.specs.Prelude.{slice_get, nat_eq, MatchBool, IsTrue}
use Rattle.std.specs.Option.{IsSomeAnd}
use Rattle.spanner_model.specs.Answer.{Answer, answers_of_lets, vars_of_lets}
use Rattle.spanner_model.specs.Captures.{Captures, Mapping, VarName}
use Rattle.spanner_model.specs.Expression.{ExprTree, atom, named, union_end, union, join_end, join, project, minus}
use Rattle.spanner_model.specs.Fit.{Fit, Piece, Times}
use Rattle.spanner_model.specs.Tree.{Tree, empty, one, cat_end, cat, alt_end, alt, rep, cap}
use Rattle.followed_document.specs.Goes.{NothingGoes, StaysOf, stays_of_lets}

get_left : {X : Type 0} (xs ys : List X) (i : ℕ) (x : X) → slice_get xs i ≡ Some x → slice_get (xs ++ ys) i ≡ Some x
get_left [] ys i x e = absurd (cc)
get_left (y ∷ xs) ys zero x e = e
get_left (y ∷ xs) ys (suc i) x e = get_left xs ys i x e

times_more : (P Q : Piece) → ((i j : ℕ) (m : Captures) → P i j m → Q i j m) → (c i j : ℕ) (m : Captures) → Times P c i j m → Times Q c i j m
times_more P Q all zero i j m h = h
times_more P Q all (suc c) i j m h = (h.0, h.1, h.2, all i h.0 h.1 h.3, times_more P Q all c h.0 j h.2 h.4, h.5, h.6)

pub fit_more : (f : Tree) (d more : List ℕ) (i j : ℕ) (m : Captures) → Fit f d i j m → Fit f (d ++ more) i j m
fit_more empty d more i j m h = h
fit_more (one set) d more i j m h = (h.0, get_left d more i h.0 h.1, h.2, h.3, h.4)
fit_more cat_end d more i j m h = h
fit_more (cat f rest) d more i j m h = (h.0, h.1, h.2, fit_more f d more i h.0 h.1 h.3, fit_more rest d more h.0 j h.2 h.4, h.5, h.6)
fit_more alt_end d more i j m h = h
fit_more (alt f rest) d more i j m (inl h) = inl (fit_more f d more i j m h)
fit_more (alt f rest) d more i j m (inr h) = inr (fit_more rest d more i j m h)
fit_more (rep f least most) d more i j m h =
    (h.0, h.1, h.2, times_more (Fit f d) (Fit f (d ++ more)) (fit_more f d more) h.0 i j m h.3)
fit_more (cap x f) d more i j m h = (h.0, h.1, h.2, h.3, fit_more f d more i j h.1 h.4, h.5, h.6)

module _ (d more : List ℕ) where
  answer_more : (V : ℕ → VarName → Type 0) (A B : ℕ → Mapping → Type 0) (G : ℕ → Type 0) → ((k : ℕ) (m : Mapping) → G k → A k m → B k m) →
      (e : ExprTree) (m : Mapping) → StaysOf G e → Answer V A d e m → Answer V B (d ++ more) e m
  answer_more V A B G all (atom a) m g h = (
    h.0,
    h.1,
    h.2,
    fit_more a.formula d more h.0 h.1 h.2 h.3,
    (let l = length-append d more in omega (arith, l, h.4)),
    h.5,
    λ t. absurd (none a.to_end g t),
    h.7,
  )
    where
      none : (b : Bool) → b ≡ false → IsTrue b → ⊥
      none true e t = true≢false e
      none false e t = false≢true t
  answer_more V A B G all (named k) m g h = all k m g h
  answer_more V A B G all union_end m g h = h
  answer_more V A B G all (union e rest) m g (inl h) = inl (answer_more V A B G all e m g.0 h)
  answer_more V A B G all (union e rest) m g (inr h) = inr (answer_more V A B G all rest m g.1 h)
  answer_more V A B G all join_end m g h = h
  answer_more V A B G all (join e rest) m g h =
      (h.0, h.1, h.2, answer_more V A B G all e h.0 g.0 h.3, h.4, answer_more V A B G all rest h.1 g.1 h.5, h.6)
  answer_more V A B G all (project names e) m g h = (h.0, answer_more V A B G all e h.0 g h.1, h.2)
  answer_more V A B G all (minus e f) m g h = absurd g

  some_more : {X : Type 0} (o : Option X) (P Q R : X → Type 0) → ((x : X) → P x → Q x → R x) → IsSomeAnd o P → IsSomeAnd o Q → IsSomeAnd o R
  some_more None P Q R all p q = p
  some_more (Some x) P Q R all p q = all x p q

  match_more : (b : Bool) (P Q R S T U : Type 0) → (P → Q → R) → (S → T → U) → MatchBool b P S → MatchBool b Q T → MatchBool b R U
  match_more true P Q R S T U f g p q = f p q
  match_more false P Q R S T U f g p q = g p q

  lets_more : (lets : List (VarName × ExprTree)) (n k : ℕ) (m : Mapping) → stays_of_lets lets n k → answers_of_lets lets d n k m → answers_of_lets lets (d ++ more) n k m
  lets_more lets zero k m g h = absurd g
  lets_more lets (suc n) k m g h =
      match_more (nat_eq k n) _ _ _ _ _ _
      (some_more (slice_get lets n) _ _ _ (λ l p q.
      answer_more (vars_of_lets lets n) (answers_of_lets lets d n) (answers_of_lets lets (d ++ more) n) (stays_of_lets lets n) (lets_more lets n) l.1 m p q))
      (lets_more lets n k m) g h

pub nothing_goes : NothingGoes
nothing_goes q d more m g h =
    answer_more d more (vars_of_lets q.lets (length q.lets)) (answers_of_lets q.lets d (length q.lets)) (answers_of_lets q.lets (d ++ more) (length q.lets))
    (stays_of_lets q.lets (length q.lets)) (lets_more d more q.lets (length q.lets)) q.body m g h
