-- The spans of answers end in the document.
use Rattle.std.proofs.Common.{◌≡◌, ℕ, zero, suc, ◌<◌, ◌≤◌, ◌⊎◌, Bool, true, false, List, [], ◌∷◌, ◌++◌, length, Option, Some, None, inl, inr, sym, ◌∙◌, subst, arith}
use Rattle.std.specs.Prelude.{slice_get, nat_eq, MatchBool, if◌then◌else◌}
use Rattle.std.specs.Option.{IsSomeAnd}
use Rattle.std.specs.Str.{bytes_eq}
use Rattle.std.proofs.lemmas.Bool.{cases_lt}
use Rattle.span_core.specs.declared.span.Span.{Span}
use Rattle.span_core.specs.Lists.{Has}
use Rattle.spanner_model.specs.Tree.{Tree, empty, one, cat_end, cat, alt_end, alt, rep, cap}
use Rattle.spanner_model.specs.Captures.{VarName, Captures, Mapping, span_of}
use Rattle.spanner_model.specs.Fit.{Piece, Times, Fit}
use Rattle.spanner_model.specs.Expression.{ExprTree, QueryTree, atom, named, union_end, union, join_end, join, project, minus}
use Rattle.spanner_model.specs.Answer.{VarOf, Answer, vars_of_lets, answers_of_lets, IsAnswer}
use Rattle.spanner_model.proofs.FitLaws.{fit_le, fit_within}

-- each captured span ends at n at most
abbrev AllEnd : ℕ → Captures → Type 0
AllEnd n [] = Unit {0}
AllEnd n (c ∷ m) = (c.1.end ≤ n) × AllEnd n m

all_end-append : (n : ℕ) (m k : Captures) → AllEnd n m → AllEnd n k → AllEnd n (m ++ k)
all_end-append n [] k h g = g
all_end-append n (c ∷ m) k h g = (h.0, all_end-append n m k h.1 g)

all_end-none : (n : ℕ) (m : Captures) → m ≡ [] → AllEnd n m
all_end-none n m e = subst (λ (c : Captures). AllEnd n c) (sym e) tt

times_end : (P : Piece) (n : ℕ) → ((i j : ℕ) (m : Captures) → i ≤ n → P i j m → AllEnd n m × (j ≤ n)) → (c i j : ℕ) (m : Captures) → i ≤ n → Times P c i j m → AllEnd n m
times_end P n ends zero i j m le h = all_end-none n m h.1
times_end P n ends (suc c) i j m le h =
    let first = ends i h.0 h.1 le h.3 in
    subst (λ (k : Captures). AllEnd n k) (sym h.6) (all_end-append n h.1 h.2 first.0 (times_end P n ends c h.0 j h.2 first.1 h.4))

fit_ends : (f : Tree) (d : List ℕ) (i j : ℕ) (m : Captures) → i ≤ length d → Fit f d i j m → AllEnd (length d) m
fit_ends empty d i j m le h = all_end-none (length d) m h.1
fit_ends (one set) d i j m le h = all_end-none (length d) m h.4
fit_ends cat_end d i j m le h = all_end-none (length d) m h.1
fit_ends (cat f rest) d i j m le h =
    subst (λ (k : Captures). AllEnd (length d) k) (sym h.6)
    (all_end-append (length d) h.1 h.2 (fit_ends f d i h.0 h.1 le h.3) (fit_ends rest d h.0 j h.2 (fit_within f d i h.0 h.1 le h.3) h.4))
fit_ends alt_end d i j m le h = absurd h
fit_ends (alt f rest) d i j m le (inl h) = fit_ends f d i j m le h
fit_ends (alt f rest) d i j m le (inr h) = fit_ends rest d i j m le h
fit_ends (rep f least most) d i j m le h =
    times_end (Fit f d) (length d) (λ i j m le g. (fit_ends f d i j m le g, fit_within f d i j m le g)) h.0 i j m le h.3
fit_ends (cap x f) d i j m le h =
    subst (λ (k : Captures). AllEnd (length d) k) (sym h.6) (omega (arith, h.3, fit_within f d i j h.1 le h.4), fit_ends f d i j h.1 le h.4)

-- each span that the mapping gives ends at n at most
abbrev pub EndsBy : ℕ → Mapping → Type 0
EndsBy n m = (x : VarName) (s : Span) → m x ≡ Some s → s.end ≤ n

span_of_ends : (n : ℕ) (c : Captures) → AllEnd n c → EndsBy n (span_of c)
span_of_ends n [] h x s is = absurd (cc)
span_of_ends n (p ∷ c) h x s is = by (bytes_eq p.0 x) is (λ e. span_of_ends n c h.1 x s e)
  where
    by : (b : Bool) → (if b then Some p.1 else span_of c x) ≡ Some s → (span_of c x ≡ Some s → s.end ≤ n) → s.end ≤ n
    by true e later = let same : p.1 ≡ s = cc in subst (λ (t : Span). t.end ≤ n) same h.0
    by false e later = later e

-- a span that is given only where it ends by n
by_cases : (n : ℕ) (s : Span) → (n < s.end → ⊥) → s.end ≤ n
by_cases n s never = elim (cases_lt n s.end) [ inl lt ↦ absurd (never lt) | inr le ↦ le ]

given_not_absent : (o : Option Span) (s : Span) → o ≡ Some s → o ≡ None → ⊥
given_not_absent o s is none = let both : Some s ≡ None = sym is ∙ none in absurd (cc)

module _ (V : ℕ → VarName → Type 0) (A : ℕ → Mapping → Type 0) (d : List ℕ) (lets_end : (k : ℕ) (m : Mapping) → A k m → EndsBy (length d) m) where
  pub answer_ends : (e : ExprTree) (m : Mapping) → Answer V A d e m → EndsBy (length d) m
  answer_ends (atom a) m h x p is =
      span_of_ends (length d) h.2 (fit_ends a.formula d h.0 h.1 h.2 (omega (arith, h.4, fit_le a.formula d h.0 h.1 h.2 h.3)) h.3) x p (sym (h.7 x) ∙ is)
  answer_ends (named k) m h x p is = lets_end k m h x p is
  answer_ends union_end m h x p is = absurd h
  answer_ends (union e rest) m (inl h) x p is = answer_ends e m h x p is
  answer_ends (union e rest) m (inr h) x p is = answer_ends rest m h x p is
  answer_ends join_end m h x p is = absurd (given_not_absent (m x) p is (h x))
  answer_ends (join e rest) m h x p is =
      by_cases (length d) p (λ past.
      let outside : VarOf V e x ⊎ VarOf V rest x → ⊥ = λ v. elim v [
        | inl a ↦ (let le = answer_ends e h.0 h.3 x p ((h.2 x).0 a ∙ is) in omega (arith, le, past))
        | inr b ↦ (let le = answer_ends rest h.1 h.5 x p ((h.4 x).0 b ∙ is) in omega (arith, le, past))
      ] in
      given_not_absent (m x) p is (h.6 x outside))
  answer_ends (project names e) m h x p is =
      by_cases (length d) p (λ past.
      let outside : Has names x → ⊥ = λ a. (let le = answer_ends e h.0 h.1 x p (sym ((h.2 x).0 a) ∙ is) in omega (arith, le, past)) in
      given_not_absent (m x) p is ((h.2 x).1 outside))
  answer_ends (minus e g) m h x p is = answer_ends e m h.0 x p is

lets_end : (lets : List (VarName × ExprTree)) (d : List ℕ) (n k : ℕ) (m : Mapping) → answers_of_lets lets d n k m → EndsBy (length d) m
lets_end lets d zero k m h = absurd h
lets_end lets d (suc n) k m h = by (nat_eq k n) h (lets_end lets d n) (lets_end lets d n k m)
  where
    one : (o : Option (VarName × ExprTree)) → ((k : ℕ) (m : Mapping) → answers_of_lets lets d n k m → EndsBy (length d) m) →
        IsSomeAnd o (λ l. Answer (vars_of_lets lets n) (answers_of_lets lets d n) d l.1 m) → EndsBy (length d) m
    one None below h = absurd h
    one (Some l) below h = answer_ends (vars_of_lets lets n) (answers_of_lets lets d n) d below l.1 m h

    by : (b : Bool) →
        MatchBool b (IsSomeAnd (slice_get lets n) (λ l. Answer (vars_of_lets lets n) (answers_of_lets lets d n) d l.1 m)) (answers_of_lets lets d n k m) →
        ((k : ℕ) (m : Mapping) → answers_of_lets lets d n k m → EndsBy (length d) m) →
        (answers_of_lets lets d n k m → EndsBy (length d) m) → EndsBy (length d) m
    by true h below here = one (slice_get lets n) below h
    by false h below here = here h

pub query_ends : (q : QueryTree) (d : List ℕ) (m : Mapping) → IsAnswer q d m → EndsBy (length d) m
query_ends q d m h = answer_ends (vars_of_lets q.lets (length q.lets)) (answers_of_lets q.lets d (length q.lets)) d (lets_end q.lets d (length q.lets)) q.body m h
