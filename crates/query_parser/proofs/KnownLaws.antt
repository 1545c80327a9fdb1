-- The names of a query's atoms, and the variables of the lets that are known.
use Rattle.std.proofs.Common.{◌≡◌, ℕ, suc, ◌+◌, ◌<◌, ◌≤◌, ◌⊎◌, ◌↔◌, Bool, true, false, List, [], ◌∷◌, ◌++◌, length, take, Option, Some, inl, inr, refl, arith}
use Rattle.std.specs.Prelude.{slice_get, nat_eq, MatchBool, if◌then◌else◌}
use Rattle.std.specs.Option.{IsSomeAnd}
use Rattle.std.proofs.lemmas.List.{take_all}
use Rattle.span_core.specs.declared.TheConstants.{MOST_VARIABLES}
use Rattle.span_core.specs.Lists.{Has, AtMost}
use Rattle.spanner_model.specs.Captures.{VarName}
use Rattle.spanner_model.specs.Expression.{ExprTree, QueryTree, named}
use Rattle.spanner_model.specs.Sound.{NameIn, NameInLets, NameOf, SureOf, sure_of_lets}
use Rattle.spanner_model.specs.Gathered.{Adds, Gathered}
use Rattle.functional_check.proofs.LeastLaws.{at_most_less}
use Rattle.std.proofs.Common.{nat_lt, length-append}
use Rattle.std.proofs.lemmas.Bool.Decides.{nat_tests}
use Rattle.spanner_model.specs.Answer.{VarOf, vars_of_lets}
use Rattle.spanner_model.proofs.ExprLaws.{SameVars, var_same, sure_same, turned, slice_get_push}
use Rattle.query_parser.specs.declared.fault.QueryFault.{QueryFault}
use Rattle.query_parser.specs.TreeFaults.{Passes, PassesUnder, IsFaultUnder, LetPasses, IsExprFault, IsTreeFault}
use Rattle.query_parser.proofs.SameLaws.{same_passes, same_fault}
use Rattle.query_parser.specs.Formed.{IsFormed, PassesQuery}
use Rattle.query_parser.specs.Bounds.{BoundNames, IsBoundOf, HasSureAmongVars, vars_known, sure_known}
use Rattle.query_parser.proofs.SureLaws.{sure_var}

-- what was gathered of all lets and of the body
pub all_names : (q : QueryTree) (k : ℕ) (old new : List VarName) → length q.lets ≤ k → Adds [] (NameInLets (take k q.lets)) old → Adds old (NameIn q.body) new →
    (x : VarName) → NameOf q x → Has new x
all_names q k old new le a g x h =
    let lets : Adds [] (NameInLets q.lets) old = rw (← take_all k q.lets le) a in
    (g x).1 (elim h as (λ _. Has old x ⊎ NameIn q.body x) [ inl n ↦ inl ((lets x).1 (inr n)) | inr n ↦ inr n ])

-- where there is no room for those of the body, or of the lets, they are too many
pub many_names : (q : QueryTree) (k : ℕ) (old new : List VarName) → length q.lets ≤ k → Adds [] (NameInLets (take k q.lets)) old → Gathered old (NameIn q.body) false new →
    AtMost MOST_VARIABLES (NameOf q) → ⊥
many_names q k old new le a g few =
    let lets : Adds [] (NameInLets q.lets) old = rw (← take_all k q.lets le) a in
    g.1 (at_most_less MOST_VARIABLES (λ x. Has old x ⊎ NameIn q.body x) (NameOf q)
    (λ x h. elim h as (λ _. NameOf q x) [
      | inl o ↦ elim ((lets x).0 o) as (λ _. NameOf q x) [ inl n ↦ absurd n | inr n ↦ inl n ]
      | inr n ↦ inr n
    ]) few)

pub many_let_names : (q : QueryTree) (new : List VarName) → Gathered [] (NameInLets q.lets) false new → AtMost MOST_VARIABLES (NameOf q) → ⊥
many_let_names q new g few =
    g.1 (at_most_less MOST_VARIABLES (λ x. Has [] x ⊎ NameInLets q.lets x) (NameOf q) (λ x h. elim h as (λ _. NameOf q x) [ inl n ↦ absurd n | inr n ↦ inl n ]) few)

-- ---- the variables of lets that are known

-- the known ones are the variables, and the sure ones, of the first lets
pub record Knows (lets : List (VarName × ExprTree)) (known : List BoundNames) : Type 0 where
  pub vars : SameVars (vars_known known) (vars_of_lets lets (length known))
  pub sure : SameVars (sure_known known) (sure_of_lets lets (length known))
  pub among : HasSureAmongVars known

-- at each place of a list with one more
more_at : (P : BoundNames → Type 0) (N : VarName × ExprTree → Type 0) (Q : Type 0) (b : Bool) (new : BoundNames) (old : Option BoundNames) (o : Option (VarName × ExprTree)) (l : VarName × ExprTree) →
    o ≡ Some l → (P new ↔ N l) → (IsSomeAnd old P ↔ Q) → IsSomeAnd (if b then Some new else old) P ↔ MatchBool b (IsSomeAnd o N) Q
more_at P N Q true new old o l at here before = rw at here
more_at P N Q false new old o l at here before = before

among_at : (x : VarName) (b : Bool) (new : BoundNames) (old : Option BoundNames) → (Has new.sure x → Has new.vars x) → (IsSomeAnd old (λ c. Has c.sure x) → IsSomeAnd old (λ c. Has c.vars x)) →
    IsSomeAnd (if b then Some new else old) (λ c. Has c.sure x) → IsSomeAnd (if b then Some new else old) (λ c. Has c.vars x)
among_at x true new old here before h = here h
among_at x false new old here before h = before h

-- one let more
knows_more : (lets : List (VarName × ExprTree)) (known : List BoundNames) (l : VarName × ExprTree) (new : BoundNames) → slice_get lets (length known) ≡ Some l → Knows lets known →
    IsFormed (length known) l.1 → IsBoundOf (vars_known known) (sure_known known) l.1 new → Knows lets (known ++ new ∷ [])
knows_more lets known l new at knows formed is = record {
  vars = λ j x.
      let here : Has new.vars x ↔ VarOf V l.1 x = (
        λ h. var_same (vars_known known) V knows.vars l.1 x ((is.0 x).0 h),
        λ h. (is.0 x).1 (var_same V (vars_known known) (turned (vars_known known) V knows.vars) l.1 x h),
      ) in
      rw long
      (rw (slice_get_push known new j)
      (more_at (λ b. Has b.vars x) (λ m. VarOf V m.1 x) (V j x) (nat_eq j n) new (slice_get known j) (slice_get lets n) l at here (knows.vars j x)));
  sure = λ j x.
      let here : Has new.sure x ↔ SureOf S l.1 x = (
        λ h. sure_same (sure_known known) S knows.sure l.1 x ((is.1 x).0 h),
        λ h. (is.1 x).1 (sure_same S (sure_known known) (turned (sure_known known) S knows.sure) l.1 x h),
      ) in
      rw long
      (rw (slice_get_push known new j)
      (more_at (λ b. Has b.sure x) (λ m. SureOf S m.1 x) (S j x) (nat_eq j n) new (slice_get known j) (slice_get lets n) l at here (knows.sure j x)));
  among = λ j x.
      let here : Has new.sure x → Has new.vars x = λ h. (is.0 x).1 (sure_var (vars_known known) (sure_known known) knows.among n l.1 x formed ((is.1 x).0 h)) in
      rw (slice_get_push known new j) (among_at x (nat_eq j n) new (slice_get known j) here (knows.among j x));
}
  where
    n : ℕ
    n = length known

    V : ℕ → VarName → Type 0
    V = vars_of_lets lets (length known)

    S : ℕ → VarName → Type 0
    S = sure_of_lets lets (length known)

    long : length (known ++ new ∷ []) ≡ suc (length known)
    long = omega (arith, length-append known (new ∷ []))

fault_under : (lets : List (VarName × ExprTree)) (known : List BoundNames) (k : ℕ) (e : ExprTree) (f : QueryFault) → length known ≡ k →
    Knows lets known → IsExprFault (vars_known known) (sure_known known) e f → IsFaultUnder lets k e f
fault_under lets known k e f long knows fault =
    rw (← long)
    (same_fault (vars_known known) (vars_of_lets lets (length known)) (sure_known known) (sure_of_lets lets (length known)) knows.vars knows.sure e f fault)

passes_under : (lets : List (VarName × ExprTree)) (known : List BoundNames) (k : ℕ) (e : ExprTree) → length known ≡ k → Knows lets known →
    Passes (vars_known known) (sure_known known) e → PassesUnder lets k e
passes_under lets known k e long knows pass =
    rw (← long)
    (same_passes (vars_known known) (vars_of_lets lets (length known)) (sure_known known) (sure_of_lets lets (length known)) knows.vars knows.sure e pass)

-- the fault of a let is one of the query, where those before it pass
pub let_fault : (q : QueryTree) (known : List BoundNames) (k : ℕ) (l : VarName × ExprTree) (e : QueryFault) → slice_get q.lets k ≡ Some l → length known ≡ k → Knows q.lets known →
    ((j : ℕ) → j < k → LetPasses q.lets j) → IsExprFault (vars_known known) (sure_known known) l.1 e → IsTreeFault q e
let_fault q known k l e at long knows passed fault =
    inl (k, passed, rw at (fault_under q.lets known k l.1 e long knows fault))

pub record KnowsMore (q : QueryTree) (known : List BoundNames) (k : ℕ) : Type 0 where
  pub long : length known ≡ k + 1
  pub knows : Knows q.lets known
  pub passed : (j : ℕ) → j < k + 1 → LetPasses q.lets j

-- one let more
pub known_next : (q : QueryTree) (known : List BoundNames) (k : ℕ) (l : VarName × ExprTree) (new : BoundNames) → slice_get q.lets k ≡ Some l → length known ≡ k → Knows q.lets known →
    ((j : ℕ) → j < k → LetPasses q.lets j) → IsFormed k l.1 →
    Passes (vars_known known) (sure_known known) l.1 → IsBoundOf (vars_known known) (sure_known known) l.1 new → KnowsMore q (known ++ new ∷ []) k
known_next q known k l new at long knows passed formed pass is = record {
  long = omega (arith, long, length-append known (new ∷ []));
  knows = knows_more q.lets known l new (rw long at) knows (rw long formed) is;
  passed = λ j below. by j (nat_lt j k) refl below;
}
  where
    by : (j : ℕ) (b : Bool) → nat_lt j k ≡ b → j < k + 1 → LetPasses q.lets j
    by j true e below = passed j (grind (arith, nat_tests))
    by j false e below =
        let same : k ≡ j = grind (arith, nat_tests) in
        λ m is. let one : l ≡ m = cc in rw (← one) (rw (← same) (passes_under q.lets known k l.1 long knows pass))

pub body_fault : (q : QueryTree) (known : List BoundNames) (e : QueryFault) → length known ≡ length q.lets → Knows q.lets known → ((j : ℕ) → LetPasses q.lets j) →
    IsExprFault (vars_known known) (sure_known known) q.body e → IsTreeFault q e
body_fault q known e long knows passed fault = inr (passed, fault_under q.lets known (length q.lets) q.body e long knows fault)

pub all_pass : (q : QueryTree) (known : List BoundNames) → length known ≡ length q.lets → Knows q.lets known → ((j : ℕ) → LetPasses q.lets j) →
    Passes (vars_known known) (sure_known known) q.body → PassesQuery q
all_pass q known long knows passed pass = (passed, passes_under q.lets known (length q.lets) q.body long knows pass)

-- what is known of a let is that of its name
pub named_bound : (known : List BoundNames) (k : ℕ) (b : BoundNames) → slice_get known k ≡ Some b → IsBoundOf (vars_known known) (sure_known known) (named k) b
named_bound known k b at = (
  λ x. rw at (λ h. h, λ h. h),
  λ x. rw at (λ h. h, λ h. h),
)
