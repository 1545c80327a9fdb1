-- A query that is formed passes the checks or has a fault.
use Rattle.std.proofs.Common.{◌≡◌, ◌⊎◌, ◌↔◌, ℕ, zero, suc, ◌+◌, ◌<◌, ◌≤◌, Bool, true, false, nat_lt, List, [], ◌∷◌, ◌++◌, length, Option, Some, None, inl, inr, refl, subst, arith}
use Rattle.std.specs.Prelude.{slice_get, nat_eq, MatchBool}
use Rattle.std.specs.Option.{IsSomeAnd}
use Rattle.std.proofs.lemmas.Option.{slice_get_within}
use Rattle.std.proofs.lemmas.Bool.Decides.{nat_tests}
use Rattle.span_core.specs.declared.TheConstants.{MOST_VARIABLES}
use Rattle.spanner_model.specs.Captures.{VarName}
use Rattle.span_core.specs.Lists.{Has, AtMost}
use Rattle.spanner_model.specs.Sequential.{IsSequential}
use Rattle.spanner_model.specs.Expression.{AtomTree, ExprTree, QueryTree, atom, named, union_end, union, join_end, join, project, minus}
use Rattle.spanner_model.specs.Answer.{VarOf, vars_of_lets}
use Rattle.spanner_model.specs.Sound.{NameIn, NameInLets, NameOf, SureOf, SharesSure, sure_of_lets}
use Rattle.spanner_model.proofs.Deciding.{Told, told_has, told_of, told_lets, told_either}
use Rattle.span_core.proofs.HasLaws.{Has-append_left, Has-append_right, Has-append_cases, Has-slice_get}
use Rattle.functional_check.specs.Faults.{IsLeast, IsFault}
use Rattle.functional_check.specs.declared.checking.CheckFault.{CheckFault}
use Rattle.functional_check.proofs.LeastLaws.{at_most_less}
use Rattle.query_parser.specs.declared.fault.QueryFault.{QueryFault}
use Rattle.query_parser.specs.declared.fault.QueryFault.TheVariants.{Check, JoinUnsure, UnknownVariable, MinusVariables}
use Rattle.query_parser.specs.TreeFaults.{Passes, PassesUnder, HasPassingParts, Clashes, ClashesFirst, IsOfOneSide, InnerFault, IsExprFault, IsFaultUnder, LetPasses, IsLetFault, IsTreeFault}
use Rattle.query_parser.specs.Formed.{IsFormed, AreUnitedFormed, AreJoinedFormed, IsFormedQuery, PassesQuery}
use Rattle.query_parser.proofs.ToldNames.{told_both, told_not, least_or_none, told_few, held}
use Rattle.query_parser.proofs.SureLaws.{told_sure_of, told_sure_lets}
use Rattle.query_parser.proofs.ToldFormulas.{formula_names, var_listed, listed_var, sequential_or_fault}

-- ---- the names of expressions: `all` has those of the lets

abbrev expr_vars : List VarName → ExprTree → List VarName
expr_vars all (atom a) = formula_names a.formula
expr_vars all (named k) = all
expr_vars all union_end = []
expr_vars all (union e rest) = expr_vars all e ++ expr_vars all rest
expr_vars all join_end = []
expr_vars all (join e rest) = expr_vars all e ++ expr_vars all rest
expr_vars all (project names e) = names
expr_vars all (minus e g) = expr_vars all e

-- under lets whose variables, and sure ones, can be told, and whose variables are listed
module _ (V S : ℕ → VarName → Type 0) (told : (k : ℕ) (x : VarName) → Told (V k x)) (told_sure : (k : ℕ) (x : VarName) → Told (S k x))
    (all : List VarName) (listed : (k : ℕ) (x : VarName) → V k x → Has all x) where
  vars_listed : (e : ExprTree) (x : VarName) → VarOf V e x → Has (expr_vars all e) x
  vars_listed (atom a) x h = var_listed a.formula x h
  vars_listed (named k) x h = listed k x h
  vars_listed union_end x h = absurd h
  vars_listed (union e rest) x (inl h) = Has-append_left (expr_vars all e) (expr_vars all rest) x (vars_listed e x h)
  vars_listed (union e rest) x (inr h) = Has-append_right (expr_vars all e) (expr_vars all rest) x (vars_listed rest x h)
  vars_listed join_end x h = absurd h
  vars_listed (join e rest) x (inl h) = Has-append_left (expr_vars all e) (expr_vars all rest) x (vars_listed e x h)
  vars_listed (join e rest) x (inr h) = Has-append_right (expr_vars all e) (expr_vars all rest) x (vars_listed rest x h)
  vars_listed (project names e) x h = h
  vars_listed (minus e g) x h = vars_listed e x h

  -- ---- what the parts of a join share

  told_shares : (g e : ExprTree) (x : VarName) → Told (SureOf S g x × SureOf S e x)
  told_shares g e x = told_both (told_sure_of S told_sure g x) (told_sure_of S told_sure e x)

  told_clash_with : (g e : ExprTree) (x : VarName) → Told (VarOf V g x × VarOf V e x × ¬ (SureOf S g x × SureOf S e x))
  told_clash_with g e x = by (told_of V told g x) (told_of V told e x) (told_not (told_shares g e x))
    where
      by : Told (VarOf V g x) → Told (VarOf V e x) → Told (¬ (SureOf S g x × SureOf S e x)) → Told (VarOf V g x × VarOf V e x × ¬ (SureOf S g x × SureOf S e x))
      by (inl a) (inl b) (inl c) = inl (a, b, c)
      by (inr none) b c = inr (λ h. none h.0)
      by a (inr none) c = inr (λ h. none h.1)
      by a b (inr none) = inr (λ h. none h.2)

  told_clashes : (before : List ExprTree) (e : ExprTree) (x : VarName) → Told (Clashes V S before e x)
  told_clashes [] e x = inr (λ c. c.1)
  told_clashes (g ∷ before) e x = by (told_clash_with g e x) (told_clashes before e x)
    where
      by : Told (VarOf V g x × VarOf V e x × ¬ (SureOf S g x × SureOf S e x)) → Told (Clashes V S before e x) → Told (Clashes V S (g ∷ before) e x)
      by (inl h) others = inl (g, inl refl, h.0, h.1, h.2)
      by (inr apart) (inl c) = inl (c.0, inr c.1, c.2, c.3, c.4)
      by (inr apart) (inr none) = inr (λ c. elim c.1 [
        | inl is ↦ (let at : VarOf V g x × ¬ (SureOf S g x × SureOf S e x) = rw is (c.2, c.4) in apart (at.0, c.3, at.1))
        | inr has ↦ none (c.0, has, c.2, c.3, c.4)
      ])

  -- each part of `before` shares with the parts that follow only what is sure in both
  abbrev EachShares : List ExprTree → ExprTree → Type 0
  EachShares before rest = (g : ExprTree) → Has before g → SharesSure V S g rest

  -- and so do these parts with each other
  abbrev AreSharing : ExprTree → Type 0
  AreSharing (join e rest) = SharesSure V S e rest × AreSharing rest
  AreSharing _ = Unit {0}

  shares : (before : List ExprTree) (e : ExprTree) → ((x : VarName) → Clashes V S before e x → ⊥) → (g : ExprTree) → Has before g → (x : VarName) →
      VarOf V g x → VarOf V e x → SureOf S g x × SureOf S e x
  shares before e none g has x v w = held (told_shares g e x) (λ not. none x (g, has, v, w, not))

  clashes_or_shares : (n : ℕ) (before : List ExprTree) (rest : ExprTree) → AreJoinedFormed n rest → ((x : VarName) × ClashesFirst V S before rest x) ⊎ (EachShares before rest × AreSharing rest)
  clashes_or_shares n before join_end c = inr ((λ g has. tt), tt)
  clashes_or_shares n before (join e rest) c =
      by (least_or_none (Clashes V S before e) (told_clashes before e) (expr_vars all e) (λ x h. vars_listed e x h.3)) (clashes_or_shares n (e ∷ before) rest c.1)
    where
      by : ((x : VarName) × IsLeast (Clashes V S before e) x) ⊎ ((x : VarName) → Clashes V S before e x → ⊥) →
          ((x : VarName) × ClashesFirst V S (e ∷ before) rest x) ⊎ (EachShares (e ∷ before) rest × AreSharing rest) →
          ((x : VarName) × ClashesFirst V S before (join e rest) x) ⊎ (EachShares before (join e rest) × AreSharing (join e rest))
      by (inl h) later = inl (h.0, inl h.1)
      by (inr none) (inl h) = inl (h.0, inr (none, h.1))
      by (inr none) (inr others) = inr ((λ g has. (shares before e none g has, others.0 g (inr has))), (others.0 e (inl refl), others.1))
  clashes_or_shares n before _ c = absurd c

  joined_pass : (n : ℕ) (e : ExprTree) → AreJoinedFormed n e → HasPassingParts V S e → AreSharing e → Passes V S e
  joined_pass n join_end c ok share = tt
  joined_pass n (join e rest) c ok share = (ok.0, joined_pass n rest c.1 ok.1 share.1, share.0)
  joined_pass n _ c ok share = absurd c

  united_pass : (n : ℕ) (e : ExprTree) → AreUnitedFormed n e → HasPassingParts V S e → Passes V S e
  united_pass n union_end c ok = tt
  united_pass n (union e rest) c ok = (ok.0, united_pass n rest c.1 ok.1)
  united_pass n _ c ok = absurd c

  -- ---- expressions

  abbrev pub PassesOrFault : ExprTree → Type 0
  PassesOrFault e = Passes V S e ⊎ ((fault : QueryFault) × IsExprFault V S e fault)

  -- the parts of a union, and of a join
  abbrev PartsOrFault : ExprTree → Type 0
  PartsOrFault e = HasPassingParts V S e ⊎ ((fault : QueryFault) × InnerFault V S e fault)

  atom_or_fault : (a : AtomTree) → IsSequential a.formula ⊎ ((e : CheckFault) × IsFault a.formula e) → PassesOrFault (atom a)
  atom_or_fault a (inl ok) = inl ok
  atom_or_fault a (inr h) = inr (Check h.0, inr (tt, h.1))

  -- x is kept and is not there
  abbrev IsMissing : List VarName → ExprTree → VarName → Type 0
  IsMissing names e x = Has names x × ¬ VarOf V e x

  mutual
    pub passes_or_fault : (n : ℕ) (e : ExprTree) → IsFormed n e → PassesOrFault e
    passes_or_fault n (atom a) c = atom_or_fault a (sequential_or_fault a.formula c.0)
    passes_or_fault n (named k) c = inl tt
    passes_or_fault n union_end c = inl tt
    passes_or_fault n (union e rest) c = by (passes_or_fault n e c.0) (united_or_fault n rest c.1)
      where
        by : PassesOrFault e → PartsOrFault rest → PassesOrFault (union e rest)
        by (inr h) later = inr (h.0, inl (inl h.1))
        by (inl ok) (inr h) = inr (h.0, inl (inr (ok, h.1)))
        by (inl ok) (inl others) = inl (ok, united_pass n rest c.1 others)
    passes_or_fault n join_end c = inl tt
    passes_or_fault n (join e rest) c = by (passes_or_fault n e c.0) (joined_or_fault n rest c.1)
      where
        share : Passes V S e → HasPassingParts V S rest → ((x : VarName) × ClashesFirst V S (e ∷ []) rest x) ⊎ (EachShares (e ∷ []) rest × AreSharing rest) → PassesOrFault (join e rest)
        share ok others (inl h) = inr (JoinUnsure h.0, inr ((ok, others), h.1))
        share ok others (inr s) = inl (ok, joined_pass n rest c.1 others s.1, s.0 e (inl refl))

        by : PassesOrFault e → PartsOrFault rest → PassesOrFault (join e rest)
        by (inr h) later = inr (h.0, inl (inl h.1))
        by (inl ok) (inr h) = inr (h.0, inl (inr (ok, h.1)))
        by (inl ok) (inl others) = share ok others (clashes_or_shares n (e ∷ []) rest c.1)
    passes_or_fault n (project names e) c = by (passes_or_fault n e c.0)
      where
        missing : Passes V S e → ((x : VarName) × IsLeast (IsMissing names e) x) ⊎ ((x : VarName) → IsMissing names e x → ⊥) → PassesOrFault (project names e)
        missing ok (inl h) = inr (UnknownVariable h.0, inr (ok, h.1))
        missing ok (inr none) = inl (ok, λ x h. held (told_of V told e x) (λ m. none x (h, m)))

        by : PassesOrFault e → PassesOrFault (project names e)
        by (inr h) = inr (h.0, inl h.1)
        by (inl ok) = missing ok (least_or_none (IsMissing names e) (λ x. told_both (told_has names x) (told_not (told_of V told e x))) names (λ x h. h.0))
    passes_or_fault n (minus e g) c = by (passes_or_fault n e c.0) (passes_or_fault n g c.1)
      where
        told_side : (x : VarName) → Told (IsOfOneSide V S e g x)
        told_side x = told_either (told_both (told_of V told e x) (told_not (told_of V told g x))) (told_both (told_of V told g x) (told_not (told_of V told e x)))

        side_listed : (x : VarName) → IsOfOneSide V S e g x → Has (expr_vars all e ++ expr_vars all g) x
        side_listed x (inl h) = Has-append_left (expr_vars all e) (expr_vars all g) x (vars_listed e x h.0)
        side_listed x (inr h) = Has-append_right (expr_vars all e) (expr_vars all g) x (vars_listed g x h.0)

        sides : Passes V S e → Passes V S g → ((x : VarName) × IsLeast (IsOfOneSide V S e g) x) ⊎ ((x : VarName) → IsOfOneSide V S e g x → ⊥) → PassesOrFault (minus e g)
        sides ok other (inl h) = inr (MinusVariables h.0, inr ((ok, other), h.1))
        sides ok other (inr none) =
            inl (ok, other, λ x. (λ h. held (told_of V told g x) (λ not. none x (inl (h, not))), λ h. held (told_of V told e x) (λ not. none x (inr (h, not)))))

        by : PassesOrFault e → PassesOrFault g → PassesOrFault (minus e g)
        by (inr h) later = inr (h.0, inl (inl h.1))
        by (inl ok) (inr h) = inr (h.0, inl (inr (ok, h.1)))
        by (inl ok) (inl other) = sides ok other (least_or_none (IsOfOneSide V S e g) told_side (expr_vars all e ++ expr_vars all g) side_listed)

    united_or_fault : (n : ℕ) (e : ExprTree) → AreUnitedFormed n e → PartsOrFault e
    united_or_fault n union_end c = inl tt
    united_or_fault n (union e rest) c = by (passes_or_fault n e c.0) (united_or_fault n rest c.1)
      where
        by : PassesOrFault e → PartsOrFault rest → PartsOrFault (union e rest)
        by (inr h) later = inr (h.0, inl h.1)
        by (inl ok) (inr h) = inr (h.0, inr (ok, h.1))
        by (inl ok) (inl others) = inl (ok, others)
    united_or_fault n _ c = absurd c

    joined_or_fault : (n : ℕ) (e : ExprTree) → AreJoinedFormed n e → PartsOrFault e
    joined_or_fault n join_end c = inl tt
    joined_or_fault n (join e rest) c = by (passes_or_fault n e c.0) (joined_or_fault n rest c.1)
      where
        by : PassesOrFault e → PartsOrFault rest → PartsOrFault (join e rest)
        by (inr h) later = inr (h.0, inl h.1)
        by (inl ok) (inr h) = inr (h.0, inr (ok, h.1))
        by (inl ok) (inl others) = inl (ok, others)
    joined_or_fault n _ c = absurd c

-- ---- the variables of lets

abbrev Lets : Type 0
Lets = List (VarName × ExprTree)

abbrev lets_vars : Lets → List VarName
lets_vars [] = []
lets_vars (l ∷ lets) = expr_vars [] l.1 ++ lets_vars lets

var_from : (V : ℕ → VarName → Type 0) (e : ExprTree) (x : VarName) → VarOf V e x → Has (expr_vars [] e) x ⊎ ((k : ℕ) × V k x)
var_from V (atom a) x h = inl (var_listed a.formula x h)
var_from V (named k) x h = inr (k, h)
var_from V union_end x h = absurd h
var_from V (union e rest) x (inl h) = elim (var_from V e x h) [ inl m ↦ inl (Has-append_left (expr_vars [] e) (expr_vars [] rest) x m) | inr m ↦ inr m ]
var_from V (union e rest) x (inr h) = elim (var_from V rest x h) [ inl m ↦ inl (Has-append_right (expr_vars [] e) (expr_vars [] rest) x m) | inr m ↦ inr m ]
var_from V join_end x h = absurd h
var_from V (join e rest) x (inl h) = elim (var_from V e x h) [ inl m ↦ inl (Has-append_left (expr_vars [] e) (expr_vars [] rest) x m) | inr m ↦ inr m ]
var_from V (join e rest) x (inr h) = elim (var_from V rest x h) [ inl m ↦ inl (Has-append_right (expr_vars [] e) (expr_vars [] rest) x m) | inr m ↦ inr m ]
var_from V (project names e) x h = inl h
var_from V (minus e g) x h = var_from V e x h

let_listed : (lets : Lets) (l : VarName × ExprTree) (x : VarName) → Has lets l → Has (expr_vars [] l.1) x → Has (lets_vars lets) x
let_listed [] l x h m = absurd h
let_listed (k ∷ lets) l x (inl e) m = Has-append_left (expr_vars [] k.1) (lets_vars lets) x (rw e m)
let_listed (k ∷ lets) l x (inr h) m = Has-append_right (expr_vars [] k.1) (lets_vars lets) x (let_listed lets l x h m)

lets_listed : (lets : Lets) (n k : ℕ) (x : VarName) → vars_of_lets lets n k x → Has (lets_vars lets) x
lets_listed lets zero k x h = absurd h
lets_listed lets (suc n) k x h = by (nat_eq k n) (slice_get lets n) refl h (lets_listed lets n)
  where
    by : (b : Bool) (found : Option (VarName × ExprTree)) → slice_get lets n ≡ found →
        MatchBool b (IsSomeAnd found (λ l. VarOf (vars_of_lets lets n) l.1 x)) (vars_of_lets lets n k x) → ((j : ℕ) (y : VarName) → vars_of_lets lets n j y → Has (lets_vars lets) y) →
        Has (lets_vars lets) x
    by true None at h before = absurd h
    by true (Some l) at h before = elim (var_from (vars_of_lets lets n) l.1 x h) as (λ _. Has (lets_vars lets) x) [
      | inl m ↦ let_listed lets l x (Has-slice_get lets n l at) m
      | inr m ↦ before m.0 x m.1
    ]
    by false found at h before = before k x h

-- ---- queries

abbrev pub QueryPassesOrFault : QueryTree → Type 0
QueryPassesOrFault q = PassesQuery q ⊎ ((e : QueryFault) × IsTreeFault q e)

abbrev UnderLetsOrFault : Lets → ℕ → ExprTree → Type 0
UnderLetsOrFault lets n e = PassesUnder lets n e ⊎ ((fault : QueryFault) × IsFaultUnder lets n e fault)

expr_passes_or_fault : (lets : Lets) (n : ℕ) (e : ExprTree) → IsFormed n e → UnderLetsOrFault lets n e
expr_passes_or_fault lets n e c =
    passes_or_fault (vars_of_lets lets n) (sure_of_lets lets n) (told_lets lets n) (told_sure_lets lets n) (lets_vars lets) (lets_listed lets n) n e c

-- the first let that does not pass, from k on
abbrev LetsOrFault : Lets → Type 0
LetsOrFault lets = ((j : ℕ) → LetPasses lets j) ⊎ ((k : ℕ) × ((j : ℕ) → j < k → LetPasses lets j) × ((e : QueryFault) × IsLetFault lets k e))

lets_or_fault : (lets : Lets) → ((k : ℕ) (l : VarName × ExprTree) → slice_get lets k ≡ Some l → IsFormed k l.1) → (fuel k : ℕ) →
    length lets ≤ k + fuel → ((j : ℕ) → j < k → LetPasses lets j) → LetsOrFault lets
lets_or_fault lets formed zero k past before = inl (λ j l at. before j (omega (arith, slice_get_within lets j l at, past)) l at)
lets_or_fault lets formed (suc fuel) k past before = by (slice_get lets k) refl (lets_or_fault lets formed fuel (k + 1) (omega (arith, past)))
  where
    more : LetPasses lets k → (j : ℕ) → j < k + 1 → LetPasses lets j
    more here j few = less (nat_lt j k) refl
      where
        less : (b : Bool) → nat_lt j k ≡ b → LetPasses lets j
        less true e = before j (grind (arith, nat_tests))
        less false e = let last : k ≡ j = grind (arith, nat_tests) in subst (LetPasses lets) last here

    by : (found : Option (VarName × ExprTree)) → slice_get lets k ≡ found → (((j : ℕ) → j < k + 1 → LetPasses lets j) → LetsOrFault lets) → LetsOrFault lets
    by None at later = later (more (λ l is. absurd (cc)))
    by (Some l) at later = checked (expr_passes_or_fault lets k l.1 (formed k l at))
      where
        checked : UnderLetsOrFault lets k l.1 → LetsOrFault lets
        checked (inl ok) = later (more (λ m is. let same : l ≡ m = cc in rw (← same) ok))
        checked (inr h) = inr (k, before, (h.0, rw at h.1))

pub query_passes_or_fault : (q : QueryTree) → IsFormedQuery q → QueryPassesOrFault q
query_passes_or_fault q c = by (lets_or_fault q.lets c.0 (length q.lets) 0 (omega arith) (λ j few. absurd (omega (arith, few))))
  where
    n : ℕ
    n = length q.lets

    body : ((j : ℕ) → LetPasses q.lets j) → UnderLetsOrFault q.lets n q.body → QueryPassesOrFault q
    body lets (inl ok) = inl (lets, ok)
    body lets (inr h) = inr (h.0, inr (lets, h.1))

    by : LetsOrFault q.lets → QueryPassesOrFault q
    by (inl lets) = body lets (expr_passes_or_fault q.lets n q.body c.1)
    by (inr h) = inr (h.2.0, inl (h.0, h.1, h.2.1))

-- ---- whether the names of a query are too many

abbrev expr_names : ExprTree → List VarName
expr_names (atom a) = formula_names a.formula
expr_names (named k) = []
expr_names union_end = []
expr_names (union e rest) = expr_names e ++ expr_names rest
expr_names join_end = []
expr_names (join e rest) = expr_names e ++ expr_names rest
expr_names (project names e) = expr_names e
expr_names (minus e g) = expr_names e ++ expr_names g

in_either : (a b : List VarName) (x : VarName) {P Q : Type 0} → (Has a x ↔ P) → (Has b x ↔ Q) → Has (a ++ b) x ↔ (P ⊎ Q)
in_either a b x {P} {Q} p q = (
  λ h. elim (Has-append_cases a b x h) as (λ _. P ⊎ Q) [ inl m ↦ inl (p.0 m) | inr m ↦ inr (q.0 m) ],
  λ h. elim h as (λ _. Has (a ++ b) x) [ inl m ↦ Has-append_left a b x (p.1 m) | inr m ↦ Has-append_right a b x (q.1 m) ],
)

names_are : (e : ExprTree) (x : VarName) → Has (expr_names e) x ↔ NameIn e x
names_are (atom a) x = (listed_var a.formula x, var_listed a.formula x)
names_are (named k) x = (λ h. h, λ h. h)
names_are union_end x = (λ h. h, λ h. h)
names_are (union e rest) x = in_either (expr_names e) (expr_names rest) x (names_are e x) (names_are rest x)
names_are join_end x = (λ h. h, λ h. h)
names_are (join e rest) x = in_either (expr_names e) (expr_names rest) x (names_are e x) (names_are rest x)
names_are (project names e) x = names_are e x
names_are (minus e g) x = in_either (expr_names e) (expr_names g) x (names_are e x) (names_are g x)

abbrev lets_names : Lets → List VarName
lets_names [] = []
lets_names (l ∷ lets) = expr_names l.1 ++ lets_names lets

lets_names_are : (lets : Lets) (x : VarName) → Has (lets_names lets) x ↔ NameInLets lets x
lets_names_are [] x = (λ h. h, λ h. h)
lets_names_are (l ∷ lets) x = in_either (expr_names l.1) (lets_names lets) x (names_are l.1 x) (lets_names_are lets x)

pub told_names : (q : QueryTree) → Told (AtMost MOST_VARIABLES (NameOf q))
told_names q = by (told_few (lets_names q.lets ++ expr_names q.body))
  where
    are : (x : VarName) → Has (lets_names q.lets ++ expr_names q.body) x ↔ NameOf q x
    are x = in_either (lets_names q.lets) (expr_names q.body) x (lets_names_are q.lets x) (names_are q.body x)

    by : Told (AtMost MOST_VARIABLES (Has (lets_names q.lets ++ expr_names q.body))) → Told (AtMost MOST_VARIABLES (NameOf q))
    by (inl few) = inl (at_most_less MOST_VARIABLES (NameOf q) (Has (lets_names q.lets ++ expr_names q.body)) (λ x. (are x).1) few)
    by (inr many) = inr (λ few. many (at_most_less MOST_VARIABLES (Has (lets_names q.lets ++ expr_names q.body)) (NameOf q) (λ x. (are x).0) few))
