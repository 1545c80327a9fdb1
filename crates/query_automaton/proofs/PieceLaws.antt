-- What is made of atoms, names, projections and lets when they are compiled.
use Rattle.std.proofs.Common.{◌≡◌, ℕ, zero, suc, ◌<◌, ◌≤◌, ◌↔◌, ◌⊎◌, List, Box, Global, [], ◌∷◌, ◌++◌, length, length-append, Some, inl, inr, refl, sym, ap, subst, arith, ◌∙◌}
use Rattle.std.specs.Prelude.{slice_get, if◌then◌else◌, ◌-◌, ◌^◌}
use Rattle.std.proofs.Math.Nat.{min-le_left}
use Rattle.std.proofs.lemmas.Bool.{eq-eqb, ne_eqb, cases_lt}
use Rattle.std.proofs.lemmas.Option.{slice_get_within}
use Rattle.span_core.specs.NameSets.{Ascending}
use Rattle.span_core.specs.Lists.{Has}
use Rattle.spanner_model.specs.Captures.{VarName}
use Rattle.spanner_model.specs.Sequential.{HasVar}
use Rattle.spanner_model.specs.Tree.{Tree}
use Rattle.spanner_model.specs.Expression.{AtomTree, ExprTree, QueryTree, atom, project}
use Rattle.spanner_model.specs.declared.query.Query.{Query}
use Rattle.spanner_model.specs.ExprView.{expr_of, query_of}
use Rattle.spanner_model.specs.declared.expression.Expr.{Expr}
use Rattle.spanner_model.specs.declared.expression.Expr.TheVariants.{Project}
use Rattle.spanner_model.proofs.ExprTrees.{expr_of-Project}
use Rattle.spanner_model.specs.Sound.{IsSound}
use Rattle.spanner_model.proofs.ExprLaws.{let_named}
use Rattle.span_core.proofs.HasLaws.{place_of-Has}
use Rattle.spanner_model.proofs.NameLaws.{ascending-distinct, same_names}
use Rattle.marked_automaton.specs.declared.fault.SizeFault.{SizeFault}
use Rattle.marked_automaton.specs.declared.fault.SizeFault.TheVariants.{States, Ways, OutOfMemory}
use Rattle.marked_automaton.specs.Automaton.{IsMarked, Marked}
use Rattle.marked_automaton.specs.Marks.{left_of, remarked}
use Rattle.marked_automaton.specs.Reduct.{Reduces, ReducesMarked}
use Rattle.marked_automaton.proofs.Keeping.{all_kept, keeping_law}
use Rattle.marked_automaton.proofs.Rearranged.{reduct_of_itself}
use Rattle.marked_automaton.proofs.Reducts.{reduct_of_reduct}
use Rattle.marked_automaton.proofs.ReductOperations.{reduct_of_projection}
use Rattle.place_automaton.specs.Capped.{capped}
use Rattle.place_automaton.specs.Counts.{count_states, count_ways}
use Rattle.place_automaton.specs.Refusals.{IsRefusalOf, count_ends}
use Rattle.place_automaton.specs.Variables.{with_vars}
use Rattle.place_automaton.specs.Words.{atom_automaton}
use Rattle.place_automaton.proofs.NameLists.{list_ascends, vars_are}
use Rattle.query_automaton.specs.BegunQuery.{BegunQuery, CanCompile, HasLargePartIn, IsCompiledIn}
use Rattle.query_automaton.specs.Compiling.{IsAsked, AreCompiled, IsCompiledFrom}
use Rattle.query_automaton.specs.Parts.{HasLargePart, HasLargePartOf, HasSmallAtoms, PartNumbers}
use Rattle.query_automaton.specs.QueryAutomaton.{of_atom, automaton_of, of_lets, of_one_let}
use Rattle.query_automaton.proofs.CompileLaws.{asked_sub, shape}

-- ---- atoms

module _ (u : AtomTree) where
  abbrev f : Tree
  f = u.formula

  atom_ascends : Ascending (with_vars [] f)
  atom_ascends = list_ascends f

  pub atom_names : (names : List VarName) → Ascending names → ((x : VarName) → Has names x ↔ HasVar f x) → names ≡ with_vars [] f
  atom_names names up all =
      same_names names (with_vars [] f) up atom_ascends (λ x h. (vars_are f x).1 ((all x).0 h)) (λ x h. (all x).1 ((vars_are f x).0 h))

  -- an automaton that is made for the atom, and what is left of it
  pub atom_made : (a c : Marked) → Ascending a.names → ((x : VarName) → Has a.names x ↔ HasVar f x) → Reduces a.graph (atom_automaton a.names u) →
      c.names ≡ a.names → Reduces c.graph a.graph → ReducesMarked c (of_atom u)
  atom_made a c up all made names left =
      let same = atom_names a.names up all in
      (names ∙ same, reduct_of_reduct c.graph a.graph (of_atom u).graph left (rw (← same) made))

  abbrev counted : PartNumbers
  counted = record { states = count_states u; ways = count_ways u; ends = count_ends u }

  pub atom_fault : (L : ℕ → Marked) (fault : SizeFault) → IsRefusalOf (capped (count_states u)) (capped (count_ways u)) fault → HasLargePartOf L (atom u) fault
  atom_fault L (States count) h = (omega (arith, h.0, h.1), (counted, refl, omega (arith, h.1, min-le_left (count_states u) (2 ^ 64 - 1))))
  atom_fault L (Ways count) h = (omega (arith, h.1, h.2), (counted, refl, omega (arith, h.2, min-le_left (count_ways u) (2 ^ 64 - 1))))
  atom_fault L OutOfMemory h = tt

-- ---- projections

-- the expression is a projection of what is in the box
pub project_of : {x y : Expr} {names : List VarName} {sub : Box Expr Global} → x ≡ Project names sub → y ≡ sub.value → expr_of x ≡ project names (expr_of y)
project_of {names = names} {sub = sub} is inside = ap expr_of is ∙ (expr_of-Project names sub ∙ ap (λ x. project names (expr_of x)) (sym inside))

module _ {b : BegunQuery} {keep : List VarName} {e : ExprTree} {a : Marked} (can : CanCompile b (project keep e)) (part : IsCompiledIn b e a) where
  abbrev E : Marked
  E = automaton_of (of_lets (query_of b.query).lets (length b.lets)) e

  pub kept_there : (x : VarName) → Has keep x → Has a.names x
  kept_there x h =
      let sh = shape can.known (asked_sub can.asked) in
      subst (λ (ns : List VarName). Has ns x) (sym part.reduces.0) ((sh.names x).1 (can.asked.sound_expr.1 x h).0)

  pub projected : {p : Marked} → p.names ≡ keep → Reduces p.graph (remarked (left_of a.names keep) a.graph) → IsCompiledIn b (project keep e) p
  projected {p} names reduces = record {
    reduces = (
      names,
      reduct_of_reduct p.graph (remarked (left_of E.names keep) a.graph) (remarked (left_of E.names keep) E.graph)
          (rw (← part.reduces.0) reduces)
          (reduct_of_projection a.graph E.graph (left_of E.names keep) part.reduces.1),
    );
    small = part.small;
  }

-- all variables are kept
pub kept_all : (names : List VarName) (a : Marked) → IsMarked a → Ascending names → Ascending a.names → ((x : VarName) → Has names x → Has a.names x) → length names ≡ length a.names →
    (a.names ≡ names) × Reduces a.graph (remarked (left_of a.names names) a.graph)
kept_all names a marked up vp sub len =
    let same = all_kept names a.names up vp sub len in
    let nothing = keeping_law a.names a.graph (ascending-distinct a.names vp) (record { ways = marked.way_marks; stops = marked.stop_marks }) in (
      sym same,
      rw same
          (rw nothing (reduct_of_itself a.graph marked.whole)),
    )

-- ---- lets

-- under one let more, the lets before it are the same
pub let_before : (lets : List (VarName × ExprTree)) (n k : ℕ) → k < n → of_lets lets (suc n) k ≡ of_lets lets n k
let_before lets n k l = ap (λ b. if b then of_one_let (of_lets lets n) (slice_get lets n) else of_lets lets n k) (ne_eqb k n (λ e. omega (arith, e, l)))

pub let_here : (lets : List (VarName × ExprTree)) (n : ℕ) (l : VarName × ExprTree) → slice_get lets n ≡ Some l → of_lets lets (suc n) n ≡ automaton_of (of_lets lets n) l.1
let_here lets n l at =
    ap (λ b. if b then of_one_let (of_lets lets n) (slice_get lets n) else of_lets lets n n) (eq-eqb n n refl) ∙ ap (of_one_let (of_lets lets n)) at

-- ---- the first lets

pub none_compiled : (q : QueryTree) → AreCompiled q []
none_compiled q = record { few = omega arith; reduce = λ k a at. absurd (cc); small = λ k l b at. absurd (omega (arith, b)) }

-- a place in a list with one element more
pushed_at : {X : Type 0} (xs : List X) (x s : X) (k : ℕ) → slice_get (xs ++ x ∷ []) k ≡ Some s → ((k < length xs) × (slice_get xs k ≡ Some s)) ⊎ ((k ≡ length xs) × (x ≡ s))
pushed_at [] x s zero at = let same : x ≡ s = cc in inr (refl, same)
pushed_at [] x s (suc k) at = absurd (cc)
pushed_at (y ∷ xs) x s zero at = inl (omega arith, at)
pushed_at (y ∷ xs) x s (suc k) at =
    elim (pushed_at xs x s k at) as (λ _. ((suc k < suc (length xs)) × (slice_get (y ∷ xs) (suc k) ≡ Some s)) ⊎ ((suc k ≡ suc (length xs)) × (x ≡ s))) [
      | inl a ↦ inl (omega (arith, a.0), a.1)
      | inr b ↦ inr (omega (arith, b.0), b.1)
    ]

pub one_more : (q : QueryTree) (lets : List Marked) (l : VarName × ExprTree) (a : Marked) → slice_get q.lets (length lets) ≡ Some l → AreCompiled q lets → IsCompiledFrom q (length lets) l.1 a →
    AreCompiled q (lets ++ a ∷ [])
one_more q lets l a at known this = record { few = few; reduce = reduce; small = small }
  where
    long : length (lets ++ a ∷ []) ≡ suc (length lets)
    long = let e = length-append lets (a ∷ []) in omega (arith, e)

    few : length (lets ++ a ∷ []) ≤ length q.lets
    few = omega (arith, long, slice_get_within q.lets (length lets) l at)

    reduce : (k : ℕ) (b : Marked) → slice_get (lets ++ a ∷ []) k ≡ Some b → ReducesMarked b (of_lets q.lets (length (lets ++ a ∷ [])) k)
    reduce k b there =
        rw long (
        elim (pushed_at lets a b k there) as (λ _. ReducesMarked b (of_lets q.lets (suc (length lets)) k)) [
          | inl c ↦ rw (let_before q.lets (length lets) k c.0) (known.reduce k b c.1)
          | inr c ↦
              rw c.0
              (rw (let_here q.lets (length lets) l at)
              (rw (← c.1) this.reduces))
        ])

    small : (k : ℕ) (m : VarName × ExprTree) → k < length (lets ++ a ∷ []) → slice_get q.lets k ≡ Some m → HasSmallAtoms m.1
    small k m b e =
        elim (cases_lt k (length lets)) as (λ _. HasSmallAtoms m.1) [
          | inl less ↦ known.small k m less e
          | inr le ↦
              let same : k ≡ length lets = omega (arith, b, long, le) in
              let one : Some m ≡ Some l = sym e ∙ (ap (λ n. slice_get q.lets n) same ∙ at) in
              let eq : l ≡ m = cc in
              rw (← eq) this.small
        ]

-- the atoms of all lets are small
pub all_lets_small : (q : QueryTree) (lets : List Marked) → AreCompiled q lets → length lets ≡ length q.lets → (l : VarName × ExprTree) → Has q.lets l → HasSmallAtoms l.1
all_lets_small q lets known long l h = let p = place_of-Has q.lets l h in known.small p.0 l (omega (arith, p.1, long)) p.2

-- what is asked of the next let
pub asked_let : (q : QueryTree) (n : ℕ) (l : VarName × ExprTree) → IsSound q → slice_get q.lets n ≡ Some l → IsAsked q n l.1
asked_let q n l s at = record { sound = s; sound_expr = (s.sound_lets n l at).0; named = λ x h. inl (let_named q.lets n l x at h) }

-- what is asked of the body
pub asked_body : (q : QueryTree) → IsSound q → IsAsked q (length q.lets) q.body
asked_body q s = record { sound = s; sound_expr = s.sound_body.0; named = λ x h. inr h }

-- ---- the next let, as it is compiled

module _ (first b : BegunQuery) (same : b.query ≡ first.query) (k : ℕ) (long : length b.lets ≡ k) (known : AreCompiled (query_of first.query) b.lets) (l : VarName × ExprTree)
    (at : slice_get (query_of first.query).lets k ≡ Some l) where
  pub let_can : IsSound (query_of first.query) → CanCompile b l.1
  let_can sound = record {
    known = rw same known;
    asked = rw same
        (rw long (asked_let (query_of first.query) k l sound at));
  }

  pub let_fault : (fault : SizeFault) → HasLargePartIn b l.1 fault → HasLargePart (query_of first.query) fault
  let_fault fault h =
      let here = rw same at h in
      inl (k, l, at, rw (← long) here)

  pub let_more : (a : Marked) → IsCompiledIn b l.1 a → AreCompiled (query_of first.query) (b.lets ++ a ∷ [])
  let_more a made =
      one_more (query_of first.query) b.lets l a (ap (λ n. slice_get (query_of first.query).lets n) long ∙ at) known
      (rw (← same) made)

-- ---- the body, after all lets

module _ (q : Query) (b : BegunQuery) (same : b.query ≡ q) (long : length b.lets ≡ length (query_of q).lets) where
  pub body_can : AreCompiled (query_of q) b.lets → IsSound (query_of q) → CanCompile b (query_of q).body
  body_can known sound = record {
    known = rw same known;
    asked = rw same
        (rw long (asked_body (query_of q) sound));
  }

  pub body_fault : (fault : SizeFault) → HasLargePartIn b (query_of q).body fault → HasLargePart (query_of q) fault
  body_fault fault h =
      let here = rw same at h in
      inr (rw (← long) here)

  pub body_made : (body : Marked) → IsCompiledIn b (query_of q).body body → IsCompiledFrom (query_of q) (length b.lets) (query_of q).body body
  body_made body made = rw same at made
