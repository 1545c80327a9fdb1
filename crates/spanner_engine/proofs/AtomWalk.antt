-- The atoms of a query, part by part.
use Rattle.std.proofs.Common.{◌≡◌, ℕ, ◌+◌, ◌≤◌, ◌⊎◌, ◌↔◌, true, List, [], ◌∷◌, ◌++◌, length, map, take, drop, Some, slice_get, inl, inr, refl, sym, ap, ◌∙◌, subst, arith}
use Rattle.std.specs.Prelude.{option_map}
use Rattle.std.specs.List.{sum_by}
use Rattle.std.proofs.lemmas.List.{length-map, take-append-drop, take_all}
use Rattle.std.proofs.lemmas.Option.{slice_get-map}
use Rattle.span_core.specs.Intervals.{Covers}
use Rattle.span_core.specs.Lists.{Has}
use Rattle.span_core.proofs.HasLaws.{Has-slice_get}
use Rattle.spanner_model.specs.Captures.{VarName}
use Rattle.spanner_model.specs.Expression.{AtomTree, ExprTree, QueryTree, join_all, union_all}
use Rattle.spanner_model.specs.Sound.{IsSound}
use Rattle.spanner_model.proofs.TreeLaws.{take_at_more}
use Rattle.automaton_reading.proofs.Matching.{cons_sum}
use Rattle.query_automaton.proofs.Combining.{Join, Union}
use Rattle.query_automaton.proofs.CompileLaws.{asked_part}
use Rattle.query_automaton.proofs.PieceLaws.{asked_body, asked_let}
use Rattle.spanner_engine.specs.Touching.{HasMinus, SomeAtom, SomeAtomOf, TouchedOf, sum_atoms}
use Rattle.segment_filter.specs.Touching.{IsTouchedBy}
use Rattle.segment_filter.specs.declared.fault.FilterFault.{FilterFault}
use Rattle.segment_filter.specs.declared.fault.FilterFault.TheVariants.{Full, OutOfMemory}
use Rattle.segment_filter.specs.Costs.{touching_steps}
use Rattle.spanner_engine.specs.Begun.{filter_steps}
use Rattle.spanner_engine.specs.Filtering.{AddsTouched, HasFullAtom, IsFilterFault, IsFullAtom, IsInSound, IsTouchedIn, steps_in}

-- ---- parts of sound queries

pub union_sound : (es : List ExprTree) → IsInSound (union_all es) → (e : ExprTree) → Has es e → IsInSound e
union_sound es (q, n, asked) e h = (q, n, asked_part Union q n es e h asked)

pub join_sound : (es : List ExprTree) → IsInSound (join_all es) → (e : ExprTree) → Has es e → IsInSound e
join_sound es (q, n, asked) e h = (q, n, asked_part Join q n es e h asked)

pub let_sound : (q : QueryTree) (n : ℕ) (l : VarName × ExprTree) → IsSound q → slice_get q.lets n ≡ Some l → IsInSound l.1
let_sound q n l sound at = (q, n, asked_let q n l sound at)

pub body_sound : (q : QueryTree) → IsSound q → IsInSound q.body
body_sound q sound = (q, length q.lets, asked_body q sound)

-- ---- some atom of parts

one_more : (G L B E : Type 0) → L ↔ (B ⊎ E) → (G ⊎ L) ↔ ((G ⊎ B) ⊎ E)
one_more G L B E later = (forth, back)
  where
    forth : G ⊎ L → (G ⊎ B) ⊎ E
    forth (inl a) = inl (inl a)
    forth (inr b) = elim (later.0 b) as (λ _. (G ⊎ B) ⊎ E) [ inl c ↦ inl (inr c) | inr c ↦ inr c ]

    back : (G ⊎ B) ⊎ E → G ⊎ L
    back (inl (inl a)) = inl a
    back (inl (inr b)) = inr (later.1 (inl b))
    back (inr c) = inr (later.1 (inr c))

module _ (P : AtomTree → Type 0) where
  pub some_union : (es : List ExprTree) → SomeAtom P (union_all es) ↔ SomeAtom P (join_all es)
  some_union [] = (λ h. h, λ h. h)
  some_union (e ∷ es) =
      let later = some_union es in (
        λ h. elim h as (λ _. SomeAtom P e ⊎ SomeAtom P (join_all es)) [ inl a ↦ inl a | inr b ↦ inr (later.0 b) ],
        λ h. elim h as (λ _. SomeAtom P e ⊎ SomeAtom P (union_all es)) [ inl a ↦ inl a | inr b ↦ inr (later.1 b) ],
      )

  pub some_part : (es : List ExprTree) (e : ExprTree) → Has es e → SomeAtom P e → SomeAtom P (join_all es)
  some_part [] e h p = absurd h
  some_part (g ∷ es) e (inl same) p = inl (subst (SomeAtom P) (sym same) p)
  some_part (g ∷ es) e (inr h) p = inr (some_part es e h p)

  some_more : (es : List ExprTree) (e : ExprTree) → SomeAtom P (join_all (es ++ e ∷ [])) ↔ (SomeAtom P (join_all es) ⊎ SomeAtom P e)
  some_more [] e = (
    λ h. elim h as (λ _. ⊥ ⊎ SomeAtom P e) [ inl a ↦ inr a | inr b ↦ absurd b ],
    λ h. elim h as (λ _. SomeAtom P e ⊎ ⊥) [ inl a ↦ absurd a | inr b ↦ inl b ],
  )
  some_more (g ∷ es) e = one_more (SomeAtom P g) (SomeAtom P (join_all (es ++ e ∷ []))) (SomeAtom P (join_all es)) (SomeAtom P e) (some_more es e)

  -- none of parts, and then of one part more
  pub none_more : (es : List ExprTree) (k : ℕ) (e : ExprTree) → slice_get es k ≡ Some e → ¬ SomeAtom P (join_all (take k es)) → ¬ SomeAtom P e → ¬ SomeAtom P (join_all (take (k + 1) es))
  none_more es k e at none one h =
      elim ((some_more (take k es) e).0 (rw (← take_at_more es k e at) h)) as (λ _. ⊥) [ inl a ↦ none a | inr b ↦ one b ]

  pub none_all : (es : List ExprTree) (k : ℕ) → length es ≤ k → ¬ SomeAtom P (join_all (take k es)) → ¬ SomeAtom P (join_all es)
  none_all es k past none = rw (← take_all k es past) none

  pub none_union : (es : List ExprTree) → ¬ SomeAtom P (join_all es) → ¬ SomeAtom P (union_all es)
  none_union es none h = none ((some_union es).0 h)

  -- of named expressions
  one_let : (m : VarName × ExprTree) (lets : List (VarName × ExprTree)) →
      SomeAtom P (join_all (map (λ (l : VarName × ExprTree). l.1) lets)) ↔ ((l : VarName × ExprTree) × Has lets l × SomeAtom P l.1) →
      SomeAtom P (join_all (map (λ (l : VarName × ExprTree). l.1) (m ∷ lets))) ↔ ((l : VarName × ExprTree) × Has (m ∷ lets) l × SomeAtom P l.1)
  one_let m lets later = (forth, back)
    where
      forth : SomeAtom P m.1 ⊎ SomeAtom P (join_all (map (λ (l : VarName × ExprTree). l.1) lets)) → (l : VarName × ExprTree) × Has (m ∷ lets) l × SomeAtom P l.1
      forth (inl a) = (m, inl refl, a)
      forth (inr b) = let g = later.0 b in (g.0, inr g.1, g.2)

      back : (l : VarName × ExprTree) × Has (m ∷ lets) l × SomeAtom P l.1 → SomeAtom P m.1 ⊎ SomeAtom P (join_all (map (λ (l : VarName × ExprTree). l.1) lets))
      back (l, inl same, a) = inl (rw same a)
      back (l, inr h, a) = inr (later.1 (l, h, a))

  some_let : (lets : List (VarName × ExprTree)) → SomeAtom P (join_all (map (λ (l : VarName × ExprTree). l.1) lets)) ↔ ((l : VarName × ExprTree) × Has lets l × SomeAtom P l.1)
  some_let [] = (λ h. absurd h, λ h. absurd h.1)
  some_let (m ∷ lets) = one_let m lets (some_let lets)

  -- none of lets, and then of the body
  pub none_of : (q : QueryTree) (k : ℕ) → length q.lets ≤ k → ¬ SomeAtom P (join_all (take k (map (λ (l : VarName × ExprTree). l.1) q.lets))) → ¬ SomeAtom P q.body → ¬ SomeAtomOf P q
  none_of q k past lets body (inl h) =
      let long : length (map (λ (l : VarName × ExprTree). l.1) q.lets) ≤ k = omega (arith, past, length-map q.lets (λ (l : VarName × ExprTree). l.1)) in
      none_all (map (λ (l : VarName × ExprTree). l.1) q.lets) k long lets ((some_let q.lets).1 h)
  none_of q k past lets body (inr h) = body h

-- ---- what the atoms of parts come to

module _ (m : AtomTree → ℕ) where
  pub sum_union : (es : List ExprTree) → sum_atoms m (union_all es) ≡ sum_atoms m (join_all es)
  sum_union [] = refl
  sum_union (e ∷ es) = ap (λ (n : ℕ). sum_atoms m e + n) (sum_union es)

  sum_both : (es gs : List ExprTree) → sum_atoms m (join_all (es ++ gs)) ≡ sum_atoms m (join_all es) + sum_atoms m (join_all gs)
  sum_both [] gs = omega arith
  sum_both (e ∷ es) gs = omega (arith, sum_both es gs)

  pub sum_more : (es : List ExprTree) (k : ℕ) (e : ExprTree) → slice_get es k ≡ Some e →
      sum_atoms m (join_all (take (k + 1) es)) ≡ sum_atoms m (join_all (take k es)) + sum_atoms m e
  sum_more es k e at =
      let one = ap (λ (gs : List ExprTree). sum_atoms m (join_all gs)) (take_at_more es k e at) in
      omega (arith, one, sum_both (take k es) (e ∷ []))

  pub sum_within : (es : List ExprTree) (k : ℕ) → sum_atoms m (join_all (take k es)) ≤ sum_atoms m (join_all es)
  sum_within es k =
      let all = ap (λ (gs : List ExprTree). sum_atoms m (join_all gs)) (take-append-drop k es) in
      omega (arith, all, sum_both (take k es) (drop k es))

  pub sum_let : (lets : List (VarName × ExprTree)) → sum_atoms m (join_all (map (λ (l : VarName × ExprTree). l.1) lets)) ≡ sum_by (λ (l : VarName × ExprTree). sum_atoms m l.1) lets
  sum_let [] = refl
  sum_let (l ∷ lets) = omega (arith, sum_let lets, cons_sum (λ (k : VarName × ExprTree). sum_atoms m k.1) l lets)

-- ---- positions that are found

-- the expressions of lets
abbrev pub let_exprs : List (VarName × ExprTree) → List ExprTree
let_exprs lets = map (λ (l : VarName × ExprTree). l.1) lets

pub let_at : (lets : List (VarName × ExprTree)) (k : ℕ) (l : VarName × ExprTree) → slice_get lets k ≡ Some l → slice_get (let_exprs lets) k ≡ Some l.1
let_at lets k l at = slice_get-map (λ (l : VarName × ExprTree). l.1) lets k ∙ ap (option_map (λ (l : VarName × ExprTree). l.1)) at

module _ (d : List ℕ) where
  -- those of a union are those of the join of its parts
  pub touched_union : (es : List ExprTree) (before after : List (ℕ × ℕ)) → AddsTouched d (join_all es) before after → AddsTouched d (union_all es) before after
  touched_union es before after adds i =
      let same = some_union (λ a. IsTouchedBy a d i) es in (
        λ h. elim ((adds i).0 h) as (λ _. Covers before i ⊎ IsTouchedIn d (union_all es) i) [ inl a ↦ inl a | inr b ↦ inr (same.1 b) ],
        λ h. (adds i).1 (elim h as (λ _. Covers before i ⊎ IsTouchedIn d (join_all es) i) [ inl a ↦ inl a | inr b ↦ inr (same.0 b) ]),
      )

  -- none yet
  pub touched_none : (es : List ExprTree) (before : List (ℕ × ℕ)) → AddsTouched d (join_all (take 0 es)) before before
  touched_none es before i = (λ h. inl h, λ h. elim h as (λ _. Covers before i) [ inl a ↦ a | inr b ↦ absurd b ])

  -- first those of one expression, and then those of the next
  touched_then : (X Y Z B M A : Type 0) → Z ↔ (X ⊎ Y) → M ↔ (B ⊎ X) → A ↔ (M ⊎ Y) → A ↔ (B ⊎ Z)
  touched_then X Y Z B M A both first next = (forth, back)
    where
      in_first : M → B ⊎ Z
      in_first m = elim (first.0 m) as (λ _. B ⊎ Z) [ inl b ↦ inl b | inr x ↦ inr (both.1 (inl x)) ]

      forth : A → B ⊎ Z
      forth a = elim (next.0 a) as (λ _. B ⊎ Z) [ inl m ↦ in_first m | inr y ↦ inr (both.1 (inr y)) ]

      of_both : X ⊎ Y → A
      of_both (inl x) = next.1 (inl (first.1 (inr x)))
      of_both (inr y) = next.1 (inr y)

      back : B ⊎ Z → A
      back (inl b) = next.1 (inl (first.1 (inl b)))
      back (inr z) = of_both (both.0 z)

  -- with one part more
  pub touched_more : (es : List ExprTree) (k : ℕ) (e : ExprTree) → slice_get es k ≡ Some e → (before mid after : List (ℕ × ℕ)) →
      AddsTouched d (join_all (take k es)) before mid → AddsTouched d e mid after → AddsTouched d (join_all (take (k + 1) es)) before after
  touched_more es k e at before mid after first next =
      rw (take_at_more es k e at) (
      λ i.
      touched_then (IsTouchedIn d (join_all (take k es)) i) (IsTouchedIn d e i) (IsTouchedIn d (join_all (take k es ++ e ∷ [])) i) (Covers before i) (Covers mid i) (Covers after i)
      (some_more (λ a. IsTouchedBy a d i) (take k es) e) (first i) (next i))

  -- all of them
  pub touched_all : (es : List ExprTree) (k : ℕ) (before after : List (ℕ × ℕ)) → length es ≤ k → AddsTouched d (join_all (take k es)) before after → AddsTouched d (join_all es) before after
  touched_all es k before after past adds = rw (← take_all k es past) adds

  -- those of the lets, and then those of the body
  touched_all_of : (q : QueryTree) (k : ℕ) (mid after : List (ℕ × ℕ)) → length q.lets ≤ k →
      AddsTouched d (join_all (take k (let_exprs q.lets))) [] mid → AddsTouched d q.body mid after → (i : ℕ) → Covers after i ↔ SomeAtomOf (λ a. IsTouchedBy a d i) q
  touched_all_of q k mid after past lets body i =
      let S : Type 0 = SomeAtomOf (λ a. IsTouchedBy a d i) q in
      let long : length (let_exprs q.lets) ≤ k = omega (arith, past, length-map q.lets (λ (l : VarName × ExprTree). l.1)) in
      let all = touched_all (let_exprs q.lets) k [] mid long lets in
      let named = some_let (λ a. IsTouchedBy a d i) q.lets in (
        λ h. elim ((body i).0 h) as (λ _. S) [
          | inl a ↦ elim ((all i).0 a) as (λ _. S) [ inl b ↦ absurd b | inr b ↦ inl (named.0 b) ]
          | inr c ↦ inr c
        ],
        λ h. elim h as (λ _. Covers after i) [ inl a ↦ (body i).1 (inl ((all i).1 (inr (named.1 a)))) | inr c ↦ (body i).1 (inr c) ],
      )

  -- which are all that are touched where no difference stands in the text
  pub touched_of : (q : QueryTree) → ¬ HasMinus q → (k : ℕ) (mid after : List (ℕ × ℕ)) → length q.lets ≤ k →
      AddsTouched d (join_all (take k (let_exprs q.lets))) [] mid → AddsTouched d q.body mid after → (i : ℕ) → Covers after i ↔ TouchedOf q d i
  touched_of q plain k mid after past lets body i =
      let all = touched_all_of q k mid after past lets body i in
      (λ h. inl (all.0 h), λ h. elim h as (λ _. Covers after i) [ inl a ↦ all.1 a | inr m ↦ absurd (plain m.0) ])

  -- ---- why the walk ends

  pub full_union : (limit : ℕ) (es : List ExprTree) (fault : FilterFault) → HasFullAtom d limit (join_all es) fault → HasFullAtom d limit (union_all es) fault
  full_union limit es (Full weight) h = (some_union (IsFullAtom d limit weight) es).1 h
  full_union limit es OutOfMemory h = tt

  pub full_part : (limit : ℕ) (es : List ExprTree) (k : ℕ) (e : ExprTree) → slice_get es k ≡ Some e → (fault : FilterFault) → HasFullAtom d limit e fault → HasFullAtom d limit (join_all es) fault
  full_part limit es k e at (Full weight) h = some_part (IsFullAtom d limit weight) es e (Has-slice_get es k e at) h
  full_part limit es k e at OutOfMemory h = tt

  pub full_let : (limit : ℕ) (q : QueryTree) → ¬ HasMinus q → (k : ℕ) (l : VarName × ExprTree) → slice_get q.lets k ≡ Some l → (fault : FilterFault) → HasFullAtom d limit l.1 fault →
      IsFilterFault q d true limit fault
  full_let limit q plain k l at (Full weight) h = (refl, plain, inl (l, Has-slice_get q.lets k l at, h))
  full_let limit q plain k l at OutOfMemory h = tt

  pub full_body : (limit : ℕ) (q : QueryTree) → ¬ HasMinus q → (fault : FilterFault) → HasFullAtom d limit q.body fault → IsFilterFault q d true limit fault
  full_body limit q plain (Full weight) h = (refl, plain, inr h)
  full_body limit q plain OutOfMemory h = tt

  -- ---- steps

  pub steps_union : (es : List ExprTree) → steps_in d (union_all es) ≡ steps_in d (join_all es)
  steps_union es = sum_union (λ a. touching_steps a d) es

  pub steps_more : (es : List ExprTree) (k : ℕ) (e : ExprTree) → slice_get es k ≡ Some e → (old mid new : ℕ) →
      mid ≤ old + steps_in d (join_all (take k es)) → new ≤ mid + steps_in d e → new ≤ old + steps_in d (join_all (take (k + 1) es))
  steps_more es k e at old mid new first next = omega (arith, first, next, sum_more (λ a. touching_steps a d) es k e at)

  pub steps_first : (es : List ExprTree) (k old new : ℕ) → new ≤ old + steps_in d (join_all (take k es)) → new ≤ old + steps_in d (join_all es)
  steps_first es k old new first = omega (arith, first, sum_within (λ a. touching_steps a d) es k)

  pub steps_part : (es : List ExprTree) (k : ℕ) (e : ExprTree) → slice_get es k ≡ Some e → (old mid new : ℕ) →
      mid ≤ old + steps_in d (join_all (take k es)) → new ≤ mid + steps_in d e → new ≤ old + steps_in d (join_all es)
  steps_part es k e at old mid new first next =
      steps_first es (k + 1) old new (steps_more es k e at old mid new first next)

  module _ (q : QueryTree) (k : ℕ) (old mid new : ℕ) (first : mid ≤ old + steps_in d (join_all (take k (let_exprs q.lets)))) where
    lets_cost : sum_atoms (λ a. touching_steps a d) (join_all (take k (let_exprs q.lets))) ≤ sum_by (λ (l : VarName × ExprTree). sum_atoms (λ a. touching_steps a d) l.1) q.lets
    lets_cost = omega (arith, sum_within (λ a. touching_steps a d) (let_exprs q.lets) k, sum_let (λ a. touching_steps a d) q.lets)

    -- where a let's walk ends early
    pub steps_let : (l : VarName × ExprTree) → slice_get q.lets k ≡ Some l → new ≤ mid + steps_in d l.1 → new ≤ old + filter_steps true q d
    steps_let l at next =
        let part = steps_part (let_exprs q.lets) k l.1 (let_at q.lets k l at) old mid new first next in
        omega (arith, part, sum_let (λ a. touching_steps a d) q.lets)

    pub steps_body : new ≤ mid + steps_in d q.body → new ≤ old + filter_steps true q d
    steps_body next = omega (arith, first, next, lets_cost)
