-- How much is held while a query is compiled.
use Rattle.std.proofs.Common.{◌≡◌, ℕ, zero, suc, ◌+◌, ◌*◌, ◌≤◌, Bool, true, false, List, [], ◌∷◌, length, take, Some, inl, inr, refl, ap, arith}
use Rattle.std.specs.Prelude.{slice_get, max, if◌then◌else◌}
use Rattle.std.proofs.Math.Nat.{le-max_left, le-max_right}
use Rattle.std.proofs.lemmas.Nat.{mul-le}
use Rattle.std.proofs.lemmas.Option.{slice_get_within}
use Rattle.span_core.specs.Lists.{Has}
use Rattle.span_core.proofs.HasLaws.{Has-slice_get}
use Rattle.spanner_model.specs.Captures.{VarName}
use Rattle.spanner_model.specs.Expression.{AtomTree, ExprTree, QueryTree, atom, named, union_end, union, join_end, join, project, minus, union_all, join_all}
use Rattle.marked_automaton.specs.declared.TheConstants.{MOST_WAYS}
use Rattle.marked_automaton.specs.declared.fault.SizeFault.{SizeFault}
use Rattle.marked_automaton.specs.declared.fault.SizeFault.TheVariants.{OutOfMemory}
use Rattle.marked_automaton.specs.Automaton.{IsMarked, Marked, size}
use Rattle.marked_automaton.specs.Reduct.{Reduces}
use Rattle.marked_automaton.proofs.Sizes.{reduct_is_no_larger}
use Rattle.place_automaton.specs.Counts.{count_ways, counts_over, has_large_null, ways_of}
use Rattle.place_automaton.specs.Variables.{with_vars}
use Rattle.place_automaton.proofs.CountLaws.{count_law}
use Rattle.query_automaton.specs.declared.fault.CompileFault.{CompileFault}
use Rattle.query_automaton.specs.declared.fault.CompileFault.TheVariants.{Size, Held, Ends, Spent}
use Rattle.spanner_model.specs.ExprView.{query_of}
use Rattle.query_automaton.specs.BegunQuery.{BegunQuery}
use Rattle.query_automaton.specs.Compiling.{IsCompiledFrom}
use Rattle.query_automaton.specs.Held.{ArePartsWithin, HasCause, HasCauseOf, IsHoldFault, IsWithin, QueriesOfFewEnds, QueriesOfFewSteps, QueriesOfSmallParts, Takes, waits, waits_of_lets}
use Rattle.query_automaton.specs.Parts.{HasJoinStep, HasLargePartOf, HasPart, HasSmallAtoms, HasUnionStep, PartNumbers, numbers_of}
use Rattle.query_automaton.specs.QueryAutomaton.{automaton_of, of_join, of_lets, of_union, together, united}
use Rattle.query_automaton.proofs.Combining.{Operation, Union, Join, all_of}
use Rattle.query_automaton.proofs.CompileLaws.{SoFar, all_small}
use Rattle.query_automaton.specs.Steps.{minus_steps_of, steps_of, steps_within}
use Rattle.query_automaton.specs.Told.{IsTold}
use Rattle.query_automaton.proofs.StepLaws.{made_cost, step_le, step_more, steps_next, steps_part}
use Rattle.query_automaton.proofs.PartLaws.{join_part_of, large_part, union_part_of}

-- ---- what waits

-- a part of several has one fewer that wait
pub waits_part : (o : Operation) (es : List ExprTree) (e : ExprTree) → Has es e → 1 + waits e ≤ waits (all_of o es)
waits_part o [] e h = absurd h
waits_part Union (x ∷ es) e (inl i) = rw (← i) (le-max_left (1 + waits x) (waits (union_all es)))
waits_part Join (x ∷ es) e (inl i) = rw (← i) (le-max_left (1 + waits x) (waits (join_all es)))
waits_part Union (x ∷ es) e (inr h) = omega (arith, waits_part Union es e h, le-max_right (1 + waits x) (waits (union_all es)))
waits_part Join (x ∷ es) e (inr h) = omega (arith, waits_part Join es e h, le-max_right (1 + waits x) (waits (join_all es)))

-- of one let and of all
pub waits_let : (lets : List (VarName × ExprTree)) (k : ℕ) (l : VarName × ExprTree) → slice_get lets k ≡ Some l → waits l.1 ≤ waits_of_lets lets
waits_let [] k l at = absurd (cc)
waits_let (x ∷ lets) zero l at =
    let same : x ≡ l = cc in
    rw (← same) (le-max_left (waits x.1) (waits_of_lets lets))
waits_let (x ∷ lets) (suc k) l at = omega (arith, waits_let lets k l at, le-max_right (waits x.1) (waits_of_lets lets))

-- ---- parts of the first parts

module _ (L : ℕ → Marked) where
  union_step_first : (k : ℕ) (xs : List ExprTree) (A : Marked) (n : PartNumbers) → HasUnionStep L A (union_all (take k xs)) n → HasUnionStep L A (union_all xs) n
  union_step_first zero xs A n h = absurd h
  union_step_first (suc k) [] A n h = absurd h
  union_step_first (suc k) (x ∷ xs) A n (inl p) = inl p
  union_step_first (suc k) (x ∷ xs) A n (inr (inl e)) = inr (inl e)
  union_step_first (suc k) (x ∷ xs) A n (inr (inr h)) = inr (inr (union_step_first k xs (of_union A (automaton_of L x)) n h))

  join_step_first : (k : ℕ) (xs : List ExprTree) (A : Marked) (n : PartNumbers) → HasJoinStep L A (join_all (take k xs)) n → HasJoinStep L A (join_all xs) n
  join_step_first zero xs A n h = absurd h
  join_step_first (suc k) [] A n h = absurd h
  join_step_first (suc k) (x ∷ xs) A n (inl p) = inl p
  join_step_first (suc k) (x ∷ xs) A n (inr (inl e)) = inr (inl e)
  join_step_first (suc k) (x ∷ xs) A n (inr (inr h)) = inr (inr (join_step_first k xs (of_join A (automaton_of L x)) n h))

  part_of_first : (o : Operation) (k : ℕ) (es : List ExprTree) (n : PartNumbers) → HasPart L (all_of o (take k es)) n → HasPart L (all_of o es) n
  part_of_first Union zero es n h = absurd h
  part_of_first Join zero es n h = absurd h
  part_of_first Union (suc k) [] n h = absurd h
  part_of_first Join (suc k) [] n h = absurd h
  part_of_first Union (suc k) (x ∷ es) n (inl p) = inl p
  part_of_first Join (suc k) (x ∷ es) n (inl p) = inl p
  part_of_first Union (suc k) (x ∷ es) n (inr h) = inr (union_step_first k es (automaton_of L x) n h)
  part_of_first Join (suc k) (x ∷ es) n (inr h) = inr (join_step_first k es (automaton_of L x) n h)

  pub part_of_one : (o : Operation) (es : List ExprTree) (e : ExprTree) (n : PartNumbers) → Has es e → HasPart L e n → HasPart L (all_of o es) n
  part_of_one Union es e n h p = union_part_of L es e n h p
  part_of_one Join es e n h p = join_part_of L es e n h p

-- ---- the size of an expression's automaton, where its parts are within a number

ways_counted : (a : AtomTree) → count_ways a ≤ MOST_WAYS → has_large_null a.formula ≡ false
ways_counted a few = go (has_large_null a.formula) refl
  where
    go : (b : Bool) → has_large_null a.formula ≡ b → has_large_null a.formula ≡ false
    go false e = e
    go true e =
        let many : count_ways a ≡ MOST_WAYS + 1 = ap (λ b. if b then MOST_WAYS + 1 else ways_of a.from_start a.to_end (counts_over (with_vars [] a.formula) a.formula)) e in
        absurd (omega (arith, many, few))

module _ (L : ℕ → Marked) (most : ℕ) where
  abbrev Within : (PartNumbers → Type 0) → Type 0
  Within P = (n : PartNumbers) → P n → n.states + n.ways + n.ends ≤ most

  union_within : (rest : ExprTree) (A : Marked) → size A.graph ≤ most → Within (HasUnionStep L A rest) → size (united L A rest).graph ≤ most
  union_within (union e rest) A a h =
      union_within rest (of_union A (automaton_of L e)) (h (numbers_of (of_union A (automaton_of L e))) (inr (inl refl))) (λ n p. h n (inr (inr p)))
  union_within (atom u) A a h = a
  union_within (named k) A a h = a
  union_within union_end A a h = a
  union_within join_end A a h = a
  union_within (join e rest) A a h = a
  union_within (project names e) A a h = a
  union_within (minus e g) A a h = a

  join_within : (rest : ExprTree) (A : Marked) → size A.graph ≤ most → Within (HasJoinStep L A rest) → size (together L A rest).graph ≤ most
  join_within (join e rest) A a h =
      join_within rest (of_join A (automaton_of L e)) (h (numbers_of (of_join A (automaton_of L e))) (inr (inl refl))) (λ n p. h n (inr (inr p)))
  join_within (atom u) A a h = a
  join_within (named k) A a h = a
  join_within union_end A a h = a
  join_within (union e rest) A a h = a
  join_within join_end A a h = a
  join_within (project names e) A a h = a
  join_within (minus e g) A a h = a

  pub part_size : (e : ExprTree) → ArePartsWithin L e most → HasSmallAtoms e → size (automaton_of L e).graph ≤ most
  part_size (atom u) h small =
      let law = count_law u in
      let most_here = h _ refl in
      omega (arith, law.0, law.1 (ways_counted u small.1), most_here)
  part_size (named k) h small = h (numbers_of (L k)) refl
  part_size union_end h small = omega arith
  part_size (union e rest) h small = union_within rest (automaton_of L e) (part_size e (λ n p. h n (inl p)) small.0) (λ n p. h n (inr p))
  part_size join_end h small = omega arith
  part_size (join e rest) h small = join_within rest (automaton_of L e) (part_size e (λ n p. h n (inl p)) small.0) (λ n p. h n (inr p))
  part_size (project names e) h small = h (numbers_of (automaton_of L (project names e))) (inr refl)
  part_size (minus e g) h small = h (numbers_of (automaton_of L (minus e g))) (inr (inr refl))

-- what is made of an automaton is no larger
pub reduced_size : (a A : Marked) → IsMarked a → Reduces a.graph A.graph → size a.graph ≤ size A.graph
reduced_size a A marked r =
    let less = reduct_is_no_larger a.graph A.graph marked.whole marked.some_byte r in
    omega (arith, less.0, less.1, less.2)

pub compiled_size : {q : QueryTree} {n : ℕ} {e : ExprTree} {a : Marked} → IsCompiledFrom q n e a → IsMarked a → (most : ℕ) → ArePartsWithin (of_lets q.lets n) e most → size a.graph ≤ most
compiled_size {q} {n} {e} {a} made marked most within =
    let L = of_lets q.lets n in
    omega (arith, reduced_size a (automaton_of L e) marked made.reduces.1, part_size L most e within made.small)

pub so_far_size : {q : QueryTree} {n : ℕ} {o : Operation} {es : List ExprTree} {k : ℕ} {a : Marked} → SoFar q n o es k a → IsMarked a →
    (most : ℕ) → ArePartsWithin (of_lets q.lets n) (all_of o es) most → size a.graph ≤ most
so_far_size {q} {n} {o} {es} {k} {a} so_far marked most within =
    let L = of_lets q.lets n in
    let first = all_of o (take k es) in
    omega (arith, reduced_size a (automaton_of L first) marked so_far.reduces.1, part_size L most first (λ n p. within n (part_of_first L o k es n p)) (all_small o (take k es) so_far.small))

-- ---- causes

module _ (L : ℕ → Marked) where
  -- the steps of a part and of the whole, where the parts of the whole are within a number
  abbrev pub AreSteps : ℕ → ℕ → ExprTree → ExprTree → Type 0
  AreSteps effort after e w =
      (most : ℕ) → ArePartsWithin L w most → after ≤ steps_within most e → effort ≤ steps_within most w

  -- the cause of a part is one of the whole
  pub cause_up : (held more effort after : ℕ) (e w : ExprTree) (fault : CompileFault) → ((n : PartNumbers) → HasPart L e n → HasPart L w n) →
      ((most : ℕ) → ArePartsWithin L w most → more + waits e * most ≤ held + waits w * most) → AreSteps effort after e w → HasCauseOf L more after e fault → HasCauseOf L held effort w fault
  cause_up held more effort after e w (Size fault) up le steps h = large_part L e w fault up h
  cause_up held more effort after e w (Held count) up le steps h = (h.0, λ most within. omega (arith, h.1 most (λ n p. within n (up n p)), le most within))
  cause_up held more effort after e w (Ends count) up le steps h = (h.0, λ most within. h.1 most (λ n p. within n (up n p)))
  cause_up held more effort after e w Spent up le steps h = λ most within. steps most within (h most (λ n p. within n (up n p)))

  -- of the first of several
  pub cause_first : (held effort : ℕ) (o : Operation) (es : List ExprTree) (k : ℕ) (e : ExprTree) → slice_get es k ≡ Some e → (fault : CompileFault) → HasCauseOf L held effort e fault →
      HasCauseOf L held effort (all_of o es) fault
  cause_first held effort o es k e at fault h =
      let has = Has-slice_get es k e at in
      cause_up held held effort effort e (all_of o es) fault (λ n p. part_of_one L o es e n has p)
      (λ most within. omega (arith, mul-le (waits e) most (waits (all_of o es)) most (omega (arith, waits_part o es e has)) (omega arith)))
      (λ most within le. omega (arith, le, steps_part most o es e has)) h

  -- the steps of the first k parts
  abbrev pub TakesFirst : Operation → List ExprTree → ℕ → ℕ → ℕ → Type 0
  TakesFirst o es k before after =
      (most : ℕ) → ArePartsWithin L (all_of o es) most → before ≤ after + steps_within most (all_of o (take k es))

  -- of another, where what was made of those before waits
  pub cause_next : (held effort after : ℕ) (o : Operation) (es : List ExprTree) (k : ℕ) (e : ExprTree) (A : Marked) → slice_get es k ≡ Some e → (fault : CompileFault) →
      ((most : ℕ) → ArePartsWithin L (all_of o es) most → size A.graph ≤ most) → TakesFirst o es k effort after → HasCauseOf L (held + size A.graph) after e fault →
      HasCauseOf L held effort (all_of o es) fault
  cause_next held effort after o es k e A at fault fits takes h =
      let has = Has-slice_get es k e at in
      cause_up held (held + size A.graph) effort after e (all_of o es) fault (λ n p. part_of_one L o es e n has p)
      (λ most within. omega (arith, fits most within, mul-le (1 + waits e) most (waits (all_of o es)) most (waits_part o es e has) (omega arith)))
      (λ most within le.
      step_le effort after (steps_within most (all_of o (take k es))) (steps_within most e) (steps_within most (all_of o es)) (takes most within) le (omega (arith, steps_next most o es k e at))) h

  -- where an operation on the first parts and the next is refused
  pub cause_of_two : (P : SizeFault → Type 0) (held effort after cost ends : ℕ) (o : Operation) (es : List ExprTree) (k : ℕ) (e : ExprTree) → slice_get es k ≡ Some e →
      ((fault : SizeFault) → P fault → HasLargePartOf L (all_of o es) fault) → ((most : ℕ) → ArePartsWithin L (all_of o es) most → ends ≤ most) →
      ((most : ℕ) → ArePartsWithin L (all_of o es) most → cost ≤ steps_of most) →
      ((most : ℕ) → ArePartsWithin L (all_of o es) most → effort ≤ after + (steps_within most (all_of o (take k es)) + steps_within most e)) →
      (fault : CompileFault) → IsTold P ends after cost fault → HasCauseOf L held effort (all_of o es) fault
  cause_of_two P held effort after cost ends o es k e at large few costs takes (Size fault) h = large fault h
  cause_of_two P held effort after cost ends o es k e at large few costs takes (Held count) h = absurd h
  cause_of_two P held effort after cost ends o es k e at large few costs takes (Ends count) h = (h.0, λ most within. omega (arith, h.1, few most within))
  cause_of_two P held effort after cost ends o es k e at large few costs takes Spent h = λ most within.
      step_le effort after (steps_within most (all_of o (take k es)) + steps_within most e) (steps_of most) (steps_within most (all_of o es)) (takes most within) (omega (arith, h, costs most within))
      (omega (arith, steps_next most o es k e at))

  -- of the two sides of a difference
  pub cause_left : (held effort : ℕ) {x : ExprTree} (e g : ExprTree) → x ≡ minus e g → (fault : CompileFault) → HasCauseOf L held effort e fault → HasCauseOf L held effort x fault
  cause_left held effort e g is fault h =
      rw is
      (cause_up held held effort effort e (minus e g) fault (λ n p. inl p)
      (λ most within. omega (arith, mul-le (waits e) most (waits (minus e g)) most (le-max_left (waits e) (1 + waits g)) (omega arith)))
      (λ most within le. omega (arith, le)) h)

  pub cause_right : (held effort after : ℕ) {x : ExprTree} (e g : ExprTree) (A : Marked) → x ≡ minus e g → (fault : CompileFault) →
      ((most : ℕ) → ArePartsWithin L e most → size A.graph ≤ most) → Takes L e effort after → HasCauseOf L (held + size A.graph) after g fault → HasCauseOf L held effort x fault
  cause_right held effort after e g A is fault fits takes h =
      rw is
      (cause_up held (held + size A.graph) effort after g (minus e g) fault (λ n p. inr (inl p))
      (λ most within. omega (arith, fits most (λ n p. within n (inl p)), mul-le (1 + waits g) most (waits (minus e g)) most (le-max_right (waits e) (1 + waits g)) (omega arith)))
      (λ most within le. step_le effort after (steps_within most e) (steps_within most g) (steps_within most (minus e g)) (takes most (λ n p. within n (inl p))) le (omega arith)) h)

  -- what both sides take
  pub sides_take : (before middle after : ℕ) (e g : ExprTree) → Takes L e before middle → Takes L g middle after → (most : ℕ) → ArePartsWithin L (minus e g) most →
      before ≤ after + (steps_within most e + steps_within most g)
  sides_take before middle after e g first second most within =
      step_more before middle after (steps_within most e) (steps_within most g) (steps_within most e + steps_within most g) (first most (λ n p. within n (inl p)))
      (second most (λ n p. within n (inr (inl p)))) (omega arith)

  pub cause_minus : (P : SizeFault → Type 0) (held before middle after cost : ℕ) (e g : ExprTree) → Takes L e before middle → Takes L g middle after →
      ((most : ℕ) → ArePartsWithin L (minus e g) most → cost ≤ minus_steps_of most) → ((fault : SizeFault) → P fault → HasLargePartOf L (minus e g) fault) →
      (fault : CompileFault) → IsTold P 0 after cost fault → HasCauseOf L held before (minus e g) fault
  cause_minus P held before middle after cost e g first second costs large (Size fault) h = large fault h
  cause_minus P held before middle after cost e g first second costs large (Held count) h = absurd h
  cause_minus P held before middle after cost e g first second costs large (Ends count) h = absurd (omega (arith, h.0, h.1))
  cause_minus P held before middle after cost e g first second costs large Spent h = λ most within.
      step_le before after (steps_within most e + steps_within most g) (minus_steps_of most) (steps_within most (minus e g)) (sides_take before middle after e g first second most within)
      (omega (arith, h, costs most within)) (omega arith)

  pub takes_minus : (before middle after last cost : ℕ) (e g : ExprTree) → Takes L e before middle → Takes L g middle after →
      ((most : ℕ) → ArePartsWithin L (minus e g) most → cost ≤ minus_steps_of most) → after ≤ last + cost → Takes L (minus e g) before last
  takes_minus before middle after last cost e g first second costs spent most within =
      step_more before after last (steps_within most e + steps_within most g) (minus_steps_of most) (steps_within most (minus e g)) (sides_take before middle after e g first second most within)
      (omega (arith, spent, costs most within)) (omega arith)

  pub cause_inside : (held effort : ℕ) (names : List VarName) (e : ExprTree) (fault : CompileFault) → HasCauseOf L held effort e fault → HasCauseOf L held effort (project names e) fault
  cause_inside held effort names e fault h =
      cause_up held held effort effort e (project names e) fault (λ n p. inl p) (λ most within. omega arith)
      (λ most within le. omega (arith, le)) h

-- the automata of its lets
abbrev pub lets_of : BegunQuery → ℕ → Marked
lets_of b = of_lets (query_of b.query).lets (length b.lets)

-- a projection of what is made of an expression
module _ {q : QueryTree} {n : ℕ} {e : ExprTree} {a : Marked} (names : List VarName) (made : IsCompiledFrom q n e a) (marked : IsMarked a) (effort after : ℕ)
    (takes : Takes (of_lets q.lets n) e effort after) where
  few : (most : ℕ) → ArePartsWithin (of_lets q.lets n) e most → 64 * size a.graph ≤ steps_of most
  few most within = made_cost (size a.graph) most (compiled_size made marked most within)

  pub takes_project : (last : ℕ) → after ≤ last + 64 * size a.graph → Takes (of_lets q.lets n) (project names e) effort last
  takes_project last spent most within =
      let inside : ArePartsWithin (of_lets q.lets n) e most = λ n p. within n (inl p) in
      step_more effort after last (steps_within most e) (steps_of most) (steps_of most + steps_within most e) (takes most inside) (omega (arith, spent, few most inside)) (omega arith)

  pub cause_project : (held : ℕ) (fault : CompileFault) → IsTold (λ f. f ≡ OutOfMemory) 0 after (64 * size a.graph) fault →
      HasCauseOf (of_lets q.lets n) held effort (project names e) fault
  cause_project held (Size fault) h = rw h tt
  cause_project held (Held count) h = absurd h
  cause_project held (Ends count) h = absurd (omega (arith, h.0, h.1))
  cause_project held Spent h = λ most within.
      let inside : ArePartsWithin (of_lets q.lets n) e most = λ n p. within n (inl p) in
      step_le effort after (steps_within most e) (steps_of most) (steps_of most + steps_within most e) (takes most inside) (omega (arith, h, few most inside)) (omega arith)

-- ---- queries

module _ (q : QueryTree) (held effort : ℕ) (k : ℕ) (few : k ≤ length q.lets) (so_far : (most : ℕ) → IsWithin q most → held ≤ k * most) where
  pub held_of_let : (l : VarName × ExprTree) → slice_get q.lets k ≡ Some l → (count : ℕ) → HasCauseOf (of_lets q.lets k) held effort l.1 (Held count) → HasCause q (Held count)
  held_of_let l at count h = (
    h.0,
    λ most within.
        let all = max (waits_of_lets q.lets) (waits q.body) in
        let one = mul-le (waits l.1) most all most (omega (arith, waits_let q.lets k l at, le-max_left (waits_of_lets q.lets) (waits q.body))) (omega arith) in
        let lets = mul-le k most (length q.lets) most few (omega arith) in
        omega (arith, h.1 most (within.0 k l at), so_far most within, one, lets),
  )

  pub held_of_body : k ≡ length q.lets → (count : ℕ) → HasCauseOf (of_lets q.lets (length q.lets)) held effort q.body (Held count) → HasCause q (Held count)
  held_of_body long count h = (
    h.0,
    λ most within.
        let all = max (waits_of_lets q.lets) (waits q.body) in
        let one = mul-le (waits q.body) most all most (le-max_right (waits_of_lets q.lets) (waits q.body)) (omega arith) in
        let lets = mul-le k most (length q.lets) most few (omega arith) in
        omega (arith, h.1 most within.1, so_far most within, one, lets),
  )

  -- one let more is held
  module _ (l : VarName × ExprTree) (at : slice_get q.lets k ≡ Some l) (a : Marked) (made : IsCompiledFrom q k l.1 a) (marked : IsMarked a) where
    pub held_more : (new : ℕ) → new ≤ held + size a.graph → (most : ℕ) → IsWithin q most → new ≤ (k + 1) * most
    held_more new le most within = omega (arith, le, so_far most within, compiled_size made marked most (within.0 k l at))

    pub kept_fault : (fault : CompileFault) → IsHoldFault (held + size a.graph) fault → HasCause q fault
    kept_fault Spent h = absurd h
    kept_fault (Ends count) h = absurd h
    kept_fault (Size fault) h = rw h (inr tt)
    kept_fault (Held count) h = (
      h.0,
      λ most within.
          let all = max (waits_of_lets q.lets) (waits q.body) in
          let next = mul-le (k + 1) most (length q.lets + all) most (omega (arith, slice_get_within q.lets k l at)) (omega arith) in
          omega (arith, h.1, held_more (held + size a.graph) (omega arith) most within, next),
    )

pub queries_of_few_ends : QueriesOfFewEnds
queries_of_few_ends q most count within few h = omega (arith, h.0, h.1 most within, few)

pub queries_of_few_steps : QueriesOfFewSteps
queries_of_few_steps q most within few h = omega (arith, h most within, few)

pub queries_of_small_parts : QueriesOfSmallParts
queries_of_small_parts q most count within few h = omega (arith, h.0, h.1 most within, few)
