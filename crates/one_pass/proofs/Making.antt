-- Making edges: one set that has been stepped, and sets in any order.
use Rattle.std.proofs.Common.{◌≡◌, ℕ, ◌+◌, ◌≤◌, Bool, true, false, List, [], ◌∷◌, ◌++◌, length, map, inl, inr, refl, sym, ap, arith, ◌∙◌}
use Rattle.std.specs.Prelude.{nat_lt, ◌||◌}
use Rattle.std.specs.List.{sum_by}
use Rattle.std.specs.Str.{bytes_eq}
use Rattle.std.proofs.lemmas.Bool.{cases_eq, cases_lt, lt-ltb, ltb-true, or_left, or_right}
use Rattle.std.proofs.lemmas.List.Sums.{sum_by-append, sum_by-le-sum_by}
use Rattle.span_core.specs.Lists.{Has, AreDistinct}
use Rattle.output_graph.specs.Source.{Edges}
use Rattle.marked_automaton.specs.Automaton.{Automaton}
use Rattle.automaton_reading.specs.Reading.{Question, Reach, edges, next_sets}
use Rattle.automaton_reading.proofs.Matching.{cons_sum}
use Rattle.automaton_reading.proofs.MeasureLaws.{bytes_itself}
use Rattle.one_pass.specs.Making.{edges_from, edges_to, is_making, making_at, making_of, making_read, one_if}
use Rattle.one_pass.specs.Places.{sets_after}
use Rattle.one_pass.proofs.Sets.{Covers, next_covers, next_distinct, sum_covers, sum_map}

one_more_if : (b c : Bool) → (b ≡ true → c ≡ true) → one_if b ≤ one_if c
one_more_if false c h = omega arith
one_more_if true c h = let e = ap one_if (h refl) in omega (arith, e)

one_of : (b : Bool) → b ≡ true → one_if b ≡ 1
one_of b e = ap one_if e

or_more : (a b c : Bool) → (b ≡ true → c ≡ true) → (a || b) ≡ true → (a || c) ≡ true
or_more true b c h e = refl
or_more false b c h e = h e

lt_more : (k m n : ℕ) → m ≤ n → nat_lt k m ≡ true → nat_lt k n ≡ true
lt_more k m n le e = lt-ltb k n (let l = ltb-true k m e in omega (arith, l, le))

pub sum_has : {X : Type 0} (f : X → ℕ) (xs : List X) (x : X) → Has xs x → f x ≤ sum_by f xs
sum_has f [] x h = absurd h
sum_has f (y ∷ xs) x (inl e) = let s = cons_sum f y xs in let same = ap f e in omega (arith, s, same)
sum_has f (y ∷ xs) x (inr h) = let s = cons_sum f y xs in let r = sum_has f xs x h in omega (arith, s, r)

-- an edge to the set is one of those that are counted
pub leads_once : (A : Automaton) (a : Question) (to set : List ℕ) (e : Reach) → Has (edges A set a) e → e.to ≡ to → 1 ≤ edges_from A a to set
leads_once A a to set e h is =
    let f : Reach → ℕ = λ r. one_if (bytes_eq r.to to) in
    let here : one_if (bytes_eq e.to to) ≡ 1 = ap one_if (ap (λ s. bytes_eq s to) is ∙ bytes_itself to) in
    let all = sum_has f (edges A set a) e h in
    omega (arith, here, all)

-- edges of two sets, one behind the other, are two
pub led_twice : (A : Automaton) (sets : List (List ℕ)) (a : Question) (to : List ℕ) {X : Type 0} (f : X → List ℕ) (done : List X) (x : X) (left all : List X) →
    done ++ x ∷ left ≡ all → sets ≡ map f all → (y : X) → Has done y → 1 ≤ edges_from A a to (f y) → 1 ≤ edges_from A a to (f x) → 2 ≤ edges_to A sets a to
led_twice A sets a to {X} f done x left all split are y h one two =
    let g : X → ℕ = λ z. edges_from A a to (f z) in
    let same : edges_to A sets a to ≡ sum_by g (done ++ x ∷ left) =
    ap (sum_by (edges_from A a to)) are ∙ (sum_map (edges_from A a to) f all ∙ ap (sum_by g) (sym split)) in
    let parts = sum_by-append g done (x ∷ left) in
    let first = cons_sum g x left in
    let some = sum_has g done y h in
    omega (arith, same, parts, first, some, one, two)

-- one edge is the edge of its marks and target
pub lone_edge : (es : Edges) (e : ℕ × ℕ) → length es ≡ 1 → Has es e → e.0 ≡ 0 → es ≡ (0, e.1) ∷ []
lone_edge [] e n h none = absurd h
lone_edge (f ∷ []) e n (inl is) none = ap (λ (x : ℕ × ℕ). x ∷ []) (is ∙ (λ i. let y : ℕ × ℕ = (none i, e.1) in y))
lone_edge (f ∷ []) e n (inr h) none = absurd h
lone_edge (f ∷ g ∷ es) e n h none = absurd (omega (arith, n))

module _ (A : Automaton) where
  -- ---- one set

  module _ (sets : List (List ℕ)) (a : Question) (set : List ℕ) where
    all_making : (rs : List Reach) → ((r : Reach) → is_making A sets a set r ≡ true) → sum_by (λ (e : Reach). one_if (is_making A sets a set e)) rs ≡ length rs
    all_making [] h = refl
    all_making (r ∷ rs) h =
        let f : Reach → ℕ = λ e. one_if (is_making A sets a set e) in
        let s = cons_sum f r rs in
        let one = one_of (is_making A sets a set r) (h r) in
        let rest = all_making rs h in
        omega (arith, s, one, rest)

    -- where only a lone edge that is no making edge makes no cell, no more are made than there are making edges
    pub making_step : (rs : List Reach) → edges A set a ≡ rs → (old new : ℕ) → new ≤ old + length rs →
        ((r : Reach) → rs ≡ r ∷ [] → r.marks ≡ 0 → edges_to A sets a r.to ≤ 1 → new ≤ old) → new ≤ old + making_of A sets a set
    making_step [] is old new most lone = omega (arith, most)
    making_step (r ∷ []) is old new most lone = elim (cases_eq r.marks 0) as (λ _. new ≤ old + making_of A sets a set) [
      | inl none ↦ elim (cases_lt 1 (edges_to A sets a r.to)) as (λ _. new ≤ old + making_of A sets a set) [
        | inl two ↦ counted (or_right (nat_lt 0 r.marks) _ (or_right (nat_lt 1 (length (edges A set a))) _ (lt-ltb 1 (edges_to A sets a r.to) two)))
        | inr few ↦ (let l = lone r refl none (omega (arith, few)) in omega (arith, l))
      ]
      | inr some ↦ counted (or_left (nat_lt 0 r.marks) _ (lt-ltb 0 r.marks (grind arith)))
    ]
      where
        counted : is_making A sets a set r ≡ true → new ≤ old + making_of A sets a set
        counted e =
            let f : Reach → ℕ = λ x. one_if (is_making A sets a set x) in
            let one = one_of (is_making A sets a set r) e in
            let s = ap (sum_by f) is ∙ cons_sum f r [] in
            omega (arith, most, one, s)
    making_step (r ∷ q ∷ rs) is old new most lone =
        let f : Reach → ℕ = λ x. one_if (is_making A sets a set x) in
        let many = ap length is in
        let two : nat_lt 1 (length (edges A set a)) ≡ true = lt-ltb 1 (length (edges A set a)) (omega (arith, many)) in
        let all = all_making (r ∷ q ∷ rs) (λ e. or_right (nat_lt 0 e.marks) _ (or_left (nat_lt 1 (length (edges A set a))) _ two)) in
        let same = ap (sum_by f) is in
        omega (arith, most, all, same)

  -- ---- sets in any order

  to_covers : (xs ys : List (List ℕ)) (a : Question) (to : List ℕ) → AreDistinct ys → Covers xs ys → edges_to A ys a to ≤ edges_to A xs a to
  to_covers xs ys a to distinct cover = sum_covers (edges_from A a to) xs ys distinct cover

  making_more : (xs ys : List (List ℕ)) (a : Question) (set : List ℕ) → AreDistinct ys → Covers xs ys → making_of A ys a set ≤ making_of A xs a set
  making_more xs ys a set distinct cover =
      sum_by-le-sum_by (λ (e : Reach). one_if (is_making A ys a set e)) (λ (e : Reach). one_if (is_making A xs a set e)) (edges A set a)
      (λ e. one_more_if (is_making A ys a set e) (is_making A xs a set e)
      (or_more (nat_lt 0 e.marks) _ _ (or_more (nat_lt 1 (length (edges A set a))) _ _
      (lt_more 1 (edges_to A ys a e.to) (edges_to A xs a e.to) (to_covers xs ys a e.to distinct cover)))))

  at_covers : (xs ys : List (List ℕ)) (a : Question) → AreDistinct ys → Covers xs ys → making_at A ys a ≤ making_at A xs a
  at_covers xs ys a distinct cover =
      let one = sum_by-le-sum_by (making_of A ys a) (making_of A xs a) ys (λ set. making_more xs ys a set distinct cover) in
      let two = sum_covers (making_of A xs a) xs ys distinct cover in
      omega (arith, one, two)

  pub making_covers : (xs ys : List (List ℕ)) (questions : List Question) → AreDistinct ys → Covers xs ys → making_read A ys questions ≤ making_read A xs questions
  making_covers xs ys [] distinct cover = omega arith
  making_covers xs ys (a ∷ questions) distinct cover =
      let here = at_covers xs ys a distinct cover in
      let rest = making_covers (next_sets A xs a) (next_sets A ys a) questions (next_distinct A ys a) (next_covers A xs ys a cover) in
      omega (arith, here, rest)

  pub making_append : (sets : List (List ℕ)) (questions more : List Question) →
      making_read A sets (questions ++ more) ≡ making_read A sets questions + making_read A (sets_after A sets questions) more
  making_append sets [] more = omega arith
  making_append sets (a ∷ questions) more = let r = making_append (next_sets A sets a) questions more in omega (arith, r)
