-- Unions and joins of whole automata are whole.
use Rattle.std.proofs.Common.{◌≡◌, ℕ, ◌+◌, ◌-◌, ◌*◌, ◌<◌, Bool, List, ◌++◌, inl, inr, ap, arith}
use Rattle.std.specs.Prelude.{map}
use Rattle.std.specs.List.{filter, flat_map}
use Rattle.span_core.specs.Lists.{Has}
use Rattle.marked_automaton.specs.declared.way.Way.{Way}
use Rattle.marked_automaton.specs.declared.way.Stop.{Stop}
use Rattle.marked_automaton.specs.Automaton.{Automaton, IsWhole}
use Rattle.algebra.specs.Operations.{moved_way, moved_stop, union_of, goes_with, pair_way, ends_with, pair_stop, join_of}
use Rattle.marked_automaton.proofs.Passing.{filter_cases, flat_map_cases}
use Rattle.span_core.proofs.HasLaws.{Has-append_cases, Has-map_cases}

module _ (A B : Automaton) (a : IsWhole A) (b : IsWhole B) where
  moved_state : (xs : List ℕ) → ((q : ℕ) → Has xs q → q < B.states) → (p : ℕ) → Has (map (◌+◌ A.states) xs) p → p < A.states + B.states
  moved_state xs below p h = let q = Has-map_cases (◌+◌ A.states) xs p h in omega (arith, below q.0 q.1, q.2)

  either_state : (xs ys : List ℕ) → ((q : ℕ) → Has xs q → q < A.states) → ((q : ℕ) → Has ys q → q < B.states) → (p : ℕ) → Has (xs ++ map (◌+◌ A.states) ys) p → p < A.states + B.states
  either_state xs ys below above p h =
      elim (Has-append_cases xs (map (◌+◌ A.states) ys) p h) [ inl x ↦ omega (arith, below p x) | inr y ↦ moved_state ys above p y ]

  pub union_whole : IsWhole (union_of A B)
  union_whole = record {
    starts = either_state A.starts B.starts a.starts b.starts;
    froms = λ y h. elim (Has-append_cases A.ways (map (moved_way A.states) B.ways) y h) [
      | inl x ↦ omega (arith, a.froms y x)
      | inr x ↦ let z = Has-map_cases (moved_way A.states) B.ways y x in omega (arith, b.froms z.0 z.1, ap (λ (g : Way). g.from) z.2)
    ];
    tos = λ y h. elim (Has-append_cases A.ways (map (moved_way A.states) B.ways) y h) [
      | inl x ↦ omega (arith, a.tos y x)
      | inr x ↦ let z = Has-map_cases (moved_way A.states) B.ways y x in omega (arith, b.tos z.0 z.1, ap (λ (g : Way). g.to) z.2)
    ];
    stops = λ s h. elim (Has-append_cases A.stops (map (moved_stop A.states) B.stops) s h) [
      | inl x ↦ omega (arith, a.stops s x)
      | inr x ↦ let z = Has-map_cases (moved_stop A.states) B.stops s x in omega (arith, b.stops z.0 z.1, ap (λ (g : Stop). g.state) z.2)
    ];
    idles = either_state A.idle B.idle a.idles b.idles;
  }

  -- the number of a pair is below the product
  pair_below : (p q z : ℕ) → p < A.states → q < B.states → p * B.states + q ≡ z → z < A.states * B.states
  pair_below p q z l m e =
      let k : A.states ≡ p + 1 + (A.states - (p + 1)) = omega (arith, l) in
      let f : A.states * B.states ≡ (p + 1 + (A.states - (p + 1))) * B.states = ap (λ x. x * B.states) k in
      omega (arith, e, f, m)

  pair_states : (xs ys : List ℕ) → ((q : ℕ) → Has xs q → q < A.states) → ((q : ℕ) → Has ys q → q < B.states) →
      (z : ℕ) → Has (flat_map (λ p. map (λ q. p * B.states + q) ys) xs) z → z < A.states * B.states
  pair_states xs ys below above z h =
      let r = flat_map_cases (λ p. map (λ q. p * B.states + q) ys) xs z h in
      let s = Has-map_cases (λ q. r.0 * B.states + q) ys z r.2 in
      pair_below r.0 s.0 z (below r.0 r.1) (above s.0 s.1) s.2

  module _ (agree : ℕ → ℕ → Bool) (both : ℕ → ℕ → ℕ) where
    pub pair_of : (y : Way) → Has (join_of agree both A B).ways y →
        (x1 : Way) × (x2 : Way) × Has A.ways x1 × Has B.ways x2 × (pair_way agree both B.states x1 x2 ≡ y)
    pair_of y h =
        let r = flat_map_cases (λ x. map (pair_way agree both B.states x) (filter (goes_with agree both x) B.ways)) A.ways y h in
        let s = Has-map_cases (pair_way agree both B.states r.0) (filter (goes_with agree both r.0) B.ways) y r.2 in
        let t = filter_cases (goes_with agree both r.0) B.ways s.0 s.1 in
        (r.0, s.0, r.1, t.0, s.2)

    pub join_whole : IsWhole (join_of agree both A B)
    join_whole = record {
      starts = pair_states A.starts B.starts a.starts b.starts;
      froms = λ y h. let r = pair_of y h in pair_below r.0.from r.1.from y.from (a.froms r.0 r.2) (b.froms r.1 r.3) (ap (λ (g : Way). g.from) r.4);
      tos = λ y h. let r = pair_of y h in pair_below r.0.to r.1.to y.to (a.tos r.0 r.2) (b.tos r.1 r.3) (ap (λ (g : Way). g.to) r.4);
      stops = λ s h.
          let r = flat_map_cases (λ x. map (pair_stop agree both B.states x) (filter (ends_with agree both x) B.stops)) A.stops s h in
          let t = Has-map_cases (pair_stop agree both B.states r.0) (filter (ends_with agree both r.0) B.stops) s r.2 in
          let u = filter_cases (ends_with agree both r.0) B.stops t.0 t.1 in
          pair_below r.0.state t.0.state s.state (a.stops r.0 r.1) (b.stops t.0 u.0) (ap (λ (g : Stop). g.state) t.2);
      idles = pair_states A.idle B.idle a.idles b.idles;
    }
