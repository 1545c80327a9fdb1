-- A reduct has no more states, ways and ends.
use Rattle.std.proofs.Common.{◌≡◌, ℕ, zero, suc, ◌<◌, ◌≤◌, ◌⊎◌, List, [], ◌∷◌, Option, Some, length, inl, inr, refl, sym, ap, subst, arith, ◌∙◌}
use Rattle.std.specs.Prelude.{slice_get, nat_lt, if◌then◌else◌}
use Rattle.std.specs.Prelude.{◌||◌}
use Rattle.std.specs.FinSet as set
use Rattle.std.specs.FinSet.{items, contains-items, contains-empty}
use Rattle.std.specs.List.{list_any}
use Rattle.std.specs.Ordering.{nat_cmp, eq_by_cmp, is_eq}
use Rattle.std.specs.Cmp.{nat_cmp_is}
use Rattle.std.specs.declared.cmp.Ordering.TheVariants.{Equal}
use Rattle.span_core.proofs.ByteSetLaws.{same_bytes}
use Rattle.marked_automaton.specs.Automaton.{ByteClass}
use Rattle.std.proofs.lemmas.Bool.{lt-ltb, le-ltb, cases_lt}
use Rattle.std.proofs.lemmas.Option.{slice_get_within}
use Rattle.span_core.specs.Lists.{Has}
use Rattle.span_core.proofs.ListLaws.{get_there}
use Rattle.marked_automaton.specs.declared.way.Way.{Way}
use Rattle.marked_automaton.specs.declared.way.Stop.{Stop}
use Rattle.marked_automaton.specs.Automaton.{Automaton, HasByte, IsWhole}
use Rattle.marked_automaton.specs.Laws.{ReductIsNoLarger}
use Rattle.marked_automaton.specs.Reduct.{IsReduct}
use Rattle.marked_automaton.proofs.Listed.{compared, some_same, place_has}

-- a set that is not empty has some byte
some_byte : (bytes : ByteClass) → ¬ (bytes ≡ set.empty) → (c : ℕ) × HasByte bytes c
some_byte bytes full = go (items bytes) refl
  where
    go : (ks : List ℕ) → items bytes ≡ ks → (c : ℕ) × HasByte bytes c
    go [] e = absurd (full (same_bytes bytes set.empty (λ q. contains-items bytes q ∙ (ap (list_any (eq_by_cmp nat_cmp q)) e ∙ sym (contains-empty nat_cmp q)))))
    go (k ∷ ks) e =
        (k, contains-items bytes k ∙ (ap (list_any (eq_by_cmp nat_cmp k)) e ∙ ap (λ o. is_eq o || list_any (eq_by_cmp nat_cmp k) ks) (sym (nat_cmp_is k k Equal refl))))

-- each number below n has a number below m of its own
abbrev IsTotal : ℕ → ℕ → (ℕ → ℕ → Type 0) → Type 0
IsTotal n m R = (k : ℕ) → k < n → (h : ℕ) × (h < m) × R k h

abbrev IsOneToOne : (ℕ → ℕ → Type 0) → Type 0
IsOneToOne R = (k l h : ℕ) → R k h → R l h → k ≡ l

-- the numbers without one of them
abbrev skip : ℕ → ℕ → ℕ
skip p k = if nat_lt k p then k else suc k

skip_cases : (p k : ℕ) → ((k < p) × (skip p k ≡ k)) ⊎ ((p ≤ k) × (skip p k ≡ suc k))
skip_cases p k =
    elim (cases_lt k p) [
      | inl l ↦ inl (l, ap (λ b. if b then k else suc k) (lt-ltb k p l))
      | inr g ↦ inr (g, ap (λ b. if b then k else suc k) (le-ltb k p g))
    ]

skip_apart : (p k : ℕ) → p ≡ skip p k → ⊥
skip_apart p k e = elim (skip_cases p k) [ inl r ↦ omega (arith, r.0, r.1, e) | inr r ↦ omega (arith, r.0, r.1, e) ]

skip_same : (p k l : ℕ) → skip p k ≡ skip p l → k ≡ l
skip_same p k l e =
    elim (skip_cases p k) [
      | inl a ↦ elim (skip_cases p l) [ inl b ↦ omega (arith, a.1, b.1, e) | inr b ↦ omega (arith, a.0, a.1, b.0, b.1, e) ]
      | inr a ↦ elim (skip_cases p l) [ inl b ↦ omega (arith, a.0, a.1, b.0, b.1, e) | inr b ↦ omega (arith, a.1, b.1, e) ]
    ]

skip_below : (p k n : ℕ) → suc k < n → skip p k < n
skip_below p k n l = elim (skip_cases p k) [ inl r ↦ omega (arith, r.1, l) | inr r ↦ omega (arith, r.1, l) ]

-- one of the first j has the number m, or each has a smaller one
search_last : (n m : ℕ) (R : ℕ → ℕ → Type 0) → IsTotal n (suc m) R → (j : ℕ) → j ≤ n →
    ((p : ℕ) × (p < n) × R p m) ⊎ IsTotal j m R
search_last n m R total zero l = inr (λ k b. absurd (omega (arith, b)))
search_last n m R total (suc j) l =
    let t = total j (omega (arith, l)) in
    elim (search_last n m R total j (omega (arith, l))) [
      | inl r ↦ inl r
      | inr rest ↦ elim (compared t.0 m) [
        | inl less ↦ inr (λ k b. elim (compared k j) [
          | inl c ↦ rest k c
          | inr c ↦ elim c [
            | inl at ↦ (t.0, less, subst (λ k. R k t.0) (sym at) t.2)
            | inr more ↦ absurd (omega (arith, b, more))
          ]
        ])
        | inr c ↦ elim c [
          | inl at ↦ inl (j, omega (arith, l), subst (R j) at t.2)
          | inr more ↦ absurd (omega (arith, t.1, more))
        ]
      ]
    ]

pub no_more : (m n : ℕ) (R : ℕ → ℕ → Type 0) → IsTotal n m R → IsOneToOne R → n ≤ m
no_more zero zero R total one = omega arith
no_more zero (suc n) R total one = absurd (omega (arith, (total 0 (omega arith)).1))
no_more (suc m) zero R total one = omega arith
no_more (suc m) (suc n) R total one = go (no_more m n) (λ t. no_more m (suc n) R t one) (search_last (suc n) m R total (suc n) (omega arith))
  where
    go : ((R : ℕ → ℕ → Type 0) → IsTotal n m R → IsOneToOne R → n ≤ m) → (IsTotal (suc n) m R → suc n ≤ m) →
        ((p : ℕ) × (p < suc n) × R p m) ⊎ IsTotal (suc n) m R → suc n ≤ suc m
    go less same (inr t) = omega (arith, same t)
    go less same (inl r) =
        let rest : IsTotal n m (λ k h. R (skip r.0 k) h) = λ k l.
        let t = total (skip r.0 k) (skip_below r.0 k (suc n) (omega (arith, l))) in
        elim (compared t.0 m) [
          | inl b ↦ (t.0, b, t.2)
          | inr c ↦ elim c [
            | inl at ↦ absurd (skip_apart r.0 k (one r.0 (skip r.0 k) m r.2 (subst (R (skip r.0 k)) at t.2)))
            | inr more ↦ absurd (omega (arith, t.1, more))
          ]
        ] in
        omega (arith, less (λ k h. R (skip r.0 k) h) rest (λ k l h a b. skip_same r.0 k l (one (skip r.0 k) (skip r.0 l) h a b)))

module _ (A B : Automaton) (f g : ℕ → Option ℕ) (e : ℕ → ℕ → ℕ) (r : IsReduct A B f g e) (whole : IsWhole A) where
  states_no_more : A.states ≤ B.states
  states_no_more =
      no_more B.states A.states (λ a b. f b ≡ Some a) (λ a l. let b = r.onto a l in (b.0, r.from_states b.0 (a, b.1), b.1))
      (λ a c b x y. some_same a c (sym x ∙ y))

  ways_no_more : ((y : Way) → Has A.ways y → (c : ℕ) × HasByte y.bytes c) → length A.ways ≤ length B.ways
  ways_no_more some =
      no_more (length B.ways) (length A.ways) (λ h k. g k ≡ Some h)
      (λ h l.
      let x = get_there A.ways h l in
      let there = place_has A.ways h x.0 x.1 in
      let c = some x.0 there in
      let b = r.onto x.0.from (whole.froms x.0 there) in
      let y = r.ways_back b.0 h c.0 x.0 x.1 b.1 c.1 in
      (y.0, slice_get_within B.ways y.0 y.1 y.2, y.5))
      (λ h l k x y. some_same h l (sym x ∙ y))

  -- the end of B that is the own of an end of A
  abbrev OwnEnd : ℕ → ℕ → Type 0
  OwnEnd k h = (x : Stop) × (b : ℕ) × (slice_get A.stops k ≡ Some x) × (f b ≡ Some x.state) × (e b k ≡ h)

  stops_no_more : length A.stops ≤ length B.stops
  stops_no_more =
      no_more (length B.stops) (length A.stops) OwnEnd
      (λ k l.
      let x = get_there A.stops k l in
      let b = r.onto x.0.state (whole.stops x.0 (place_has A.stops k x.0 x.1)) in
      let y = r.ends_there b.0 x.0.state k x.0 b.1 x.1 refl in
      (e b.0 k, slice_get_within B.stops (e b.0 k) y.0 y.1, (x.0, b.0, x.1, b.1, refl)))
      (λ k l h a c.
      let y = r.ends_there a.1 a.0.state k a.0 a.3 a.2 refl in
      let z = r.ends_there c.1 c.0.state l c.0 c.3 c.2 refl in
      let same_end : y.0 ≡ z.0 = some_same y.0 z.0 (sym y.1 ∙ (ap (slice_get B.stops) (a.4 ∙ sym c.4) ∙ z.1)) in
      let b : c.1 ≡ a.1 = sym z.2 ∙ (ap (λ (g : Stop). g.state) (sym same_end) ∙ y.2) in
      let state : c.0.state ≡ a.0.state = some_same c.0.state a.0.state (sym c.3 ∙ (ap f b ∙ a.3)) in
      r.ends_apart a.1 a.0.state k l a.0 c.0 a.3 a.2 refl c.2 state (a.4 ∙ (sym c.4 ∙ ap (λ v. e v l) b)))

pub reduct_is_no_larger : ReductIsNoLarger
reduct_is_no_larger A B whole some r = (
  states_no_more A B r.0 r.1 r.2 r.3 whole,
  ways_no_more A B r.0 r.1 r.2 r.3 whole (λ y h. some_byte y.bytes (some y h)),
  stops_no_more A B r.0 r.1 r.2 r.3 whole,
)
