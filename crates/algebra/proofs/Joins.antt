-- What a join of automata accepts.
use Rattle.std.proofs.Common.{◌≡◌, ℕ, zero, suc, ◌+◌, ◌*◌, ◌-◌, ◌<◌, ◌≤◌, Bool, true, List, length, inl, inr, refl, sym, ap, subst, arith, ◌∙◌}
use Rattle.std.specs.Prelude.{map, nat_eq, if◌then◌else◌, IsTrue}
use Rattle.std.specs.List.{filter}
use Rattle.std.specs.Option.{unwrap_or}
use Rattle.std.proofs.lemmas.Bool.{eq-eqb, ne_eqb}
use Rattle.marked_automaton.specs.Automaton.{HasByte}
use Rattle.span_core.specs.Lists.{Has}
use Rattle.marked_automaton.specs.declared.way.Way.{Way}
use Rattle.marked_automaton.specs.declared.way.Stop.{Stop}
use Rattle.marked_automaton.specs.Automaton.{Automaton, ReadsByte, Walk, Accepts}
use Rattle.marked_automaton.specs.Automaton.{IsWhole}
use Rattle.algebra.specs.Operations.{meet, has_some, goes_with, pair_way, ends_with, pair_stop, join_of}
use Rattle.algebra.specs.Laws.{JoinLaw}
use Rattle.algebra.proofs.Bytes.{meet_left, meet_right, in_meet, some_byte}
use Rattle.marked_automaton.proofs.Listed.{compared}
use Rattle.marked_automaton.proofs.Passing.{both_true, filter_cases, flat_map_cases, has_filter, has_flat_map, left_true}
use Rattle.span_core.proofs.HasLaws.{Has-map, Has-map_cases}
use Rattle.marked_automaton.proofs.Walks.{walk_same}

-- the number of a pair determines it
pub pair_same : (n p q a b : ℕ) → q < n → b < n → p * n + q ≡ a * n + b → (p ≡ a) × (q ≡ b)
pair_same n p q a b l m e =
    elim (compared p a) [
      | inl less ↦ absurd (apart p a q b less l e)
      | inr c ↦ elim c [
        | inl at ↦ (at, let f : p * n ≡ a * n = ap (λ x. x * n) at in omega (arith, e, f))
        | inr more ↦ absurd (apart a p b q more m (sym e))
      ]
    ]
  where
    apart : (p a q b : ℕ) → p < a → q < n → p * n + q ≡ a * n + b → ⊥
    apart p a q b less l e =
        let k : a ≡ p + 1 + (a - suc p) = omega (arith, less) in
        let f : a * n ≡ (p + 1 + (a - suc p)) * n = ap (λ x. x * n) k in
        omega (arith, e, f, l)

abbrev put : (ℕ → ℕ) → ℕ → ℕ → ℕ → ℕ
put v k m p = if nat_eq k p then m else v p

put_here : (v : ℕ → ℕ) (k m : ℕ) → put v k m k ≡ m
put_here v k m = ap (λ b. if b then m else v k) (eq-eqb k k refl)

put_apart : (v : ℕ → ℕ) (k m p : ℕ) → (k ≡ p → ⊥) → put v k m p ≡ v p
put_apart v k m p h = ap (λ b. if b then m else v p) (ne_eqb k p h)

module _ (agree : ℕ → ℕ → Bool) (both : ℕ → ℕ → ℕ) (A B : Automaton) (a : IsWhole A) (b : IsWhole B) (d : List ℕ) (w : ℕ → ℕ) where
  abbrev J : Automaton
  J = join_of agree both A B

  -- at this position the blocks go together
  abbrev GoTogether : (ℕ → ℕ) → (ℕ → ℕ) → ℕ → Type 0
  GoTogether u v p = IsTrue (agree (u p) (v p)) × (w p ≡ both (u p) (v p))

  pair_of : (y : Way) → Has J.ways y → (x1 : Way) × (x2 : Way) × Has A.ways x1 × Has B.ways x2 × (goes_with agree both x1 x2 ≡ true) × (pair_way agree both B.states x1 x2 ≡ y)
  pair_of y h =
      let r = flat_map_cases (λ x. map (pair_way agree both B.states x) (filter (goes_with agree both x) B.ways)) A.ways y h in
      let s = Has-map_cases (pair_way agree both B.states r.0) (filter (goes_with agree both r.0) B.ways) y r.2 in
      let t = filter_cases (goes_with agree both r.0) B.ways s.0 s.1 in
      (r.0, s.0, r.1, t.0, t.1, s.2)

  -- a walk of pairs, taken apart
  Apart : ℕ → ℕ → ℕ → ℕ → ℕ → Type 0
  Apart n i p q z =
      (u : ℕ → ℕ) × (v : ℕ → ℕ) × (p1 : ℕ) × (q1 : ℕ) × Walk A.ways d u i n p p1 × Walk B.ways d v i n q q1
      × (z ≡ p1 * B.states + q1) × (q1 < B.states) × ((r : ℕ) → i ≤ r → r < i + n → GoTogether u v r)

  apart : (n i p q r z : ℕ) → q < B.states → r ≡ p * B.states + q → Walk J.ways d w i n r z → Apart n i p q z
  unfolding Apart
  apart zero i p q r z l at h = (w, w, p, q, refl, refl, sym h ∙ at, l, λ r a b. absurd (omega (arith, a, b)))
  apart (suc n) i p q r z l at h =
      let y = pair_of h.0 h.1 in
      let from : y.0.from * B.states + y.1.from ≡ p * B.states + q = (ap (λ (g : Way). g.from) y.5 ∙ h.2) ∙ at in
      let same = pair_same B.states y.0.from y.1.from p q (b.froms y.1 y.3) l from in
      let rest = apart n (suc i) y.0.to y.1.to h.0.to z (b.tos y.1 y.3) (sym (ap (λ (g : Way). g.to) y.5)) h.5 in
      let u : ℕ → ℕ = put rest.0 i y.0.marks in
      let v : ℕ → ℕ = put rest.1 i y.1.marks in
      let u_later : (r : ℕ) → suc i ≤ r → r < suc i + n → rest.0 r ≡ u r = λ r a b. sym (put_apart rest.0 i y.0.marks r (λ e. omega (arith, e, a))) in
      let v_later : (r : ℕ) → suc i ≤ r → r < suc i + n → rest.1 r ≡ v r = λ r a b. sym (put_apart rest.1 i y.1.marks r (λ e. omega (arith, e, a))) in
      let u_here : u i ≡ y.0.marks = put_here rest.0 i y.0.marks in
      let v_here : v i ≡ y.1.marks = put_here rest.1 i y.1.marks in
      let byte : ReadsByte d i (meet y.0.bytes y.1.bytes) = rw (← y.5) at h.4 in (
        u,
        v,
        rest.2,
        rest.3,
        (
          y.0,
          y.2,
          same.0,
          sym u_here,
          (byte.0, byte.1, meet_left y.0.bytes y.1.bytes byte.0 byte.2),
          walk_same A.ways d rest.0 u n (suc i) y.0.to rest.2 u_later rest.4,
        ),
        (
          y.1,
          y.3,
          same.1,
          sym v_here,
          (byte.0, byte.1, meet_right y.0.bytes y.1.bytes byte.0 byte.2),
          walk_same B.ways d rest.1 v n (suc i) y.1.to rest.3 v_later rest.5,
        ),
        rest.6,
        rest.7,
        λ t lo up. elim (compared t i) [
          | inl less ↦ absurd (omega (arith, lo, less))
          | inr c ↦ elim c [
            | inl e ↦ subst (GoTogether u v) (sym e) (
              ap (λ x. agree x (v i)) u_here ∙ (ap (agree y.0.marks) v_here ∙ left_true (agree y.0.marks y.1.marks) (has_some (meet y.0.bytes y.1.bytes)) y.4),
              sym h.3 ∙ (sym (ap (λ (g : Way). g.marks) y.5) ∙ sym (ap (λ x. both x (v i)) u_here ∙ ap (both y.0.marks) v_here)),
            )
            | inr more ↦
                let g = rest.8 t (omega (arith, more)) (omega (arith, up)) in
                let eu = u_later t (omega (arith, more)) (omega (arith, up)) in
                let ev = v_later t (omega (arith, more)) (omega (arith, up)) in
                (sym (ap (λ x. agree x (rest.1 t)) eu ∙ ap (agree (u t)) ev) ∙ g.0, g.1 ∙ (ap (λ x. both x (rest.1 t)) eu ∙ ap (both (u t)) ev))
          ]
        ],
      )

  -- and put together
  together : (u v : ℕ → ℕ) (n i p q p1 q1 : ℕ) → ((r : ℕ) → i ≤ r → r < i + n → GoTogether u v r) →
      Walk A.ways d u i n p p1 → Walk B.ways d v i n q q1 → Walk J.ways d w i n (p * B.states + q) (p1 * B.states + q1)
  together u v zero i p q p1 q1 go h k = ap (λ x. x * B.states + q) h ∙ ap (λ y. p1 * B.states + y) k
  together u v (suc n) i p q p1 q1 go h k =
      let g = go i (omega arith) (omega arith) in
      let same : h.4.0 ≡ k.4.0 = ap (λ o. unwrap_or o 0) (sym h.4.1 ∙ k.4.1) in
      let k_byte : HasByte k.0.bytes h.4.0 = subst (HasByte k.0.bytes) (sym same) k.4.2 in
      let m : HasByte (meet h.0.bytes k.0.bytes) h.4.0 = in_meet h.0.bytes k.0.bytes h.4.0 h.4.2 k_byte in
      let fits : agree h.0.marks k.0.marks ≡ true = ap (λ x. agree x k.0.marks) h.3 ∙ (ap (agree (u i)) k.3 ∙ g.0) in
      let ok : goes_with agree both h.0 k.0 ≡ true = both_true (agree h.0.marks k.0.marks) (has_some (meet h.0.bytes k.0.bytes)) fits (some_byte (meet h.0.bytes k.0.bytes) h.4.0 m) in (
        pair_way agree both B.states h.0 k.0,
        has_flat_map (λ x. map (pair_way agree both B.states x) (filter (goes_with agree both x) B.ways)) A.ways h.0 (pair_way agree both B.states h.0 k.0) h.1
            (Has-map (pair_way agree both B.states h.0) (filter (goes_with agree both h.0) B.ways) k.0 (has_filter (goes_with agree both h.0) B.ways k.0 k.1 ok)),
        ap (λ x. x * B.states + k.0.from) h.2 ∙ ap (λ y. p * B.states + y) k.2,
        (ap (λ x. both x k.0.marks) h.3 ∙ ap (both (u i)) k.3) ∙ sym g.1,
        (h.4.0, h.4.1, m),
        together u v n (suc i) h.0.to k.0.to p1 q1 (λ r lo up. go r (omega (arith, lo)) (omega (arith, up))) h.5 k.5,
      )

  abbrev BothAccept : Type 0
  BothAccept = (u : ℕ → ℕ) × (v : ℕ → ℕ) × Accepts A d u × Accepts B d v × ((p : ℕ) → p ≤ length d → GoTogether u v p)

  of_join : Accepts J d w → BothAccept
  unfolding Apart
  of_join h =
      let s = flat_map_cases (λ p. map (λ q. p * B.states + q) B.starts) A.starts h.0 h.2 in
      let t = Has-map_cases (λ q. s.0 * B.states + q) B.starts h.0 s.2 in
      let x = flat_map_cases (λ x. map (pair_stop agree both B.states x) (filter (ends_with agree both x) B.stops)) A.stops h.1 h.3 in
      let y = Has-map_cases (pair_stop agree both B.states x.0) (filter (ends_with agree both x.0) B.stops) h.1 x.2 in
      let z = filter_cases (ends_with agree both x.0) B.stops y.0 y.1 in
      let r = apart (length d) 0 s.0 t.0 h.0 h.1.state (b.starts t.0 t.1) (sym t.2) h.4 in
      let same = pair_same B.states x.0.state y.0.state r.2 r.3 (b.stops y.0 z.0) r.7 (ap (λ (g : Stop). g.state) y.2 ∙ r.6) in
      let u : ℕ → ℕ = put r.0 (length d) x.0.marks in
      let v : ℕ → ℕ = put r.1 (length d) y.0.marks in
      let u_here : u (length d) ≡ x.0.marks = put_here r.0 (length d) x.0.marks in
      let v_here : v (length d) ≡ y.0.marks = put_here r.1 (length d) y.0.marks in
      let u_before : (p : ℕ) → p < length d → r.0 p ≡ u p = λ p l. sym (put_apart r.0 (length d) x.0.marks p (λ e. omega (arith, e, l))) in
      let v_before : (p : ℕ) → p < length d → r.1 p ≡ v p = λ p l. sym (put_apart r.1 (length d) y.0.marks p (λ e. omega (arith, e, l))) in (
        u,
        v,
        (
          s.0,
          x.0,
          s.1,
          x.1,
          rw (← same.0) at (walk_same A.ways d r.0 u (length d) 0 s.0 r.2 (λ p lo up. u_before p (omega (arith, up))) r.4),
          sym u_here,
        ),
        (
          t.0,
          y.0,
          t.1,
          z.0,
          rw (← same.1) at (walk_same B.ways d r.1 v (length d) 0 t.0 r.3 (λ p lo up. v_before p (omega (arith, up))) r.5),
          sym v_here,
        ),
        λ p l. elim (compared p (length d)) [
          | inl less ↦
              let g = r.8 p (omega arith) (omega (arith, less)) in
              let eu = u_before p less in
              let ev = v_before p less in
              (sym (ap (λ x. agree x (r.1 p)) eu ∙ ap (agree (u p)) ev) ∙ g.0, g.1 ∙ (ap (λ x. both x (r.1 p)) eu ∙ ap (both (u p)) ev))
          | inr c ↦ elim c [
            | inl e ↦ subst (GoTogether u v) (sym e) (
              ap (λ x. agree x (v (length d))) u_here ∙ (ap (agree x.0.marks) v_here ∙ z.1),
              sym h.5 ∙ (sym (ap (λ (g : Stop). g.marks) y.2) ∙ sym (ap (λ x. both x (v (length d))) u_here ∙ ap (both x.0.marks) v_here)),
            )
            | inr more ↦ absurd (omega (arith, l, more))
          ]
        ],
      )

  to_join : BothAccept → Accepts J d w
  to_join h =
      let u = h.0 in
      let v = h.1 in
      let x = h.2 in
      let y = h.3 in
      let g = h.4 (length d) (omega arith) in
      let ok : agree x.1.marks y.1.marks ≡ true = ap (λ m. agree m y.1.marks) x.5 ∙ (ap (agree (u (length d))) y.5 ∙ g.0) in (
        x.0 * B.states + y.0,
        pair_stop agree both B.states x.1 y.1,
        has_flat_map (λ p. map (λ q. p * B.states + q) B.starts) A.starts x.0 (x.0 * B.states + y.0) x.2 (Has-map (λ q. x.0 * B.states + q) B.starts y.0 y.2),
        has_flat_map (λ x. map (pair_stop agree both B.states x) (filter (ends_with agree both x) B.stops)) A.stops x.1 (pair_stop agree both B.states x.1 y.1) x.3
            (Has-map (pair_stop agree both B.states x.1) (filter (ends_with agree both x.1) B.stops) y.1 (has_filter (ends_with agree both x.1) B.stops y.1 y.3 ok)),
        together u v (length d) 0 x.0 y.0 x.1.state y.1.state (λ r lo up. h.4 r (omega (arith, up))) x.4 y.4,
        (ap (λ m. both m y.1.marks) x.5 ∙ ap (both (u (length d))) y.5) ∙ sym g.1,
      )

pub join_law : (agree : ℕ → ℕ → Bool) (both : ℕ → ℕ → ℕ) → JoinLaw agree both
join_law agree both A B a b d w = (of_join agree both A B a b d w, to_join agree both A B a b d w)
