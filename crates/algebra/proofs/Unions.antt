-- What a union, and an automaton with other blocks, accept.
use Rattle.std.proofs.Common.{◌≡◌, ℕ, zero, suc, ◌+◌, ◌<◌, ◌≤◌, ◌⊎◌, List, length, inl, inr, refl, sym, ap, arith, ◌∙◌}
use Rattle.std.specs.Prelude.{map}
use Rattle.span_core.specs.Lists.{Has}
use Rattle.marked_automaton.specs.declared.way.Way.{Way}
use Rattle.marked_automaton.specs.declared.way.Stop.{Stop}
use Rattle.marked_automaton.specs.Automaton.{Automaton, ReadsByte, Walk, Accepts}
use Rattle.marked_automaton.specs.Automaton.{IsWhole}
use Rattle.algebra.specs.Operations.{moved_way, moved_stop, union_of}
use Rattle.algebra.specs.Laws.{UnionLaw}
use Rattle.span_core.proofs.HasLaws.{Has-append_left, Has-append_right, Has-append_cases, Has-map, Has-map_cases}
use Rattle.marked_automaton.proofs.Walks.{walk_more, walk_stays}

-- a walk by moved ways
moved_walk : (k : ℕ) (ways : List Way) (d : List ℕ) (w : ℕ → ℕ) (n i p q : ℕ) → Walk ways d w i n p q → Walk (map (moved_way k) ways) d w i n (k + p) (k + q)
moved_walk k ways d w zero i p q h = ap (◌+◌ k) h
moved_walk k ways d w (suc n) i p q h =
    (moved_way k h.0, Has-map (moved_way k) ways h.0 h.1, ap (◌+◌ k) h.2, h.3, h.4, moved_walk k ways d w n (suc i) h.0.to q h.5)

-- and back
walk_moved : (k : ℕ) (ways : List Way) (d : List ℕ) (w : ℕ → ℕ) (n i p q r : ℕ) → r ≡ k + p → Walk (map (moved_way k) ways) d w i n r q →
    (t : ℕ) × (q ≡ k + t) × Walk ways d w i n p t
walk_moved k ways d w zero i p q r at h = (p, sym h ∙ at, refl)
walk_moved k ways d w (suc n) i p q r at h =
    let y = Has-map_cases (moved_way k) ways h.0 h.1 in
    let from = ap (λ (g : Way). g.from) y.2 in
    let to = ap (λ (g : Way). g.to) y.2 in
    let rest = walk_moved k ways d w n (suc i) y.0.to q h.0.to (sym to) h.5 in (
      rest.0,
      rest.1,
      (y.0, y.1, omega (arith, from, h.2, at), ap (λ (g : Way). g.marks) y.2 ∙ h.3, rw (← y.2) at h.4, rest.2),
    )

module _ (A B : Automaton) (a : IsWhole A) (b : IsWhole B) (d : List ℕ) (w : ℕ → ℕ) where
  in_first : Accepts A d w → Accepts (union_of A B) d w
  in_first h = (
    h.0,
    h.1,
    Has-append_left A.starts (map (◌+◌ A.states) B.starts) h.0 h.2,
    Has-append_left A.stops (map (moved_stop A.states) B.stops) h.1 h.3,
    walk_more A.ways (union_of A B).ways d w (Has-append_left A.ways (map (moved_way A.states) B.ways)) (length d) 0 h.0 h.1.state h.4,
    h.5,
  )

  in_second : Accepts B d w → Accepts (union_of A B) d w
  in_second h = (
    A.states + h.0,
    moved_stop A.states h.1,
    Has-append_right A.starts (map (◌+◌ A.states) B.starts) (A.states + h.0) (Has-map (◌+◌ A.states) B.starts h.0 h.2),
    Has-append_right A.stops (map (moved_stop A.states) B.stops) (moved_stop A.states h.1) (Has-map (moved_stop A.states) B.stops h.1 h.3),
    walk_more (map (moved_way A.states) B.ways) (union_of A B).ways d w (Has-append_right A.ways (map (moved_way A.states) B.ways)) (length d) 0
        (A.states + h.0) (A.states + h.1.state) (moved_walk A.states B.ways d w (length d) 0 h.0 h.1.state h.4),
    h.5,
  )

  stays_first : (y : Way) → Has (union_of A B).ways y → y.from < A.states → Has A.ways y × (y.to < A.states)
  stays_first y h l =
      elim (Has-append_cases A.ways (map (moved_way A.states) B.ways) y h) [
        | inl x ↦ (x, a.tos y x)
        | inr x ↦ let r = Has-map_cases (moved_way A.states) B.ways y x in absurd (omega (arith, ap (λ (g : Way). g.from) r.2, l))
      ]

  stays_second : (y : Way) → Has (union_of A B).ways y → A.states ≤ y.from → Has (map (moved_way A.states) B.ways) y × (A.states ≤ y.to)
  stays_second y h l =
      elim (Has-append_cases A.ways (map (moved_way A.states) B.ways) y h) [
        | inl x ↦ absurd (omega (arith, a.froms y x, l))
        | inr x ↦ let r = Has-map_cases (moved_way A.states) B.ways y x in (x, omega (arith, ap (λ (g : Way). g.to) r.2))
      ]

  of_union : Accepts (union_of A B) d w → Accepts A d w ⊎ Accepts B d w
  of_union h =
      elim (Has-append_cases A.starts (map (◌+◌ A.states) B.starts) h.0 h.2) [
        | inl s ↦
            let r = walk_stays A.ways (union_of A B).ways (λ x. x < A.states) d w stays_first (length d) 0 h.0 h.1.state (a.starts h.0 s) h.4 in
            elim (Has-append_cases A.stops (map (moved_stop A.states) B.stops) h.1 h.3) [
              | inl x ↦ inl (h.0, h.1, s, x, r.0, h.5)
              | inr x ↦ let m = Has-map_cases (moved_stop A.states) B.stops h.1 x in absurd (omega (arith, ap (λ (g : Stop). g.state) m.2, r.1))
            ]
        | inr s ↦
            let p = Has-map_cases (◌+◌ A.states) B.starts h.0 s in
            let r = walk_stays (map (moved_way A.states) B.ways) (union_of A B).ways (λ x. A.states ≤ x) d w stays_second (length d) 0 h.0 h.1.state (omega (arith, p.2)) h.4 in
            let t = walk_moved A.states B.ways d w (length d) 0 p.0 h.1.state h.0 (sym p.2) r.0 in
            elim (Has-append_cases A.stops (map (moved_stop A.states) B.stops) h.1 h.3) [
              | inl x ↦ absurd (omega (arith, a.stops h.1 x, r.1))
              | inr x ↦
                  let m = Has-map_cases (moved_stop A.states) B.stops h.1 x in
                  let same : t.0 ≡ m.0.state = omega (arith, ap (λ (g : Stop). g.state) m.2, t.1) in
                  inr (p.0, m.0, p.1, m.1, rw same at t.2, ap (λ (g : Stop). g.marks) m.2 ∙ h.5)
            ]
      ]

pub union_law : UnionLaw
union_law A B a b d w = (of_union A B a b d w, λ h. elim h [ inl x ↦ in_first A B a b d w x | inr x ↦ in_second A B a b d w x ])
