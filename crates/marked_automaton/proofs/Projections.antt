-- What an automaton with other blocks accepts.
use Rattle.std.proofs.Common.{◌≡◌, ℕ, zero, suc, ◌+◌, ◌<◌, ◌≤◌, List, length, inl, inr, refl, sym, ap, subst, arith, ◌∙◌}
use Rattle.std.specs.Prelude.{map, nat_eq, if◌then◌else◌}
use Rattle.std.proofs.lemmas.Bool.{eq-eqb, ne_eqb}
use Rattle.marked_automaton.specs.declared.way.Way.{Way}
use Rattle.marked_automaton.specs.declared.way.Stop.{Stop}
use Rattle.marked_automaton.specs.Automaton.{Automaton, ReadsByte, Walk, Accepts}
use Rattle.marked_automaton.specs.Marks.{remarked_way, remarked_stop, remarked}
use Rattle.marked_automaton.specs.Laws.{AgreeOn, ProjectionLaw}
use Rattle.marked_automaton.proofs.Listed.{compared}
use Rattle.span_core.proofs.HasLaws.{Has-map, Has-map_cases}
use Rattle.marked_automaton.proofs.Walks.{walk_same}

-- the word that has m at k, and is v elsewhere
abbrev put : (ℕ → ℕ) → ℕ → ℕ → ℕ → ℕ
put v k m p = if nat_eq k p then m else v p

module _ (e : ℕ → ℕ) (ways : List Way) (d : List ℕ) where
  remarked_walk : (w v : ℕ → ℕ) (n i p q : ℕ) → ((r : ℕ) → i ≤ r → r < i + n → w r ≡ e (v r)) → Walk ways d v i n p q → Walk (map (remarked_way e) ways) d w i n p q
  remarked_walk w v zero i p q same h = h
  remarked_walk w v (suc n) i p q same h = (
    remarked_way e h.0,
    Has-map (remarked_way e) ways h.0 h.1,
    h.2,
    ap e h.3 ∙ sym (same i (omega arith) (omega arith)),
    h.4,
    remarked_walk w v n (suc i) h.0.to q (λ r l u. same r (omega (arith, l)) (omega (arith, u))) h.5,
  )

  walk_remarked : (w : ℕ → ℕ) (n i p q : ℕ) → Walk (map (remarked_way e) ways) d w i n p q →
      (v : ℕ → ℕ) × Walk ways d v i n p q × ((r : ℕ) → i ≤ r → r < i + n → w r ≡ e (v r))
  walk_remarked w zero i p q h = (w, h, λ r l u. absurd (omega (arith, l, u)))
  walk_remarked w (suc n) i p q h =
      let y = Has-map_cases (remarked_way e) ways h.0 h.1 in
      let rest = walk_remarked w n (suc i) h.0.to q h.5 in
      let v : ℕ → ℕ = put rest.0 i y.0.marks in
      let here : v i ≡ y.0.marks = ap (λ b. if b then y.0.marks else rest.0 i) (eq-eqb i i refl) in
      let later : (r : ℕ) → i < r → v r ≡ rest.0 r = λ r l. ap (λ b. if b then y.0.marks else rest.0 r) (ne_eqb i r (λ at. omega (arith, at, l))) in
      let first : w i ≡ e (v i) = sym h.3 ∙ (sym (ap (λ (g : Way). g.marks) y.2) ∙ ap e (sym here)) in (
        v,
        (
          y.0,
          y.1,
          ap (λ (g : Way). g.from) y.2 ∙ h.2,
          sym here,
          subst (λ (g : Way). ReadsByte d i g.bytes) (sym y.2) h.4,
          walk_same ways d rest.0 v n (suc i) y.0.to q (λ r l u. sym (later r (omega (arith, l))))
              (subst (λ x. Walk ways d rest.0 (suc i) n x q) (sym (ap (λ (g : Way). g.to) y.2)) rest.1),
        ),
        λ r l u. elim (compared r i) [
          | inl less ↦ absurd (omega (arith, l, less))
          | inr c ↦ elim c [
            | inl at ↦ subst (λ x. w x ≡ e (v x)) (sym at) first
            | inr more ↦ rest.2 r (omega (arith, more)) (omega (arith, u)) ∙ ap e (sym (later r more))
          ]
        ],
      )

module _ (A : Automaton) (e : ℕ → ℕ) (d : List ℕ) (w : ℕ → ℕ) where
  of_remarked : Accepts (remarked e A) d w → (v : ℕ → ℕ) × Accepts A d v × AgreeOn d w (λ p. e (v p))
  of_remarked h =
      let x = Has-map_cases (remarked_stop e) A.stops h.1 h.3 in
      let r = walk_remarked e A.ways d w (length d) 0 h.0 h.1.state h.4 in
      let v : ℕ → ℕ = put r.0 (length d) x.0.marks in
      let here : v (length d) ≡ x.0.marks = ap (λ b. if b then x.0.marks else r.0 (length d)) (eq-eqb (length d) (length d) refl) in
      let before : (p : ℕ) → p < length d → v p ≡ r.0 p = λ p l. ap (λ b. if b then x.0.marks else r.0 p) (ne_eqb (length d) p (λ at. omega (arith, at, l))) in
      let last : w (length d) ≡ e (v (length d)) = sym h.5 ∙ (sym (ap (λ (g : Stop). g.marks) x.2) ∙ ap e (sym here)) in (
        v,
        (
          h.0,
          x.0,
          h.2,
          x.1,
          walk_same A.ways d r.0 v (length d) 0 h.0 x.0.state (λ p l u. sym (before p (omega (arith, u))))
              (subst (λ q. Walk A.ways d r.0 0 (length d) h.0 q) (sym (ap (λ (g : Stop). g.state) x.2)) r.1),
          sym here,
        ),
        λ p l. elim (compared p (length d)) [
          | inl less ↦ r.2 p (omega arith) (omega (arith, less)) ∙ ap e (sym (before p less))
          | inr c ↦ elim c [
            | inl at ↦ subst (λ x. w x ≡ e (v x)) (sym at) last
            | inr more ↦ absurd (omega (arith, l, more))
          ]
        ],
      )

  to_remarked : (v : ℕ → ℕ) × Accepts A d v × AgreeOn d w (λ p. e (v p)) → Accepts (remarked e A) d w
  to_remarked h =
      let a = h.1 in (
        a.0,
        remarked_stop e a.1,
        a.2,
        Has-map (remarked_stop e) A.stops a.1 a.3,
        remarked_walk e A.ways d w h.0 (length d) 0 a.0 a.1.state (λ r l u. h.2 r (omega (arith, u))) a.4,
        ap e a.5 ∙ sym (h.2 (length d) (omega arith)),
      )

pub projection_law : ProjectionLaw
projection_law A e d w = (of_remarked A e d w, to_remarked A e d w)
