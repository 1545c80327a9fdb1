-- What is made of automata that only wait outside of some positions only waits there.
use Rattle.std.proofs.Common.{◌≡◌, ℕ, zero, suc, ◌+◌, ◌*◌, ◌<◌, ◌⊎◌, Bool, false, List, Some, inl, inr, refl, sym, ap, subst, arith, ◌∙◌}
use Rattle.std.specs.Prelude.{map, Option}
use Rattle.std.specs.List.{filter}
use Rattle.span_core.specs.Lists.{Has}
use Rattle.span_core.proofs.HasLaws.{Has-append_cases, Has-append_left, Has-append_right, Has-map, Has-map_cases}
use Rattle.marked_automaton.specs.declared.way.Way.{Way}
use Rattle.marked_automaton.specs.declared.way.Stop.{Stop}
use Rattle.marked_automaton.specs.Automaton.{Automaton, IsWhole, ReadsByte}
use Rattle.marked_automaton.specs.Marks.{remarked, remarked_stop, remarked_way}
use Rattle.marked_automaton.specs.Reduct.{IsReduct}
use Rattle.marked_automaton.proofs.Listed.{some_same}
use Rattle.marked_automaton.proofs.Passing.{filter_cases, flat_map_cases, has_flat_map}
use Rattle.marked_automaton.proofs.ReductWords.{way_back, end_back}
use Rattle.algebra.specs.Operations.{ends_with, join_of, moved_stop, moved_way, pair_stop, pair_way, union_of}
use Rattle.algebra.proofs.Bytes.{meet_left, meet_right}
use Rattle.algebra.proofs.Joins.{pair_same}
use Rattle.algebra.proofs.Whole.{pair_of}
use Rattle.segment_filter.specs.Idling.{IsLed, LeadsOut, Passes, WaitsOutside}
use Rattle.spanner_engine.specs.Waiting.{JoinWaits, ProjectionWaits, ReductWaits, UnionWaits}

-- ---- projections

module _ (e : ℕ → ℕ) (ways : List Way) (d : List ℕ) where
  pub pass_marked : (n i p q : ℕ) → Passes (map (remarked_way e) ways) d i n p q → Passes ways d i n p q
  pass_marked zero i p q h = h
  pass_marked (suc n) i p q h =
      let y = Has-map_cases (remarked_way e) ways h.0 h.1 in (
        y.0,
        y.1,
        ap (λ (g : Way). g.from) y.2 ∙ h.2,
        rw (← y.2) at h.3,
        pass_marked n (suc i) y.0.to q (rw (ap (λ (g : Way). g.to) y.2) h.4),
      )

module _ (A : Automaton) (e : ℕ → ℕ) (d : List ℕ) where
  pub led_marked : (i p : ℕ) → IsLed (remarked e A) d i p → IsLed A d i p
  led_marked i p h = (h.0, h.1, pass_marked e A.ways d i 0 h.0 p h.2)

  pub out_marked : (i p : ℕ) → LeadsOut (remarked e A) d i p → LeadsOut A d i p
  out_marked i p h =
      let x = Has-map_cases (remarked_stop e) A.stops h.1 h.3 in
      (h.0, x.0, h.2, x.1, subst (Passes A.ways d i h.0 p) (sym (ap (λ (g : Stop). g.state) x.2)) (pass_marked e A.ways d h.0 i p h.1.state h.4))

pub projection_waits : ProjectionWaits
projection_waits A e zero_kept d K waits = record {
  states = λ i p k led out. waits.states i p k (led_marked A e d i p led) (out_marked A e d i p out);
  ways = λ i y k h led byte out.
      let x = Has-map_cases (remarked_way e) A.ways y h in
      let from = ap (λ (g : Way). g.from) x.2 in
      let to = ap (λ (g : Way). g.to) x.2 in
      let r = waits.ways i x.0 k x.1 (subst (IsLed A d i) (sym from) (led_marked A e d i y.from led)) (rw (← x.2) at byte)
      (subst (LeadsOut A d (suc i)) (sym to) (out_marked A e d (suc i) y.to out)) in
      (sym (ap (λ (g : Way). g.marks) x.2) ∙ (ap e r.0 ∙ zero_kept), sym to ∙ (r.1 ∙ from));
}

-- ---- unions

module _ (A B : Automaton) (a : IsWhole A) (b : IsWhole B) (d : List ℕ) where
  abbrev U : Automaton
  U = union_of A B

  in_first : (y : Way) → Has U.ways y → y.from < A.states → Has A.ways y
  in_first y h l =
      elim (Has-append_cases A.ways (map (moved_way A.states) B.ways) y h) [
        | inl x ↦ x
        | inr x ↦ let r = Has-map_cases (moved_way A.states) B.ways y x in absurd (omega (arith, ap (λ (g : Way). g.from) r.2, l))
      ]

  in_second : (y : Way) (p : ℕ) → Has U.ways y → A.states + p ≡ y.from → (x : Way) × Has B.ways x × (moved_way A.states x ≡ y)
  in_second y p h e =
      elim (Has-append_cases A.ways (map (moved_way A.states) B.ways) y h) [
        | inl x ↦ absurd (omega (arith, a.froms y x, e))
        | inr x ↦ Has-map_cases (moved_way A.states) B.ways y x
      ]

  -- what begins in the first stays there
  pass_first : (n i p q : ℕ) → p < A.states → Passes U.ways d i n p q → Passes A.ways d i n p q × (q < A.states)
  pass_first zero i p q l h = (h, omega (arith, l, h))
  pass_first (suc n) i p q l h =
      let y = in_first h.0 h.1 (omega (arith, l, h.2)) in
      let r = pass_first n (suc i) h.0.to q (a.tos h.0 y) h.4 in
      ((h.0, y, h.2, h.3, r.0), r.1)

  -- and in the second
  pass_second : (n i p z q : ℕ) → A.states + p ≡ z → Passes U.ways d i n z q → (r : ℕ) × Passes B.ways d i n p r × (A.states + r ≡ q)
  pass_second zero i p z q at h = (p, refl, at ∙ h)
  pass_second (suc n) i p z q at h =
      let y = in_second h.0 p h.1 (at ∙ sym h.2) in
      let r = pass_second n (suc i) y.0.to h.0.to q (ap (λ (g : Way). g.to) y.2) h.4 in
      let from : y.0.from ≡ p = omega (arith, ap (λ (g : Way). g.from) y.2, at, h.2) in
      (r.0, (y.0, y.1, from, rw (← y.2) at h.3, r.1), r.2)

  abbrev Side : (ℕ → Type 0) → (ℕ → Type 0) → ℕ → Type 0
  Side P Q z = ((z < A.states) × P z) ⊎ ((p : ℕ) × (A.states + p ≡ z) × Q p)

  led_side : (i z : ℕ) → IsLed U d i z → Side (IsLed A d i) (IsLed B d i) z
  led_side i z h =
      elim (Has-append_cases A.starts (map (◌+◌ A.states) B.starts) h.0 h.1) [
        | inl s ↦ let r = pass_first i 0 h.0 z (a.starts h.0 s) h.2 in inl (r.1, (h.0, s, r.0))
        | inr s ↦
            let p = Has-map_cases (◌+◌ A.states) B.starts h.0 s in
            let r = pass_second i 0 p.0 h.0 z p.2 h.2 in
            inr (r.0, r.2, (p.0, p.1, r.1))
      ]

  out_first : (i z : ℕ) → z < A.states → LeadsOut U d i z → LeadsOut A d i z
  out_first i z l h =
      let r = pass_first h.0 i z h.1.state l h.4 in
      elim (Has-append_cases A.stops (map (moved_stop A.states) B.stops) h.1 h.3) [
        | inl x ↦ (h.0, h.1, h.2, x, r.0)
        | inr x ↦ let m = Has-map_cases (moved_stop A.states) B.stops h.1 x in absurd (omega (arith, ap (λ (g : Stop). g.state) m.2, r.1))
      ]

  out_second : (i z p : ℕ) → A.states + p ≡ z → LeadsOut U d i z → LeadsOut B d i p
  out_second i z p at h =
      let r = pass_second h.0 i p z h.1.state at h.4 in
      elim (Has-append_cases A.stops (map (moved_stop A.states) B.stops) h.1 h.3) [
        | inl x ↦ absurd (omega (arith, a.stops h.1 x, r.2))
        | inr x ↦
            let m = Has-map_cases (moved_stop A.states) B.stops h.1 x in
            let same : r.0 ≡ m.0.state = omega (arith, ap (λ (g : Stop). g.state) m.2, r.2) in
            (h.0, m.0, h.2, m.1, subst (Passes B.ways d i h.0 p) same r.1)
      ]

  module _ (K : ℕ → Bool) (wa : WaitsOutside A d K) (wb : WaitsOutside B d K) where
    union_states : (i z : ℕ) → K i ≡ false → IsLed U d i z → LeadsOut U d i z → Has U.idle z
    union_states i z k led out =
        elim (led_side i z led) [
          | inl s ↦ Has-append_left A.idle (map (◌+◌ A.states) B.idle) z (wa.states i z k s.1 (out_first i z s.0 out))
          | inr s ↦ Has-append_right A.idle (map (◌+◌ A.states) B.idle) z
              (subst (Has (map (◌+◌ A.states) B.idle)) s.1 (Has-map (◌+◌ A.states) B.idle s.0 (wb.states i s.0 k s.2 (out_second i z s.0 s.1 out))))
        ]

    union_ways : (i : ℕ) (y : Way) → K i ≡ false → Has U.ways y → IsLed U d i y.from → ReadsByte d i y.bytes → LeadsOut U d (suc i) y.to →
        (y.marks ≡ 0) × (y.to ≡ y.from)
    union_ways i y k h led byte out =
        elim (led_side i y.from led) [
          | inl s ↦ let x = in_first y h s.0 in wa.ways i y k x s.1 byte (out_first (suc i) y.to (a.tos y x) out)
          | inr s ↦
              let x = in_second y s.0 h s.1 in
              let from = ap (λ (g : Way). g.from) x.2 in
              let to = ap (λ (g : Way). g.to) x.2 in
              let same : s.0 ≡ x.0.from = omega (arith, s.1, from) in
              let r = wb.ways i x.0 k x.1 (subst (IsLed B d i) same s.2) (rw (← x.2) at byte)
              (out_second (suc i) y.to x.0.to to out) in
              (sym (ap (λ (g : Way). g.marks) x.2) ∙ r.0, sym to ∙ (ap (λ v. A.states + v) r.1 ∙ from))
        ]

pub union_waits : UnionWaits
union_waits A B a b d K wa wb = record { states = union_states A B a b d K wa wb; ways = union_ways A B a b d K wa wb }

-- ---- joins

module _ (agree : ℕ → ℕ → Bool) (both : ℕ → ℕ → ℕ) (A B : Automaton) (a : IsWhole A) (b : IsWhole B) (d : List ℕ) where
  abbrev J : Automaton
  J = join_of agree both A B

  -- a way from a pair
  record PairWay (y : Way) (p q : ℕ) : Type 0 where
    left : Way
    right : Way
    is_left : Has A.ways left
    is_right : Has B.ways right
    is : pair_way agree both B.states left right ≡ y
    from_left : left.from ≡ p
    from_right : right.from ≡ q

  pair_from : (y : Way) (p q : ℕ) → q < B.states → Has J.ways y → p * B.states + q ≡ y.from → PairWay y p q
  pair_from y p q l h e =
      let r = pair_of A B a b agree both y h in
      let at : r.0.from * B.states + r.1.from ≡ p * B.states + q = ap (λ (g : Way). g.from) r.4 ∙ sym e in
      let same = pair_same B.states r.0.from r.1.from p q (b.froms r.1 r.3) l at in
      record { left = r.0; right = r.1; is_left = r.2; is_right = r.3; is = r.4; from_left = same.0; from_right = same.1 }

  byte_left : (i : ℕ) (y : Way) (p q : ℕ) (r : PairWay y p q) → ReadsByte d i y.bytes → ReadsByte d i r.left.bytes
  byte_left i y p q r byte =
      let m = rw (← r.is) at byte in
      (m.0, m.1, meet_left r.left.bytes r.right.bytes m.0 m.2)

  byte_right : (i : ℕ) (y : Way) (p q : ℕ) (r : PairWay y p q) → ReadsByte d i y.bytes → ReadsByte d i r.right.bytes
  byte_right i y p q r byte =
      let m = rw (← r.is) at byte in
      (m.0, m.1, meet_right r.left.bytes r.right.bytes m.0 m.2)

  -- a walk of pairs is one of each part
  pass_pair : (n i p q y z : ℕ) → q < B.states → p * B.states + q ≡ y → Passes J.ways d i n y z →
      (r : ℕ) × (s : ℕ) × Passes A.ways d i n p r × Passes B.ways d i n q s × (s < B.states) × (r * B.states + s ≡ z)
  pass_pair zero i p q y z l at h = (p, q, refl, refl, l, at ∙ h)
  pass_pair (suc n) i p q y z l at h =
      let w = pair_from h.0 p q l h.1 (at ∙ sym h.2) in
      let r = pass_pair n (suc i) w.left.to w.right.to h.0.to z (b.tos w.right w.is_right) (ap (λ (g : Way). g.to) w.is) h.4 in (
        r.0,
        r.1,
        (w.left, w.is_left, w.from_left, byte_left i h.0 p q w h.3, r.2),
        (w.right, w.is_right, w.from_right, byte_right i h.0 p q w h.3, r.3),
        r.4,
        r.5,
      )

  led_pair : (i z : ℕ) → IsLed J d i z → (p : ℕ) × (q : ℕ) × IsLed A d i p × IsLed B d i q × (q < B.states) × (p * B.states + q ≡ z)
  led_pair i z h =
      let s = flat_map_cases (λ p. map (λ q. p * B.states + q) B.starts) A.starts h.0 h.1 in
      let t = Has-map_cases (λ q. s.0 * B.states + q) B.starts h.0 s.2 in
      let r = pass_pair i 0 s.0 t.0 h.0 z (b.starts t.0 t.1) t.2 h.2 in
      (r.0, r.1, (s.0, s.1, r.2), (t.0, t.1, r.3), r.4, r.5)

  out_pair : (i p q z : ℕ) → q < B.states → p * B.states + q ≡ z → LeadsOut J d i z → LeadsOut A d i p × LeadsOut B d i q
  out_pair i p q z l at h =
      let r = pass_pair h.0 i p q z h.1.state l at h.4 in
      let x = flat_map_cases (λ x. map (pair_stop agree both B.states x) (filter (ends_with agree both x) B.stops)) A.stops h.1 h.3 in
      let y = Has-map_cases (pair_stop agree both B.states x.0) (filter (ends_with agree both x.0) B.stops) h.1 x.2 in
      let t = filter_cases (ends_with agree both x.0) B.stops y.0 y.1 in
      let same = pair_same B.states r.0 r.1 x.0.state y.0.state r.4 (b.stops y.0 t.0) (r.5 ∙ sym (ap (λ (g : Stop). g.state) y.2)) in
      ((h.0, x.0, h.2, x.1, subst (Passes A.ways d i h.0 p) same.0 r.2), (h.0, y.0, h.2, t.0, subst (Passes B.ways d i h.0 q) same.1 r.3))

  module _ (K : ℕ → Bool) (empty : both 0 0 ≡ 0) (wa : WaitsOutside A d K) (wb : WaitsOutside B d K) where
    join_states : (i z : ℕ) → K i ≡ false → IsLed J d i z → LeadsOut J d i z → Has J.idle z
    join_states i z k led out =
        let r = led_pair i z led in
        let o = out_pair i r.0 r.1 z r.4 r.5 out in
        subst (Has J.idle) r.5
        (has_flat_map (λ p. map (λ q. p * B.states + q) B.idle) A.idle r.0 (r.0 * B.states + r.1) (wa.states i r.0 k r.2 o.0)
        (Has-map (λ q. r.0 * B.states + q) B.idle r.1 (wb.states i r.1 k r.3 o.1)))

    join_ways : (i : ℕ) (y : Way) → K i ≡ false → Has J.ways y → IsLed J d i y.from → ReadsByte d i y.bytes → LeadsOut J d (suc i) y.to →
        (y.marks ≡ 0) × (y.to ≡ y.from)
    join_ways i y k h led byte out =
        let r = led_pair i y.from led in
        let w = pair_from y r.0 r.1 r.4 h r.5 in
        let to = ap (λ (g : Way). g.to) w.is in
        let o = out_pair (suc i) w.left.to w.right.to y.to (b.tos w.right w.is_right) to out in
        let l = wa.ways i w.left k w.is_left (subst (IsLed A d i) (sym w.from_left) r.2) (byte_left i y r.0 r.1 w byte) o.0 in
        let m = wb.ways i w.right k w.is_right (subst (IsLed B d i) (sym w.from_right) r.3) (byte_right i y r.0 r.1 w byte) o.1 in (
          sym (ap (λ (g : Way). g.marks) w.is) ∙ ((ap (λ v. both v w.right.marks) l.0 ∙ ap (both 0) m.0) ∙ empty),
          sym to ∙ ((ap (λ v. v * B.states + w.right.to) l.1 ∙ ap (λ v. w.left.from * B.states + v) m.1) ∙ ap (λ (g : Way). g.from) w.is),
        )

pub join_waits : JoinWaits
join_waits agree both A B a b empty d K wa wb =
    record { states = join_states agree both A B a b d K empty wa wb; ways = join_ways agree both A B a b d K empty wa wb }

-- ---- reducts

module _ (A B : Automaton) (f g : ℕ → Option ℕ) (e : ℕ → ℕ → ℕ) (r : IsReduct A B f g e) (d : List ℕ) where
  pass_back : (n i b a q : ℕ) → f b ≡ Some a → Passes A.ways d i n a q → (p : ℕ) × Passes B.ways d i n b p × (f p ≡ Some q)
  pass_back zero i b a q at h = (b, refl, at ∙ ap Some h)
  pass_back (suc n) i b a q at h =
      let y = way_back A B f g e r b h.3.0 h.0 h.1 (at ∙ ap Some (sym h.2)) h.3.2 in
      let rest = pass_back n (suc i) y.0.to h.0.to q y.5 h.4 in
      (rest.0, (y.0, y.1, y.2, (h.3.0, h.3.1, y.3), rest.1), rest.2)

  led_back : (i a : ℕ) → IsLed A d i a → (b : ℕ) × IsLed B d i b × (f b ≡ Some a)
  led_back i a h =
      let s = r.starts_back h.0 h.1 in
      let p = pass_back i 0 s.0 h.0 a s.2 h.2 in
      (p.0, (s.0, s.1, p.1), p.2)

  out_back : (i b a : ℕ) → f b ≡ Some a → LeadsOut A d i a → LeadsOut B d i b
  out_back i b a at h =
      let p = pass_back h.0 i b a h.1.state at h.4 in
      (h.0, record { state = p.0; marks = h.1.marks }, h.2, end_back A B f g e r p.0 h.1.state h.1.marks p.2 h.3, p.1)

  module _ (K : ℕ → Bool) (waits : WaitsOutside B d K) where
    reduct_states : (i a : ℕ) → K i ≡ false → IsLed A d i a → LeadsOut A d i a → Has A.idle a
    reduct_states i a k led out =
        let b = led_back i a led in
        (r.idles b.0 a b.2).1 (waits.states i b.0 k b.1 (out_back i b.0 a b.2 out))

    reduct_ways : (i : ℕ) (x : Way) → K i ≡ false → Has A.ways x → IsLed A d i x.from → ReadsByte d i x.bytes → LeadsOut A d (suc i) x.to →
        (x.marks ≡ 0) × (x.to ≡ x.from)
    reduct_ways i x k h led byte out =
        let b = led_back i x.from led in
        let y = way_back A B f g e r b.0 byte.0 x h b.2 byte.2 in
        let z = waits.ways i y.0 k y.1 (subst (IsLed B d i) (sym y.2) b.1) (byte.0, byte.1, y.3) (out_back (suc i) y.0.to x.to y.5 out) in
        (sym y.4 ∙ z.0, some_same x.to x.from (sym y.5 ∙ (ap f (z.1 ∙ y.2) ∙ b.2)))

pub reduct_waits : ReductWaits
reduct_waits A B h d K waits =
    record { states = reduct_states A B h.0 h.1 h.2 h.3 d K waits; ways = reduct_ways A B h.0 h.1 h.2 h.3 d K waits }
