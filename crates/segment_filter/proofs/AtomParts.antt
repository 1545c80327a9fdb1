-- The parts that an atom's places read, and the states in which its automaton stands.
use Rattle.std.proofs.Common.{◌≡◌, ℕ, zero, suc, ◌+◌, ◌<◌, ◌≤◌, ◌⊎◌, List, [], ◌∷◌, Bool, false, length, inl, inr, refl, sym, ap, subst, arith, ◌∙◌}
use Rattle.std.specs.Prelude.{map, IsTrue}
use Rattle.span_core.specs.Lists.{Has}
use Rattle.span_core.proofs.HasLaws.{Has-append_cases, Has-append_left, Has-append_right, Has-map_cases}
use Rattle.marked_automaton.specs.declared.way.Way.{Way}
use Rattle.marked_automaton.specs.declared.way.Stop.{Stop}
use Rattle.marked_automaton.specs.Automaton.{Automaton, ReadsByte, idle_way}
use Rattle.place_automaton.specs.declared.fragment.Entry.{Entry}
use Rattle.place_automaton.specs.Places.{Places}
use Rattle.place_automaton.specs.Atom.{after_ways, automaton_of_places, place_stops, stop_before, unless, way_after, way_from_first}
use Rattle.place_automaton.proofs.AtomRuns.{WayCases, not_true, only_idle_after, stop_cases, unless_has, way_cases}
use Rattle.place_automaton.proofs.Ranges.{LiesFrom}
use Rattle.segment_filter.specs.Idling.{IsLed, LeadsOut, Passes, WaitsOutside}
use Rattle.segment_filter.proofs.PassLaws.{leads_on, pass_then}

-- the places read the part from a to b
abbrev pub IsRead : Places → List ℕ → ℕ → ℕ → Type 0
IsRead P d a b =
    ((a ≡ b) × ((m : ℕ) × Has P.null m))
    ⊎ ((n : ℕ) × (e : Entry) × (x : Stop) × (b ≡ suc (a + n)) × Has P.first e × Has P.last x × ReadsByte d a e.bytes
    × Passes P.follow d (suc a) n e.to x.state)

-- some part, tied as it has to be, that the position is in
abbrev pub IsInPart : Bool → Bool → Places → List ℕ → ℕ → Type 0
IsInPart s t P d i =
    (a : ℕ) × (b : ℕ) × IsRead P d a b × (b ≤ length d) × (IsTrue s → a ≡ 0) × (IsTrue t → b ≡ length d) × (a ≤ i) × (i ≤ b)

module _ (s t : Bool) (P : Places) (lies : LiesFrom 1 P) (d : List ℕ) where
  abbrev pub after : ℕ
  after = suc P.count

  abbrev pub A : Automaton
  A = automaton_of_places s t P

  abbrev pub IsPlace : ℕ → Type 0
  IsPlace r = (1 ≤ r) × (r < after)

  ways_are : (y : Way) → Has A.ways y → WayCases s t P lies d (λ i. 0) y
  ways_are y h = way_cases s t P lies d (λ i. 0) y h

  -- what is known of the ends in front of After
  place_or_null : (x : Stop) → Has (place_stops P) x → (Has P.last x × IsPlace x.state) ⊎ ((m : ℕ) × Has P.null m × (stop_before m ≡ x))
  place_or_null x h =
      elim (Has-append_cases P.last (map stop_before P.null) x h) [
        | inl l ↦ inl (l, let r = lies.lasts x l in (r.0, omega (arith, r.1)))
        | inr m ↦ inr (Has-map_cases stop_before P.null x m)
      ]

  -- from After on
  pub after_led : (n i r : ℕ) → Passes A.ways d i n after r → r ≡ after
  after_led zero i r h = sym h
  after_led (suc n) i r h =
      let e = only_idle_after s t P lies d (λ i. 0) h.0 h.1 h.2 in
      after_led n (suc i) r (rw (← (ap (λ (y : Way). y.to) e)) at h.4)

  -- from a place on
  abbrev FromPlace : ℕ → ℕ → ℕ → ℕ → Type 0
  FromPlace i n p r = (Passes P.follow d i n p r × IsPlace r) ⊎ ((r ≡ after) × (t ≡ false))

  place_led : (n i p r : ℕ) → IsPlace p → Passes A.ways d i n p r → FromPlace i n p r
  place_led zero i p r l h = inl (h, (omega (arith, l.0, h), omega (arith, l.1, h)))
  place_led (suc n) i p r l h =
      elim (ways_are h.0 h.1) [
        | inl a ↦ absurd (omega (arith, ap (λ (g : Way). g.from) a.1, h.2, l.0))
        | inr b ↦ elim b [
          | inl f ↦ absurd (omega (arith, ap (λ (g : Way). g.from) f.2, h.2, l.0))
          | inr c ↦ elim c [
            | inl f ↦
                let to = lies.tos h.0 f in
                elim (place_led n (suc i) h.0.to r (to.0, omega (arith, to.1)) h.4) as (λ _. FromPlace i (suc n) p r) [
                  | inl g ↦ inl ((h.0, f, h.2, h.3, g.0), g.1)
                  | inr g ↦ inr g
                ]
            | inr u ↦ inr (after_led n (suc i) r (rw (to_after h.0 u.1) at h.4), u.0)
          ]
        ]
      ]
    where
      to_after : (y : Way) → Has (after_ways after P) y → y.to ≡ after
      to_after y (inl same) = sym (ap (λ (g : Way). g.to) same)
      to_after y (inr m) = let z = Has-map_cases (way_after after) (place_stops P) y m in sym (ap (λ (g : Way). g.to) z.2)

  -- a part that begins before i leads to the place r at i
  abbrev pub IsEntered : ℕ → ℕ → Type 0
  IsEntered i r =
      (a : ℕ) × (m : ℕ) × (e : Entry) × (a + suc m ≡ i) × Has P.first e × ReadsByte d a e.bytes × Passes P.follow d (suc a) m e.to r × (IsTrue s → a ≡ 0)

  -- the states that are led to: Before, a place, After
  abbrev pub LedCases : ℕ → ℕ → Type 0
  LedCases i r = ((r ≡ 0) × (IsTrue s → i ≡ 0)) ⊎ ((IsEntered i r × IsPlace r) ⊎ ((r ≡ after) × (t ≡ false)))

  before_led : (n i r : ℕ) → (IsTrue s → i ≡ 0) → Passes A.ways d i n 0 r → LedCases (i + n) r
  before_led zero i r tied h = inl (sym h, λ x. let e = tied x in omega (arith, e))
  before_led (suc n) i r tied h =
      elim (ways_are h.0 h.1) [
        | inl a ↦
            let rest = before_led n (suc i) r (not_true s (suc i ≡ 0) a.0) (rw (← (ap (λ (g : Way). g.to) a.1)) at h.4) in
            let e : suc i + n ≡ i + suc n = omega arith in
            rw (← e) rest
        | inr b ↦ elim b [
          | inl f ↦ first f.0 f.1 f.2
          | inr c ↦ elim c [
            | inl f ↦ absurd (omega (arith, (lies.froms h.0 f).0, h.2))
            | inr u ↦ inr (inr (after_led n (suc i) r (rw (to_after h.0 u.1) at h.4), u.0))
          ]
        ]
      ]
    where
      to_after : (y : Way) → Has (after_ways after P) y → y.to ≡ after
      to_after y (inl same) = sym (ap (λ (g : Way). g.to) same)
      to_after y (inr m) = let z = Has-map_cases (way_after after) (place_stops P) y m in sym (ap (λ (g : Way). g.to) z.2)

      first : (e : Entry) → Has P.first e → way_from_first e ≡ h.0 → LedCases (i + suc n) r
      first e k same =
          let to = lies.firsts e k in
          let rest : Passes A.ways d (suc i) n e.to r = rw (ap (λ (g : Way). g.to) same) h.4 in
          let byte : ReadsByte d i e.bytes = rw (← same) at h.3 in
          elim (place_led n (suc i) e.to r (to.0, omega (arith, to.1)) rest) as (λ _. LedCases (i + suc n) r) [
            | inl g ↦ inr (inl ((i, n, e, refl, k, byte, g.0, tied), g.1))
            | inr g ↦ inr (inr g)
          ]

  pub led_cases : (i r : ℕ) → IsLed A d i r → LedCases i r
  led_cases i r h =
      let z : h.0 ≡ 0 = elim h.1 [ inl e ↦ sym e | inr b ↦ absurd b ] in
      let e : 0 + i ≡ i = omega arith in
      subst (λ j. LedCases j r) e (before_led i 0 r (λ x. refl) (subst (λ v. Passes A.ways d 0 i v r) z h.2))

  -- from a place the part is read to its end
  abbrev pub EndsAt : ℕ → ℕ → Type 0
  EndsAt i p =
      (k : ℕ) × (l : Stop) × Has P.last l × Passes P.follow d i k p l.state × (i + k ≤ length d) × (IsTrue t → i + k ≡ length d)

  place_out : (n i p : ℕ) (x : Stop) → IsPlace p → i + n ≡ length d → Has A.stops x → Passes A.ways d i n p x.state → EndsAt i p
  place_out zero i p x l len stop h =
      elim (stop_cases s t P lies d (λ i. 0) x stop) [
        | inl a ↦ (0, x, a, h, omega (arith, len), λ tied. len)
        | inr b ↦ elim b [
          | inl k ↦ absurd (omega (arith, ap (λ (g : Stop). g.state) k.2, l.0, h))
          | inr k ↦ absurd (omega (arith, k.1, l.1, h))
        ]
      ]
  place_out (suc n) i p x l len stop h =
      elim (ways_are h.0 h.1) [
        | inl a ↦ absurd (omega (arith, ap (λ (g : Way). g.from) a.1, h.2, l.0))
        | inr b ↦ elim b [
          | inl f ↦ absurd (omega (arith, ap (λ (g : Way). g.from) f.2, h.2, l.0))
          | inr c ↦ elim c [
            | inl f ↦
                let to = lies.tos h.0 f in
                let r = place_out n (suc i) h.0.to x (to.0, omega (arith, to.1)) (omega (arith, len)) stop h.4 in
                let e : suc i + r.0 ≡ i + suc r.0 = omega arith in
                (suc r.0, r.1, r.2, (h.0, f, h.2, h.3, r.3), omega (arith, r.4), λ tied. sym e ∙ r.5 tied)
            | inr u ↦ ends u.0 u.1
          ]
        ]
      ]
    where
      ends : t ≡ false → Has (after_ways after P) h.0 → EndsAt i p
      ends free (inl same) = absurd (omega (arith, ap (λ (g : Way). g.from) same, h.2, l.1))
      ends free (inr m) =
          let z = Has-map_cases (way_after after) (place_stops P) h.0 m in
          let from = ap (λ (g : Way). g.from) z.2 in
          elim (place_or_null z.0 z.1) [
            | inl k ↦ (0, z.0, k.0, sym (from ∙ h.2), omega (arith, len), not_true t (i + 0 ≡ length d) free)
            | inr k ↦ absurd (omega (arith, ap (λ (g : Stop). g.state) k.2, from, h.2, l.0))
          ]

  -- a place that is led to, and leads to an end
  pub place_in_part : (i r : ℕ) → IsEntered i r → EndsAt i r → IsInPart s t P d i
  place_in_part i r h k =
      let at : i ≡ suc h.0 + h.1 = omega (arith, h.3) in
      let end : i + k.0 ≡ suc (h.0 + (h.1 + k.0)) = omega (arith, h.3) in (
        h.0,
        i + k.0,
        inr (h.1 + k.0, h.2, k.1, end, h.4, k.2, h.5, pass_then P.follow d h.1 k.0 (suc h.0) i h.2.to r k.1.state at h.6 k.3),
        k.4,
        h.7,
        k.5,
        omega (arith, h.3),
        omega arith,
      )

  -- a part that begins here
  abbrev pub BeginsHere : ℕ → Type 0
  BeginsHere i = (b : ℕ) × IsRead P d i b × (b ≤ length d) × (IsTrue t → b ≡ length d) × (i ≤ b)

  first_here : (i : ℕ) (e : Entry) → Has P.first e → ReadsByte d i e.bytes → EndsAt (suc i) e.to → BeginsHere i
  first_here i e h byte k = (suc i + k.0, inr (k.0, e, k.1, omega arith, h, k.2, byte, k.3), k.4, k.5, omega arith)

  null_here : (i m : ℕ) → Has P.null m → i ≤ length d → (IsTrue t → i ≡ length d) → BeginsHere i
  null_here i m h l end = (i, inl (refl, (m, h)), l, end, omega arith)

  pub here_in_part : (i : ℕ) → (IsTrue s → i ≡ 0) → BeginsHere i → IsInPart s t P d i
  here_in_part i tied h = (i, h.0, h.1, h.2, tied, h.3, omega arith, h.4)

  -- from Before
  before_out : (n i : ℕ) (x : Stop) → i + n ≡ length d → Has A.stops x → Passes A.ways d i n 0 x.state → BeginsHere i ⊎ (s ≡ false)
  before_out zero i x len stop h =
      elim (stop_cases s t P lies d (λ i. 0) x stop) [
        | inl a ↦ absurd (omega (arith, (lies.lasts x a).0, h))
        | inr b ↦ elim b [
          | inl k ↦ inl (null_here i k.0 k.1 (omega (arith, len)) (λ z. omega (arith, len)))
          | inr k ↦ absurd (omega (arith, k.1, h))
        ]
      ]
  before_out (suc n) i x len stop h =
      elim (ways_are h.0 h.1) [
        | inl a ↦ inr a.0
        | inr b ↦ elim b [
          | inl f ↦ inl (first f.0 f.1 f.2)
          | inr c ↦ elim c [
            | inl f ↦ absurd (omega (arith, (lies.froms h.0 f).0, h.2))
            | inr u ↦ inl (null u.0 u.1)
          ]
        ]
      ]
    where
      first : (e : Entry) → Has P.first e → way_from_first e ≡ h.0 → BeginsHere i
      first e k same =
          let to = lies.firsts e k in
          first_here i e k (rw (← same) at h.3)
          (place_out n (suc i) e.to x (to.0, omega (arith, to.1)) (omega (arith, len)) stop
          (rw (ap (λ (g : Way). g.to) same) h.4))

      null : t ≡ false → Has (after_ways after P) h.0 → BeginsHere i
      null free (inl same) = absurd (omega (arith, ap (λ (g : Way). g.from) same, h.2))
      null free (inr m) =
          let z = Has-map_cases (way_after after) (place_stops P) h.0 m in
          let from = ap (λ (g : Way). g.from) z.2 in
          elim (place_or_null z.0 z.1) [
            | inl k ↦ absurd (omega (arith, k.1.0, from, h.2))
            | inr k ↦ null_here i k.0 k.1 (omega (arith, len)) (not_true t (i ≡ length d) free)
          ]

  pub out_of_place : (i r : ℕ) → IsPlace r → LeadsOut A d i r → EndsAt i r
  out_of_place i r l h = place_out h.0 i r h.1 l h.2 h.3 h.4

  pub out_of_before : (i : ℕ) → LeadsOut A d i 0 → BeginsHere i ⊎ (s ≡ false)
  out_of_before i h = before_out h.0 i h.1 h.2 h.3 h.4

  -- ---- the automaton only waits outside of the parts

  module _ (K : ℕ → Bool) (has : (i : ℕ) → IsInPart s t P d i → IsTrue (K i)) where
    never : (i : ℕ) {X : Type 0} → K i ≡ false → IsInPart s t P d i → X
    never i {X} e h = let k = has i h in absurd (cc)

    idle_before : s ≡ false → Has A.idle 0
    idle_before e = Has-append_left (unless s (0 ∷ [])) (unless t (after ∷ [])) 0 (unless_has s (0 ∷ []) 0 e (inl refl))

    idle_after : t ≡ false → Has A.idle after
    idle_after e = Has-append_right (unless s (0 ∷ [])) (unless t (after ∷ [])) after (unless_has t (after ∷ []) after e (inl refl))

    waits_states : (i r : ℕ) → K i ≡ false → IsLed A d i r → LeadsOut A d i r → Has A.idle r
    waits_states i r k led out =
        elim (led_cases i r led) [
          | inl b ↦ elim (out_of_before i (subst (LeadsOut A d i) b.0 out)) [
            | inl part ↦ never i k (here_in_part i b.1 part)
            | inr free ↦ subst (Has A.idle) (sym b.0) (idle_before free)
          ]
          | inr c ↦ elim c [
            | inl p ↦ never i k (place_in_part i r p.0 (out_of_place i r p.1 out))
            | inr a ↦ subst (Has A.idle) (sym a.0) (idle_after a.1)
          ]
        ]

    -- a way from a place
    from_place : (i : ℕ) (y : Way) {X : Type 0} → K i ≡ false → IsPlace y.from → IsLed A d i y.from → LeadsOut A d i y.from → X
    from_place i y {X} k l led out =
        elim (led_cases i y.from led) as (λ _. X) [
          | inl b ↦ absurd (omega (arith, b.0, l.0))
          | inr c ↦ elim c as (λ _. X) [
            | inl p ↦ never i k (place_in_part i y.from p.0 (out_of_place i y.from l out))
            | inr a ↦ absurd (omega (arith, a.0, l.1))
          ]
        ]

    -- where Before is led to
    tied_before : (i r : ℕ) → r ≡ 0 → IsLed A d i r → IsTrue s → i ≡ 0
    tied_before i r z led =
        elim (led_cases i r led) [
          | inl b ↦ b.1
          | inr c ↦ elim c [ inl p ↦ absurd (omega (arith, p.1.0, z)) | inr a ↦ absurd (omega (arith, a.0, z)) ]
        ]

    waits_ways : (i : ℕ) (y : Way) → K i ≡ false → Has A.ways y → IsLed A d i y.from → ReadsByte d i y.bytes → LeadsOut A d (suc i) y.to →
        (y.marks ≡ 0) × (y.to ≡ y.from)
    waits_ways i y k h led byte out =
        elim (ways_are y h) [
          | inl a ↦ idles 0 a.1
          | inr b ↦ elim b [
            | inl f ↦ first f.0 f.1 f.2
            | inr c ↦ elim c [
              | inl f ↦ let l = lies.froms y f in from_place i y k (l.0, omega (arith, l.1)) led (leads_on A d i y h byte out)
              | inr u ↦ ends u.0 u.1
            ]
          ]
        ]
      where
        idles : (p : ℕ) → idle_way p ≡ y → (y.marks ≡ 0) × (y.to ≡ y.from)
        idles p e = (sym (ap (λ (g : Way). g.marks) e), sym (ap (λ (g : Way). g.to) e) ∙ ap (λ (g : Way). g.from) e)

        first : (e : Entry) → Has P.first e → way_from_first e ≡ y → (y.marks ≡ 0) × (y.to ≡ y.from)
        first e m same =
            let to = lies.firsts e m in
            let z : y.from ≡ 0 = sym (ap (λ (g : Way). g.from) same) in
            never i k (here_in_part i (tied_before i y.from z led)
            (first_here i e m (rw (← same) at byte)
            (out_of_place (suc i) e.to (to.0, omega (arith, to.1)) (subst (LeadsOut A d (suc i)) (sym (ap (λ (g : Way). g.to) same)) out))))

        ends : t ≡ false → Has (after_ways after P) y → (y.marks ≡ 0) × (y.to ≡ y.from)
        ends free (inl same) = idles after same
        ends free (inr m) =
            let z = Has-map_cases (way_after after) (place_stops P) y m in
            let from = ap (λ (g : Way). g.from) z.2 in
            elim (place_or_null z.0 z.1) as (λ _. (y.marks ≡ 0) × (y.to ≡ y.from)) [
              | inl p ↦ from_place i y k (subst IsPlace from p.1) led (leads_on A d i y h byte out)
              | inr n ↦ never i k (here_in_part i (tied_before i y.from (sym (ap (λ (g : Stop). g.state) n.2 ∙ from)) led)
                  (null_here i n.0 n.1 (omega (arith, out.2)) (not_true t (i ≡ length d) free)))
            ]

    pub places_wait : WaitsOutside A d K
    places_wait = record { states = waits_states; ways = waits_ways }
