-- The positions at which the two readings of an atom share a state are those that it touches.
use Rattle.std.proofs.Common.{◌≡◌, ℕ, zero, suc, ◌+◌, ◌-◌, ◌<◌, ◌≤◌, ◌⊎◌, List, [], ◌∷◌, Bool, true, false, length, inl, inr, refl, sym, subst, arith, ◌∙◌}
use Rattle.std.specs.Prelude.{map, IsTrue}
use Rattle.span_core.specs.Lists.{Has}
use Rattle.span_core.proofs.HasLaws.{Has-append_left, Has-append_right, Has-map}
use Rattle.marked_automaton.specs.declared.way.Way.{Way}
use Rattle.marked_automaton.specs.declared.way.Stop.{Stop}
use Rattle.marked_automaton.specs.Automaton.{Automaton, idle_way}
use Rattle.marked_automaton.proofs.Listed.{compared}
use Rattle.place_automaton.specs.Places.{Places, placed}
use Rattle.place_automaton.specs.Atom.{AreBytes, automaton_of_places, place_stops, stop_before, unless, way_after, way_from_first}
use Rattle.place_automaton.specs.Words.{closing_of, opening_of}
use Rattle.place_automaton.proofs.AtomRuns.{after_there, any_byte, first_there, follow_there, idle_there, unless_has}
use Rattle.place_automaton.proofs.Ranges.{LiesFrom, places_lie}
use Rattle.segment_filter.specs.Idling.{IsLed, LeadsOut, Passes}
use Rattle.segment_filter.specs.Sharing.{SharingLaw}
use Rattle.segment_filter.proofs.AtomParts.{IsInPart, IsRead, here_in_part, led_cases, out_of_before, out_of_place, place_in_part}
use Rattle.segment_filter.proofs.AtomWaiting.{part_touched, touched_part}
use Rattle.segment_filter.proofs.PassLaws.{pass_cut, pass_more, pass_on, pass_then}

module _ (s t : Bool) (P : Places) (lies : LiesFrom 1 P) (d : List ℕ) where
  abbrev after : ℕ
  after = suc P.count

  -- read forwards, and backwards
  abbrev F : Automaton
  F = automaton_of_places s t P

  abbrev B : Automaton
  B = automaton_of_places true t P

  abbrev Shared : ℕ → Type 0
  Shared i = (r : ℕ) × (r ≤ P.count) × IsLed F d i r × LeadsOut B d i r

  pub shared_part : (i : ℕ) → Shared i → IsInPart s t P d i
  shared_part i h =
      elim (led_cases s t P lies d i h.0 h.2) [
        | inl b ↦ elim (out_of_before true t P lies d i (subst (LeadsOut B d i) b.0 h.3)) [
          | inl k ↦ here_in_part s t P lies d i b.1 k
          | inr e ↦ absurd (cc)
        ]
        | inr c ↦ elim c [
          | inl p ↦ place_in_part s t P lies d i h.0 p.0 (out_of_place true t P lies d i h.0 p.1 h.3)
          | inr a ↦ absurd (omega (arith, a.0, h.1))
        ]
      ]

  -- the follow ways stay in places
  follow_stays : (n i p q : ℕ) → p ≤ P.count → Passes P.follow d i n p q → q ≤ P.count
  follow_stays zero i p q l h = omega (arith, l, h)
  follow_stays (suc n) i p q l h = let to = lies.tos h.0 h.1 in follow_stays n (suc i) h.0.to q (omega (arith, to.1)) h.4

  module _ (bytes : AreBytes d) where
    idle_passes : (ways : List Way) (p : ℕ) → Has ways (idle_way p) → (n i : ℕ) → i + n ≤ length d → Passes ways d i n p p
    idle_passes ways p h zero i l = refl
    idle_passes ways p h (suc n) i l =
        (idle_way p, h, refl, any_byte d bytes i (omega (arith, l)), idle_passes ways p h n (suc i) (omega (arith, l)))

    before_passes : (i : ℕ) → i ≤ length d → (IsTrue s → i ≡ 0) → Passes F.ways d 0 i 0 0
    before_passes i l tied = go s refl
      where
        go : (b : Bool) → s ≡ b → Passes F.ways d 0 i 0 0
        go true at = rw (tied at) refl
        go false at = idle_passes F.ways 0 (idle_there s t P lies d (λ i. 0) at) i 0 (omega (arith, l))

    before_is_led : (i : ℕ) → i ≤ length d → (IsTrue s → i ≡ 0) → IsLed F d i 0
    before_is_led i l tied = (0, inl refl, before_passes i l tied)

    -- from an end of a part on
    end_out : (j : ℕ) (x : Stop) → j ≤ length d → (IsTrue t → j ≡ length d) → Has (place_stops P) x → LeadsOut B d j x.state
    end_out j x l tied h = go (compared j (length d))
      where
        later : t ≡ false → j < length d → LeadsOut B d j x.state
        later free less = (
          suc (length d - suc j),
          record { state = after; marks = 0 },
          omega (arith, less),
          Has-append_right (place_stops P) (unless t (record { state = after; marks = 0 } ∷ [])) (record { state = after; marks = 0 })
              (unless_has t (record { state = after; marks = 0 } ∷ []) (record { state = after; marks = 0 }) free (inl refl)),
          (
            way_after after x,
            after_there true t P lies d (λ i. 0) free (way_after after x) (inr (Has-map (way_after after) (place_stops P) x h)),
            refl,
            any_byte d bytes j less,
            idle_passes B.ways after (after_there true t P lies d (λ i. 0) free (idle_way after) (inl refl)) (length d - suc j) (suc j) (omega (arith, less)),
          ),
        )

        test : (b : Bool) → t ≡ b → j < length d → LeadsOut B d j x.state
        test true at less = absurd (omega (arith, tied at, less))
        test false at less = later at less

        go : (j < length d) ⊎ ((j ≡ length d) ⊎ (length d < j)) → LeadsOut B d j x.state
        go (inl less) = test t refl less
        go (inr (inl at)) =
            (0, x, omega (arith, at), Has-append_left (place_stops P) (unless t (record { state = after; marks = 0 } ∷ [])) x h, refl)
        go (inr (inr more)) = absurd (omega (arith, l, more))

    -- from a place of a part on
    place_out : (i k r j : ℕ) (x : Stop) → i + k ≡ j → Passes P.follow d i k r x.state → Has P.last x → j ≤ length d → (IsTrue t → j ≡ length d) → LeadsOut B d i r
    place_out i k r j x at h m l tied =
        let out = end_out j x l tied (Has-append_left P.last (map stop_before P.null) x m) in (
          k + out.0,
          out.1,
          omega (arith, at, out.2),
          out.3,
          pass_then B.ways d k out.0 i j r x.state out.1.state (sym at) (pass_more P.follow B.ways d (follow_there true t P lies d (λ i. 0)) k i r x.state h) out.4,
        )

    pub part_shared : (i : ℕ) → IsInPart s t P d i → Shared i
    part_shared i h = go h.2
      where
        within : i ≤ length d
        within = omega (arith, h.3, h.7)

        start : h.0 ≤ length d
        start = omega (arith, h.3, h.6, h.7)

        go : IsRead P d h.0 h.1 → Shared i
        go (inl a) =
            let at : i ≡ h.0 = omega (arith, a.0, h.6, h.7) in
            let end : i ≡ h.1 = omega (arith, a.0, h.6, h.7) in (
              0,
              omega arith,
              before_is_led i within (λ x. at ∙ h.4 x),
              end_out i (stop_before a.1.0) within (λ x. end ∙ h.5 x)
                  (Has-append_right P.last (map stop_before P.null) (stop_before a.1.0) (Has-map stop_before P.null a.1.0 a.1.1)),
            )
        go (inr r) = from (compared i h.0)
          where
            from : (i < h.0) ⊎ ((i ≡ h.0) ⊎ (h.0 < i)) → Shared i
            from (inl less) = absurd (omega (arith, less, h.6))
            from (inr (inl at)) =
                let k : suc (h.0) + r.0 ≡ h.1 = omega (arith, r.3) in
                let rest = place_out (suc h.0) r.0 r.1.to h.1 r.2 k r.7 r.5 h.3 h.5 in (
                  0,
                  omega arith,
                  before_is_led i within (λ x. at ∙ h.4 x),
                  rw at
                      (suc rest.0, rest.1, omega (arith, rest.2), rest.3, (way_from_first r.1, first_there true t P lies d (λ i. 0) r.1 r.4, refl, r.6, rest.4)),
                )
            from (inr (inr more)) =
                let n = i - suc h.0 in
                let m = r.0 - n in
                let sum : r.0 ≡ n + m = omega (arith, r.3, h.7, more) in
                let c = pass_cut P.follow d n m (suc h.0) r.1.to r.2.state (rw (← sum) r.7) in
                let at : suc h.0 + n ≡ i = omega (arith, more) in
                let led = before_passes h.0 start h.4 in
                let one = pass_on F.ways d h.0 0 h.0 0 (way_from_first r.1) (let z : h.0 ≡ 0 + h.0 = omega arith in z) led (first_there s t P lies d (λ i. 0) r.1 r.4) r.6 in
                let j : i + m ≡ h.1 = omega (arith, r.3, sum, at) in
                let first_at = lies.firsts r.1 r.4 in (
                  c.0,
                  follow_stays n (suc h.0) r.1.to c.0 (omega (arith, first_at.1)) c.1,
                  (
                    0,
                    inl refl,
                    rw at at (pass_then F.ways d (suc h.0) n 0 (suc h.0) 0 r.1.to c.0 (let z : suc h.0 ≡ 0 + suc h.0 = omega arith in z) one
                        (pass_more P.follow F.ways d (follow_there s t P lies d (λ i. 0)) n (suc h.0) r.1.to c.0 c.1)),
                  ),
                  place_out i m c.0 h.1 r.2 j (rw at at c.2) r.5 h.3 h.5,
                )

pub sharing_law : SharingLaw
sharing_law names a seq ord d bytes i =
    let P = placed (opening_of names) (closing_of names) a.formula 1 in
    let lies = places_lie (opening_of names) (closing_of names) a.formula 1 in (
      (λ h. part_shared a.from_start a.to_end P lies d bytes i (touched_part names a seq ord d i h)),
      (λ h. part_touched names a seq ord d i (shared_part a.from_start a.to_end P lies d i h)),
    )
