-- The two readings of an atom lead to the states that its automaton leads to, and from.
use Rattle.std.proofs.Common.{◌≡◌, ℕ, zero, suc, ◌+◌, ◌-◌, ◌<◌, ◌≤◌, ◌⊎◌, ◌↔◌, List, [], Bool, true, false, Option, Some, None, length, get_or, inl, inr, refl, sym, ap, subst, arith, ◌∙◌}
use Rattle.std.specs.Prelude.{reverse, slice_get, nat_eq, nat_lt, if◌then◌else◌, ◌&&◌, not}
use Rattle.std.specs.List.{filter}
use Rattle.std.proofs.lemmas.Bool.{eq-eqb, eqb-true, lt-ltb, ltb-true}
use Rattle.std.proofs.lemmas.List.{get_or-reverse}
use Rattle.std.proofs.lemmas.Option.{get_or_from_slice_get, slice_get-get_or}
use Rattle.spanner_model.specs.Captures.{VarName}
use Rattle.span_core.specs.Lists.{Has}
use Rattle.spanner_model.specs.Expression.{AtomTree}
use Rattle.spanner_model.specs.WellBuilt.{IsWellBuilt}
use Rattle.span_core.proofs.HasLaws.{Has-map, Has-map_cases}
use Rattle.marked_automaton.specs.declared.way.Way.{Way}
use Rattle.marked_automaton.specs.declared.way.Stop.{Stop}
use Rattle.marked_automaton.specs.Automaton.{Automaton, HasByte, IsWhole, turned_way}
use Rattle.marked_automaton.specs.Marks.{left_of, remarked, remarked_stop, remarked_way}
use Rattle.marked_automaton.specs.Reduct.{IsReduct, Rearranges, same_below}
use Rattle.marked_automaton.proofs.Listed.{compared, some_same}
use Rattle.marked_automaton.proofs.Passing.{filter_cases, has_filter}
use Rattle.place_automaton.specs.Places.{Places, placed}
use Rattle.spanner_model.specs.Sequential.{IsSequential}
use Rattle.marked_automaton.proofs.ReductWords.{way_back, way_there, end_back}
use Rattle.marked_automaton.proofs.Reversal.{reads_reversed}
use Rattle.place_automaton.specs.Repeats.{HasOrderedRepeats}
use Rattle.place_automaton.specs.Words.{atom_automaton, closing_of, opening_of}
use Rattle.place_automaton.proofs.BuiltRepeats.{ordered_repeats}
use Rattle.place_automaton.proofs.WholeLaws.{whole_law}
use Rattle.place_automaton.specs.Atom.{AreBytes, after_ways, automaton_of_places, place_stops, way_after}
use Rattle.place_automaton.proofs.AtomRuns.{after_there, first_there, follow_there, way_cases}
use Rattle.place_automaton.proofs.Ranges.{LiesFrom, places_lie}
use Rattle.segment_filter.specs.Idling.{IsLed, LeadsOut, Passes}
use Rattle.segment_filter.specs.Readings.{CanEnd, HasStepsOf, StepsTo, moves_on, turned}
use Rattle.segment_filter.specs.Sets.{AreReadingsOf, MeetAt, TakesNone}
use Rattle.segment_filter.specs.Sharing.{formula_places}
use Rattle.segment_filter.specs.Touching.{IsTouchedBy}
use Rattle.segment_filter.proofs.PassLaws.{pass_on}
use Rattle.segment_filter.proofs.SharingLaws.{sharing_law}

-- ---- walks by steps

passes_by : (A B : Automaton) (d : List ℕ) → ((p b q : ℕ) → StepsTo A p b q → StepsTo B p b q) → (n i p q : ℕ) → Passes A.ways d i n p q → Passes B.ways d i n p q
passes_by A B d by zero i p q h = h
passes_by A B d by (suc n) i p q h =
    let y = by p h.3.0 h.0.to (h.0, h.1, h.2, h.3.2, refl) in
    (y.0, y.1, y.2, (h.3.0, h.3.1, y.3), passes_by A B d by n (suc i) y.0.to q (rw y.4 h.4))

module _ (A B : Automaton) (same : HasStepsOf A B) (d : List ℕ) where
  pub led_alike : (i p : ℕ) → IsLed A d i p ↔ IsLed B d i p
  led_alike i p = (
    λ h. (h.0, (same.starts h.0).0 h.1, passes_by A B d (λ p b q. (same.steps p b q).0) i 0 h.0 p h.2),
    λ h. (h.0, (same.starts h.0).1 h.1, passes_by B A d (λ p b q. (same.steps p b q).1) i 0 h.0 p h.2),
  )

-- ---- turned round

byte_straight : (d : List ℕ) (i j b : ℕ) → i + j + 1 ≡ length d → slice_get (reverse d) j ≡ Some b → slice_get d i ≡ Some b
byte_straight d i j b at h =
    let e : length d - 1 - j ≡ i = omega arith in
    let f : get_or (reverse d) j 0 ≡ b = get_or_from_slice_get (reverse d) j b 0 h in
    slice_get-get_or d i 0 (omega arith) ∙ ap Some (ap (λ k. get_or d k 0) (sym e) ∙ (sym (get_or-reverse d j 0 (omega arith)) ∙ f))

module _ (R B : Automaton) (d : List ℕ) (steps : (p b q : ℕ) → StepsTo R p b q ↔ StepsTo B q b p) where
  pass_turned : (n k i p q : ℕ) → i + n + k ≡ length d → Passes R.ways (reverse d) k n p q → Passes B.ways d i n q p
  pass_turned zero k i p q at h = sym h
  pass_turned (suc n) k i p q at h =
      let y = (steps p h.3.0 h.0.to).0 (h.0, h.1, h.2, h.3.2, refl) in
      let rest = pass_turned n (suc k) i h.0.to q (omega (arith, at)) h.4 in
      rw y.4 at (pass_on B.ways d n i (i + n) q y.0 refl (subst (Passes B.ways d i n q) (sym y.2) rest) y.1
      (h.3.0, byte_straight d (i + n) k h.3.0 (omega (arith, at)) h.3.1, y.3))

  pass_straight : (n k i p q : ℕ) → i + n + k ≡ length d → Passes B.ways d i n q p → Passes R.ways (reverse d) k n p q
  pass_straight zero k i p q at h = sym h
  pass_straight (suc n) k i p q at h =
      let y = (steps h.0.to h.3.0 q).1 (h.0, h.1, h.2, h.3.2, refl) in
      let rest = pass_straight n k (suc i) p h.0.to (omega (arith, at)) h.4 in
      rw (← y.4)
      (pass_on R.ways (reverse d) n k (k + n) p y.0 refl (subst (Passes R.ways (reverse d) k n p) (sym y.2) rest) y.1
      (h.3.0, reads_reversed d i (k + n) h.3.0 (omega (arith, at)) h.3.1, y.3))

  pub out_turned : ((p : ℕ) → Has R.starts p ↔ CanEnd B p) → (i p : ℕ) → i ≤ length d → IsLed R (reverse d) (length d - i) p ↔ LeadsOut B d i p
  out_turned starts i p l = (
    λ h.
        let x = (starts h.0).0 h.1 in
        let n = length d - i in
        (n, x.0, omega (arith, l), x.1, subst (Passes B.ways d i n p) (sym x.2) (pass_turned n 0 i h.0 p (omega (arith, l)) h.2)),
    λ h.
        let n : h.0 ≡ length d - i = omega (arith, h.2) in
        (h.1.state, (starts h.1.state).1 (h.1, h.3, refl), rw (← n) (pass_straight h.0 0 i h.1.state p (omega (arith, h.2)) h.4)),
  )

-- ---- the automaton of an atom, and the one that is made

module _ (A B : Automaton) (e : ℕ → ℕ) (a : IsWhole A) (b : IsWhole B) (g : ℕ → Option ℕ) (r : IsReduct A B (same_below B.states) g (λ b k. k)) where
  known_below : (p : ℕ) → p < B.states → same_below B.states p ≡ Some p
  known_below p l = ap (λ c. if c then Some p else None) (lt-ltb p B.states l)

  below_known : (p q : ℕ) → same_below B.states p ≡ Some q → (p < B.states) × (p ≡ q)
  below_known p q h = go (nat_lt p B.states) refl h
    where
      go : (c : Bool) → nat_lt p B.states ≡ c → (if c then Some p else None) ≡ Some q → (p < B.states) × (p ≡ q)
      go true at f = (ltb-true p B.states at, some_same p q f)
      go false at f = absurd (cc)

  known : (p : ℕ) → p < A.states → same_below B.states p ≡ Some p
  known p l =
      let o = r.onto p l in
      let s = below_known o.0 p o.1 in
      known_below p (omega (arith, s.0, s.1))

  same_states : A.states ≡ B.states
  same_states =
      elim (compared A.states B.states) [
        | inl l ↦ let m = r.to_states A.states A.states (known_below A.states l) in absurd (omega (arith, m))
        | inr c ↦ elim c [
          | inl s ↦ s
          | inr l ↦ let s = below_known B.states B.states (known B.states l) in absurd (omega (arith, s.0))
        ]
      ]

  steps_there : (p c q : ℕ) → StepsTo (remarked e A) p c q → StepsTo B p c q
  steps_there p c q h =
      let x = Has-map_cases (remarked_way e) A.ways h.0 h.1 in
      let from = ap (λ (y : Way). y.from) x.2 in
      let to = ap (λ (y : Way). y.to) x.2 in
      let y = way_back A B (same_below B.states) g (λ b k. k) r x.0.from c x.0 x.1 (known x.0.from (a.froms x.0 x.1)) (rw (← x.2) at h.3) in
      (y.0, y.1, y.2 ∙ (from ∙ h.2), y.3, (below_known y.0.to x.0.to y.5).1 ∙ (to ∙ h.4))

  steps_back : (p c q : ℕ) → StepsTo B p c q → StepsTo (remarked e A) p c q
  steps_back p c q h =
      let from = known_below h.0.from (b.froms h.0 h.1) in
      let to = known_below h.0.to (b.tos h.0 h.1) in
      let x = way_there A B (same_below B.states) g (λ b k. k) r h.0 h.1 (h.0.from, from) (h.0.to, to) in (
        remarked_way e x.0,
        Has-map (remarked_way e) A.ways x.0 x.1,
        sym (below_known h.0.from x.0.from x.3).1 ∙ h.2,
        x.5 c h.3,
        sym (below_known h.0.to x.0.to x.4).1 ∙ h.4,
      )

  ends_there : (p : ℕ) → CanEnd (remarked e A) p → CanEnd B p
  ends_there p h =
      let x = Has-map_cases (remarked_stop e) A.stops h.0 h.1 in
      let at = ap (λ (y : Stop). y.state) x.2 in (
        record { state = x.0.state; marks = x.0.marks },
        end_back A B (same_below B.states) g (λ b k. k) r x.0.state x.0.state x.0.marks (known x.0.state (a.stops x.0 x.1)) x.1,
        at ∙ h.2,
      )

  ends_back : (p : ℕ) → CanEnd B p → CanEnd (remarked e A) p
  ends_back p h = (
    remarked_stop e (record { state = h.0.state; marks = h.0.marks }),
    Has-map (remarked_stop e) A.stops (record { state = h.0.state; marks = h.0.marks })
        (r.ends_back h.0.state h.0.state h.0.marks (known_below h.0.state (b.stops h.0 h.1)) h.1),
    h.2,
  )

  starts_there : (p : ℕ) → Has A.starts p → Has B.starts p
  starts_there p h = let o = r.starts_back p h in subst (Has B.starts) (below_known o.0 p o.2).1 o.1

  starts_back : (p : ℕ) → Has B.starts p → Has A.starts p
  starts_back p h = r.starts_there p p h (known_below p (b.starts p h))

pub steps_of_rearranged : (A B : Automaton) (e : ℕ → ℕ) → IsWhole A → IsWhole B → Rearranges A B → HasStepsOf (remarked e A) B
steps_of_rearranged A B e a b h = record {
  states = same_states A B e a b h.0 h.1;
  starts = λ p. (starts_there A B e a b h.0 h.1 p, starts_back A B e a b h.0 h.1 p);
  steps = λ p c q. (steps_there A B e a b h.0 h.1 p c q, steps_back A B e a b h.0 h.1 p c q);
  ends = λ p. (ends_there A B e a b h.0 h.1 p, ends_back A B e a b h.0 h.1 p);
}

-- ---- turned round, without Before's way to itself

moves_true : (y : Way) → (y.from ≡ 0 → y.to ≡ 0 → ⊥) → moves_on y ≡ true
moves_true y h = go (nat_eq y.from 0) (nat_eq y.to 0) refl refl
  where
    go : (a b : Bool) → nat_eq y.from 0 ≡ a → nat_eq y.to 0 ≡ b → not (a && b) ≡ true
    go true true e f = absurd (h (eqb-true y.from 0 e) (eqb-true y.to 0 f))
    go true false e f = refl
    go false b e f = refl

true_moves : (y : Way) → moves_on y ≡ true → y.from ≡ 0 → y.to ≡ 0 → ⊥
true_moves y h e f =
    let a : nat_eq y.from 0 ≡ true = eq-eqb y.from 0 e in
    let b : nat_eq y.to 0 ≡ true = eq-eqb y.to 0 f in
    go (nat_eq y.from 0) (nat_eq y.to 0) a b h
  where
    go : (a b : Bool) → a ≡ true → b ≡ true → not (a && b) ≡ true → ⊥
    go true true e f h = cc
    go true false e f h = cc
    go false b e f h = cc

module _ (s t : Bool) (P : Places) (lies : LiesFrom 1 P) where
  -- a way but Before's to itself is there where the atom is tied to the start
  tied_way : (y : Way) → Has (automaton_of_places s t P).ways y → (y.from ≡ 0 → y.to ≡ 0 → ⊥) → Has (automaton_of_places true t P).ways y
  tied_way y h apart =
      elim (way_cases s t P lies [] (λ i. 0) y h) [
        | inl a ↦ absurd (apart (sym (ap (λ (g : Way). g.from) a.1)) (sym (ap (λ (g : Way). g.to) a.1)))
        | inr b ↦ elim b [
          | inl f ↦ subst (Has (automaton_of_places true t P).ways) f.2 (first_there true t P lies [] (λ i. 0) f.0 f.1)
          | inr c ↦ elim c [
            | inl f ↦ follow_there true t P lies [] (λ i. 0) y f
            | inr u ↦ after_there true t P lies [] (λ i. 0) u.0 y u.1
          ]
        ]
      ]

  way_tied : (y : Way) → Has (automaton_of_places true t P).ways y → Has (automaton_of_places s t P).ways y × (y.from ≡ 0 → y.to ≡ 0 → ⊥)
  way_tied y h =
      elim (way_cases true t P lies [] (λ i. 0) y h) [
        | inl a ↦ absurd (cc)
        | inr b ↦ elim b [
          | inl f ↦ (
            subst (Has (automaton_of_places s t P).ways) f.2 (first_there s t P lies [] (λ i. 0) f.0 f.1),
            λ x z. omega (arith, (lies.firsts f.0 f.1).0, ap (λ (g : Way). g.to) f.2, z),
          )
          | inr c ↦ elim c [
            | inl f ↦ (follow_there s t P lies [] (λ i. 0) y f, λ x z. omega (arith, (lies.froms y f).0, x))
            | inr u ↦ (after_there s t P lies [] (λ i. 0) u.0 y u.1, λ x z. omega (arith, to_after y u.1, z))
          ]
        ]
      ]
    where
      to_after : (y : Way) → Has (after_ways (suc P.count) P) y → y.to ≡ suc P.count
      to_after y (inl same) = sym (ap (λ (g : Way). g.to) same)
      to_after y (inr m) = let z = Has-map_cases (way_after (suc P.count)) (place_stops P) y m in sym (ap (λ (g : Way). g.to) z.2)

  module _ (F : Automaton) (same : HasStepsOf F (automaton_of_places s t P)) where
    pub turned_steps : (p c q : ℕ) → StepsTo (turned F) p c q ↔ StepsTo (automaton_of_places true t P) q c p
    turned_steps p c q = (there, back)
      where
        there : StepsTo (turned F) p c q → StepsTo (automaton_of_places true t P) q c p
        there h =
            let x = Has-map_cases turned_way (filter moves_on F.ways) h.0 h.1 in
            let k = filter_cases moves_on F.ways x.0 x.1 in
            let from : x.0.to ≡ p = ap (λ (y : Way). y.from) x.2 ∙ h.2 in
            let to : x.0.from ≡ q = ap (λ (y : Way). y.to) x.2 ∙ h.4 in
            let y = (same.steps q c p).0 (x.0, k.0, to, rw (← x.2) at h.3, from) in
            (y.0, tied_way y.0 y.1 (λ a b. true_moves x.0 k.1 (to ∙ (sym y.2 ∙ a)) (from ∙ (sym y.4 ∙ b))), y.2, y.3, y.4)

        back : StepsTo (automaton_of_places true t P) q c p → StepsTo (turned F) p c q
        back h =
            let k = way_tied h.0 h.1 in
            let y = (same.steps q c p).1 (h.0, k.0, h.2, h.3, h.4) in
            let m = has_filter moves_on F.ways y.0 y.1 (moves_true y.0 (λ a b. k.1 (h.2 ∙ (sym y.2 ∙ a)) (h.4 ∙ (sym y.4 ∙ b)))) in
            (turned_way y.0, Has-map turned_way (filter moves_on F.ways) y.0 m, y.4, y.3, y.2)

    pub turned_starts : (p : ℕ) → Has (turned F).starts p ↔ CanEnd (automaton_of_places true t P) p
    turned_starts p = (
      λ h. let x = Has-map_cases (λ (y : Stop). y.state) F.stops p h in (same.ends p).0 (x.0, x.1, x.2),
      λ h. let x = (same.ends p).1 h in subst (Has (turned F).starts) x.2 (Has-map (λ (y : Stop). y.state) F.stops x.0 x.1),
    )

    pub led_forward : (d : List ℕ) (i p : ℕ) → IsLed F d i p ↔ IsLed (automaton_of_places s t P) d i p
    led_forward d = led_alike F (automaton_of_places s t P) same d

    pub led_back : (d : List ℕ) (i p : ℕ) → i ≤ length d → IsLed (turned F) (reverse d) (length d - i) p ↔ LeadsOut (automaton_of_places true t P) d i p
    led_back d = out_turned (turned F) (automaton_of_places true t P) d turned_steps turned_starts

-- ---- the readings of an atom

remarked_none : (A : Automaton) (e : ℕ → ℕ) → ((m : ℕ) → e m ≡ 0) → TakesNone (remarked e A)
remarked_none A e zero_all y h = let x = Has-map_cases (remarked_way e) A.ways y h in sym (ap (λ (g : Way). g.marks) x.2) ∙ zero_all x.0.marks

pub turned_none : (A : Automaton) → TakesNone A → TakesNone (turned A)
turned_none A none y h =
    let x = Has-map_cases turned_way (filter moves_on A.ways) y h in
    sym (ap (λ (g : Way). g.marks) x.2) ∙ none x.0 (filter_cases moves_on A.ways x.0 x.1).0

module _ (names : List VarName) (a : AtomTree) (seq : IsSequential a.formula) (ord : HasOrderedRepeats a.formula) (F : Automaton)
    (same : HasStepsOf F (atom_automaton names a)) (none : TakesNone F) (most : ℕ) (is : most ≡ formula_places names a.formula) where
  abbrev P : Places
  P = placed (opening_of names) (closing_of names) a.formula 1

  meet : (d : List ℕ) → AreBytes d → (i : ℕ) → ((i ≤ length d) × MeetAt F (turned F) most d i) ↔ IsTouchedBy a d i
  meet d bytes i =
      let s = a.from_start in
      let t = a.to_end in
      let lies = places_lie (opening_of names) (closing_of names) a.formula 1 in
      let law = sharing_law names a seq ord d bytes i in (
        λ h. law.1 (
          h.1.0,
          omega (arith, h.1.3, is),
          (led_forward s t P lies F same d i h.1.0).0 h.1.1,
          (led_back s t P lies F same d i h.1.0 h.0).0 h.1.2,
        ),
        λ h.
            let l : i ≤ length d = omega (arith, h.4, h.8) in
            let r = law.0 h in
            (l, (r.0, (led_forward s t P lies F same d i r.0).1 r.2, (led_back s t P lies F same d i r.0 l).1 r.3, omega (arith, r.1, is))),
      )

  pub are_readings : AreReadingsOf a F (turned F) most
  are_readings = record { forward = none; backward = turned_none F none; meet = meet }

-- as they are made
module _ (names : List VarName) (a : AtomTree) (A : Automaton) (whole : IsWhole A) (r : Rearranges A (atom_automaton names a)) where
  abbrev pub Plain : Automaton
  Plain = remarked (left_of names []) A

  pub plain_steps : HasStepsOf Plain (atom_automaton names a)
  plain_steps = steps_of_rearranged A (atom_automaton names a) (left_of names []) whole (whole_law names a) r

  pub plain_none : TakesNone Plain
  plain_none = remarked_none A (left_of names []) (λ m. refl)

  pub plain_states : A.states ≡ 1 + formula_places names a.formula + (if a.to_end then 0 else 1)
  plain_states = plain_steps.states

  pub plain_readings : IsWellBuilt a.formula → IsSequential a.formula → (most : ℕ) → most ≡ formula_places names a.formula → AreReadingsOf a Plain (turned Plain) most
  plain_readings built sequential most is =
      are_readings names a sequential (ordered_repeats a.formula built) Plain plain_steps plain_none most is

pub last_place : (t : Bool) (states places beyond : ℕ) → states ≡ 1 + places + (if t then 0 else 1) → ((t ≡ true) × (beyond ≡ 1)) ⊎ ((t ≡ false) × (beyond ≡ 2)) →
    (beyond ≤ states) × (states - beyond ≡ places)
last_place true states places beyond e (inl h) = (omega (arith, e, h.1), omega (arith, e, h.1))
last_place false states places beyond e (inl h) = absurd (let f = h.0 in cc)
last_place true states places beyond e (inr h) = absurd (let f = h.0 in cc)
last_place false states places beyond e (inr h) = (omega (arith, e, h.1), omega (arith, e, h.1))

module _ (names : List VarName) (a : AtomTree) (A : Automaton) (whole : IsWhole A) (r : Rearranges A (atom_automaton names a)) where
  pub readings_made : IsWellBuilt a.formula → IsSequential a.formula → (keep : List VarName) (F R : Automaton) (most : ℕ) → keep ≡ [] → F ≡ remarked (left_of names keep) A → R ≡ turned F →
      most ≡ formula_places names a.formula → AreReadingsOf a F R most
  readings_made built sequential keep F R most none is back places =
      let plain : Plain names a A whole r ≡ F = sym (is ∙ ap (λ k. remarked (left_of names k) A) none) in
      let turned_plain : turned (Plain names a A whole r) ≡ R = ap turned plain ∙ sym back in
      rw (← plain)
      (rw (← turned_plain) (plain_readings names a A whole r built sequential most places))
