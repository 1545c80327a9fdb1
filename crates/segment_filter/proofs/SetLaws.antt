-- How sets of states go on.
use Rattle.std.proofs.Common.{◌≡◌, ℕ, zero, suc, ◌+◌, ◌-◌, ◌<◌, ◌⊎◌, ◌↔◌, List, [], ◌∷◌, ◌++◌, Some, None, map, length, get_or, inl, inr, refl, sym, ap, subst, arith, ◌∙◌}
use Rattle.std.specs.Prelude.{slice_get, reverse, ◌&&◌}
use Rattle.std.specs.FinSet as bytes
use Rattle.std.specs.Option.{unwrap_or}
use Rattle.std.proofs.lemmas.Bool.{cases_lt}
use Rattle.std.proofs.lemmas.List.{get_or-reverse, length-reverse}
use Rattle.std.proofs.lemmas.Option.{slice_get-get_or}
use Rattle.span_core.specs.Lists.{Has, IsInOrder}
use Rattle.span_core.proofs.HasLaws.{Has-get_or, Has-map_cases}
use Rattle.marked_automaton.specs.declared.way.Way.{Way}
use Rattle.marked_automaton.specs.Automaton.{Automaton, HasByte, ReadsByte}
use Rattle.marked_automaton.proofs.Listed.{some_same}
use Rattle.marked_automaton.proofs.Passing.{filter_cases}
use Rattle.automaton_reading.specs.Reading.{Reach, LookUp, blocks_down, byte_read, edges, is_among, put_down, reach_with, set_of, ways_taken}
use Rattle.automaton_reading.proofs.Determined.{edge_way, has_block, has_set, set_has, way_edge}
use Rattle.segment_filter.specs.Idling.{IsLed, Passes}
use Rattle.segment_filter.specs.Sets.{Extends, Grows, HaveShared, IsAt, MeetAt, ReadsAll, TakesNone}
use Rattle.segment_filter.specs.Next.{IsNext, IsTarget}
use Rattle.set_table.specs.Tabled.{IsTabled, Tabled, once_asked}
use Rattle.numbered_lists.specs.Numbered.{set_at}
use Rattle.set_table.proofs.OnceLaws.{holds_once, once_set, once_sets_count}
use Rattle.segment_filter.proofs.PassLaws.{led_on, pass_cut}

-- a way leads from a member to q on the byte
abbrev pub LeadsTo : Automaton → List ℕ → ℕ → ℕ → Type 0
LeadsTo A set b q = (y : Way) × Has A.ways y × Has set y.from × HasByte y.bytes b × (y.to ≡ q)

set_there : (xs : List (List ℕ)) (k : ℕ) → k < length xs → Has xs (set_at xs k)
set_there xs k l = Has-get_or xs k [] l

-- the last way of a walk
pub led_last : (A : Automaton) (d : List ℕ) (i q : ℕ) → IsLed A d (suc i) q → (y : Way) × Has A.ways y × IsLed A d i y.from × ReadsByte d i y.bytes × (y.to ≡ q)
led_last A d i q h =
    let e : suc i ≡ i + 1 = omega arith in
    let c = pass_cut A.ways d i 1 0 h.0 q (subst (λ n. Passes A.ways d 0 n h.0 q) e h.2) in
    let y = c.2 in
    let z : 0 + i ≡ i = omega arith in
    (y.0, y.1, (h.0, h.1, subst (Passes A.ways d 0 i h.0) (sym y.2) c.1), rw z at y.3, y.4)

-- what a set leads to is led to one byte later
pub led_next : (A : Automaton) (d : List ℕ) (k b : ℕ) (set : List ℕ) → slice_get d k ≡ Some b → ((q : ℕ) → Has set q ↔ IsLed A d k q) →
    (q : ℕ) → LeadsTo A set b q ↔ IsLed A d (suc k) q
led_next A d k b set at are q = (
  λ h. subst (IsLed A d (suc k)) h.4 (led_on A d k h.0 ((are h.0.from).0 h.2) h.1 (b, at, h.3)),
  λ h.
      let y = led_last A d k q h in
      let same : y.3.0 ≡ b = some_same y.3.0 b (sym y.3.1 ∙ at) in
      (y.0, y.1, (are y.0.from).1 y.2, subst (HasByte y.0.bytes) same y.3.2, y.4),
)

-- where nothing is led to, nothing is later
pub led_none : (A : Automaton) (d : List ℕ) (k : ℕ) → ((q : ℕ) → IsLed A d k q → ⊥) → (n q : ℕ) → IsLed A d (k + n) q → ⊥
led_none A d k none zero q h = let e : k + 0 ≡ k = omega arith in none q (rw (← e) h)
led_none A d k none (suc n) q h =
    let e : k + suc n ≡ suc (k + n) = omega arith in
    let y = led_last A d (k + n) q (rw e at h) in
    led_none A d k none n y.0.from y.2

-- ---- one edge at most

blocks_none : (ms : List ℕ) → ((m : ℕ) → Has ms m → m ≡ 0) → (blocks_down ms ≡ []) ⊎ (blocks_down ms ≡ 0 ∷ [])
blocks_none [] z = inl refl
blocks_none (m ∷ ms) z =
    let e : m ≡ 0 = z m (inl refl) in
    elim (blocks_none ms (λ k h. z k (inr h))) as (λ _. (put_down m (blocks_down ms) ≡ []) ⊎ (put_down m (blocks_down ms) ≡ 0 ∷ [])) [
      | inl n ↦ inr (ap (λ x. put_down x (blocks_down ms)) e ∙ ap (put_down 0) n)
      | inr o ↦ inr (ap (λ x. put_down x (blocks_down ms)) e ∙ ap (put_down 0) o)
    ]

module _ (A : Automaton) (none : TakesNone A) (set : List ℕ) (b : ℕ) where
  marks_none : (m : ℕ) → Has (map (λ (y : Way). y.marks) (ways_taken A set b)) m → m ≡ 0
  marks_none m h =
      let y = Has-map_cases (λ (y : Way). y.marks) (ways_taken A set b) m h in
      let k = filter_cases (λ (y : Way). is_among set y.from && bytes.contains y.bytes b) A.ways y.0 y.1 in
      sym y.2 ∙ none y.0 k.0

  edge_cases : (edges A set (byte_read b) ≡ []) ⊎ ((e : Reach) × (edges A set (byte_read b) ≡ e ∷ []))
  edge_cases =
      elim (blocks_none (map (λ (y : Way). y.marks) (ways_taken A set b)) marks_none) [
        | inl n ↦ inl (ap (map (reach_with (ways_taken A set b))) n)
        | inr o ↦ inr (reach_with (ways_taken A set b) 0, ap (map (reach_with (ways_taken A set b))) o)
      ]

  -- the same with the edge
  pub edge_is : (edges A set (byte_read b) ≡ []) ⊎ ((edges A set (byte_read b) ≡ reach_with (ways_taken A set b) 0 ∷ []) × Has (map (λ (y : Way). y.marks) (ways_taken A set b)) 0)
  edge_is =
      elim (blocks_none (map (λ (y : Way). y.marks) (ways_taken A set b)) marks_none) [
        | inl n ↦ inl (ap (map (reach_with (ways_taken A set b))) n)
        | inr o ↦ inr (
          ap (map (reach_with (ways_taken A set b))) o,
          has_block (map (λ (y : Way). y.marks) (ways_taken A set b)) 0 (rw o (inl refl)),
        )
      ]

  -- the one edge leads to all states that ways lead to from members
  edge_leads : (e : Reach) → edges A set (byte_read b) ≡ e ∷ [] → (q : ℕ) → Has e.to q ↔ LeadsTo A set b q
  edge_leads e at q = (
    λ h.
        let y = edge_way A set b e q (rw at (inl refl)) h in
        (y.0, y.1, y.2, y.3, y.5),
    λ h.
        let r = way_edge A set b h.0 h.1 h.2 h.3 in
        let s : Has (e ∷ []) r.0 = rw at at r.1 in
        elim s [ inl i ↦ rw i (subst (Has r.0.to) h.4 r.3) | inr n ↦ absurd n ],
  )

  no_edge : edges A set (byte_read b) ≡ [] → (q : ℕ) → LeadsTo A set b q → ⊥
  no_edge at q h = let r = way_edge A set b h.0 h.1 h.2 h.3 in absurd (rw at at r.1)

-- ---- the sets of a table

pub grows_not : (new old : Tabled) → new ≡ old → Grows new old
grows_not new old e = record {
  graph = ap (λ (t : Tabled). t.graph) e;
  sets = rw (← e) (omega arith, λ k l. refl);
}

pub grows_twice : (a b c : Tabled) → Grows a b → Grows b c → Grows a c
grows_twice a b c x y = record {
  graph = x.graph ∙ y.graph;
  sets = (omega (arith, x.sets.0, y.sets.0), λ k l. x.sets.1 k (omega (arith, y.sets.0, l)) ∙ y.sets.1 k l);
}

pub grows_asked : (new old : Tabled) (r : LookUp) → new ≡ once_asked old r → Grows new old
grows_asked new old r e =
    let h = holds_once old new r e in
    record { graph = h.graph; sets = (once_sets_count old new r h, once_set old new r h) }

pub at_start : (t : Tabled) (d : List ℕ) → IsTabled t → IsAt t d 0 0
at_start t d h =
    let s = start_is t.sets h.start in (
      s.0,
      (h.sets (set_at t.sets 0) (set_there t.sets 0 s.0)).order,
      λ q. (
        λ m. (q, has_set t.graph.starts q (rw (← s.1) m), refl),
        λ m. rw s.1 (set_has t.graph.starts q (subst (Has t.graph.starts) m.2 m.1)),
      ),
    )
  where
    start_is : (xs : List (List ℕ)) → slice_get xs 0 ≡ Some (set_of t.graph.starts) → (0 < length xs) × (set_at xs 0 ≡ set_of t.graph.starts)
    start_is [] e = absurd (cc)
    start_is (x ∷ xs) e = (omega arith, ap (λ o. unwrap_or o x) e)

pub at_grows : (new old : Tabled) (d : List ℕ) (k j : ℕ) → Grows new old → IsAt old d k j → IsAt new d k j
at_grows new old d k j g h =
    let same = g.sets.1 j h.0 in (
      omega (arith, h.0, g.sets.0),
      subst (IsInOrder ◌<◌) (sym same) h.1,
      λ q. (
        λ m. rw g.graph ((h.2 q).0 (rw (← same) m)),
        λ m. rw same ((h.2 q).1 (rw (← g.graph) m)),
      ),
    )

module _ (new old : Tabled) (d : List ℕ) (k j b : ℕ) (none : TakesNone old.graph) (g : Grows new old) (at : slice_get d k ≡ Some b) (h : IsAt old d k j) where
  next_led : (q : ℕ) → LeadsTo old.graph (set_at old.sets j) b q ↔ IsLed old.graph d (suc k) q
  next_led = led_next old.graph d k b (set_at old.sets j) at h.2

  pub at_next : (to : ℕ) → IsTabled new → IsNext old j b new.sets (Some to) → IsAt new d (k + 1) to
  at_next to tabled next =
      elim (edge_cases old.graph none (set_at old.sets j) b) [
        | inl n ↦ let e : Some to ≡ None = rw n at next in absurd (cc)
        | inr o ↦ one o.0 o.1 (rw o.1 at next)
      ]
    where
      one : (e : Reach) → edges old.graph (set_at old.sets j) (byte_read b) ≡ e ∷ [] → IsTarget new.sets (e ∷ []) (Some to) → IsAt new d (k + 1) to
      one e is t =
          let same : t.0 ≡ to = sym (some_same to t.0 t.1) in
          let below : to < length new.sets = omega (arith, t.2, same) in
          let set : set_at new.sets to ≡ e.to = ap (set_at new.sets) (sym same) ∙ t.3 in
          let more : suc k ≡ k + 1 = omega arith in (
            below,
            (tabled.sets (set_at new.sets to) (set_there new.sets to below)).order,
            λ q. (
              λ m. rw g.graph
                  (rw (← more) ((next_led q).0 ((edge_leads old.graph none (set_at old.sets j) b e is q).0 (rw (← set) m)))),
              λ m. rw set
                  ((edge_leads old.graph none (set_at old.sets j) b e is q).1
                  ((next_led q).1 (rw (← more) at (rw g.graph at m)))),
            ),
          )

  -- where a set goes nowhere no later position is led to
  pub at_none : IsNext old j b new.sets None → (n p : ℕ) → k < n → IsLed new.graph d n p → ⊥
  at_none next n p l led =
      elim (edge_cases old.graph none (set_at old.sets j) b) [
        | inl e ↦
            let more : n ≡ suc k + (n - suc k) = omega (arith, l) in
            led_none old.graph d (suc k) (λ q m. no_edge old.graph none (set_at old.sets j) b e q ((next_led q).1 m)) (n - suc k) p
            (rw more at (rw g.graph at led))
        | inr o ↦ let t = rw o.1 at next in let e = t.1 in absurd (cc)
      ]

last_cases : (xs : List ℕ) (j k i : ℕ) → slice_get (xs ++ j ∷ []) k ≡ Some i → (slice_get xs k ≡ Some i) ⊎ ((k ≡ length xs) × (j ≡ i))
last_cases [] j zero i e = inr (refl, some_same j i e)
last_cases [] j (suc k) i e = absurd (cc)
last_cases (x ∷ xs) j zero i e = inl e
last_cases (x ∷ xs) j (suc k) i e =
    elim (last_cases xs j k i e) [ inl h ↦ inl h | inr h ↦ inr (omega (arith, h.0), h.1) ]

-- the sets with these numbers are those that the bytes lead to
abbrev pub AreLed : Tabled → List ℕ → List ℕ → Type 0
AreLed t d numbers = (k j : ℕ) → slice_get numbers k ≡ Some j → IsAt t d k j

pub led_grows : (new old : Tabled) (d numbers : List ℕ) → Grows new old → AreLed old d numbers → AreLed new d numbers
led_grows new old d numbers e h k j at = at_grows new old d k j e (h k j at)

pub led_more : (t : Tabled) (d numbers : List ℕ) (j : ℕ) → AreLed t d numbers → IsAt t d (length numbers) j → AreLed t d (numbers ++ j ∷ [])
led_more t d numbers j h last k i at =
    elim (last_cases numbers j k i at) [
      | inl e ↦ h k i e
      | inr e ↦ subst (IsAt t d k) e.1 (rw e.0 last)
    ]

-- a byte from the end
pub byte_back : (d : List ℕ) (k b : ℕ) → k < length d → get_or d (length d - 1 - k) 0 ≡ b → slice_get (reverse d) k ≡ Some b
byte_back d k b l at =
    let len : length (reverse d) ≡ length d = length-reverse d in
    slice_get-get_or (reverse d) k 0 (omega (arith, len, l)) ∙ ap Some (get_or-reverse d k 0 l ∙ at)

-- ---- both readings

-- the set at a position and the one that the bytes behind it lead back to
pub meet_is : (F : Automaton) (t : Tabled) (d kept : List ℕ) (set : List ℕ) (at behind most : ℕ) → ReadsAll t (reverse d) kept →
    ((q : ℕ) → Has set q ↔ IsLed F d at q) → at + behind ≡ length d →
    ((behind < length kept) × HaveShared most set (set_at t.sets (get_or kept behind 0))) ↔ MeetAt F t.graph most d at
meet_is F t d kept set at behind most all are sum = (there, back)
  where
    is_behind : length d - at ≡ behind
    is_behind = omega (arith, sum)

    there : (behind < length kept) × HaveShared most set (set_at t.sets (get_or kept behind 0)) → MeetAt F t.graph most d at
    there h =
        let j = all.led behind (get_or kept behind 0) (slice_get-get_or kept behind 0 h.0) in
        (h.1.0, (are h.1.0).0 h.1.1, rw is_behind ((j.2 h.1.0).0 h.1.2), h.1.3)

    back : MeetAt F t.graph most d at → (behind < length kept) × HaveShared most set (set_at t.sets (get_or kept behind 0))
    back h =
        let led : IsLed t.graph (reverse d) behind h.0 = rw (← is_behind) h.2 in
        elim (cases_lt behind (length kept)) as (λ _. (behind < length kept) × HaveShared most set (set_at t.sets (get_or kept behind 0))) [
          | inl l ↦
              let j = all.led behind (get_or kept behind 0) (slice_get-get_or kept behind 0 l) in
              (l, (h.0, (are h.0).1 h.1, (j.2 h.0).1 led, h.3))
          | inr le ↦ absurd (all.rest behind h.0 le (let len : length (reverse d) ≡ length d = length-reverse d in omega (arith, len, sum)) led)
        ]
