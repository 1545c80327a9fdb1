-- What the automaton of an atom accepts, by what its places read.
use Rattle.std.proofs.Common.{◌≡◌, ℕ, zero, suc, ◌+◌, ◌-◌, ◌<◌, ◌≤◌, ◌⊎◌, List, [], ◌∷◌, ◌++◌, Bool, true, false, Some, length, inl, inr, refl, sym, ap, subst, arith, ◌∙◌}
use Rattle.std.specs.Prelude.{map, slice_get, IsTrue}
use Rattle.std.specs.FinSet.{contains}
use Rattle.span_core.proofs.ByteSetLaws.{all_contain}
use Rattle.span_core.specs.Lists.{Has}
use Rattle.marked_automaton.specs.declared.way.Way.{Way}
use Rattle.marked_automaton.specs.declared.way.Stop.{Stop}
use Rattle.marked_automaton.specs.Automaton.{Automaton, HasByte, ReadsByte, Walk, Accepts, all_bytes, idle_way}
use Rattle.place_automaton.specs.declared.fragment.Entry.{Entry}
use Rattle.place_automaton.specs.Places.{Places, way_into}
use Rattle.place_automaton.specs.Atom.{way_from_first, way_after, stop_before, unless, place_stops, after_ways, automaton_of_places, AreBytes}
use Rattle.place_automaton.specs.Reads.{Shown}
use Rattle.span_core.proofs.HasLaws.{Has-append_left, Has-append_right, Has-append_cases, Has-map, Has-map_cases}
use Rattle.place_automaton.proofs.Ranges.{LiesFrom}
use Rattle.marked_automaton.proofs.Walks.{walk_more, walk_then}
use Rattle.marked_automaton.proofs.Listed.{compared}
use Rattle.place_automaton.proofs.Walks.{Crosses, IsSplit, first_cross}
use Rattle.place_automaton.proofs.WholeLaws.{unless_cases}

pub unless_has : {X : Type 0} (b : Bool) (xs : List X) (x : X) → b ≡ false → Has xs x → Has (unless b xs) x
unless_has true xs x e h = absurd (cc)
unless_has false xs x e h = h

pub not_true : (b : Bool) (A : Type 0) → b ≡ false → IsTrue b → A
not_true b A e t = absurd (cc)

pub any_of_all : (b : ℕ) → b < 256 → HasByte all_bytes b
any_of_all b l = let e : contains all_bytes b ≡ true = all_contain b (omega (arith, l)) in cc

byte_at : (d : List ℕ) (i : ℕ) → i < length d → (b : ℕ) × (slice_get d i ≡ Some b)
byte_at [] i l = absurd (omega (arith, l))
byte_at (b ∷ d) zero l = (b, refl)
byte_at (b ∷ d) (suc i) l = byte_at d i (omega (arith, l))

pub any_byte : (d : List ℕ) → AreBytes d → (i : ℕ) → i < length d → ReadsByte d i all_bytes
any_byte d ok i l = let r = byte_at d i l in (r.0, r.1, any_of_all r.0 (ok i r.0 r.1))

-- w is empty from low up to high
abbrev pub Empties : (ℕ → ℕ) → ℕ → ℕ → Type 0
Empties w low high = (p : ℕ) → low ≤ p → p < high → w p ≡ 0

-- an idle way is taken again and again
idle_walk : (ways : List Way) (d : List ℕ) (w : ℕ → ℕ) (s : ℕ) → AreBytes d → Has ways (idle_way s) → (n i : ℕ) → i + n ≤ length d → Empties w i (i + n) → Walk ways d w i n s s
idle_walk ways d w s ok h zero i l e = refl
idle_walk ways d w s ok h (suc n) i l e = (
  idle_way s,
  h,
  refl,
  sym (e i (omega arith) (omega arith)),
  any_byte d ok i (omega (arith, l)),
  idle_walk ways d w s ok h n (suc i) (omega (arith, l)) (λ p a b. e p (omega (arith, a)) (omega (arith, b))),
)

-- where each way from a state is the idle one, the walk stays there without marks
idle_stays : (ways : List Way) (d : List ℕ) (w : ℕ → ℕ) (s : ℕ) → ((y : Way) → Has ways y → y.from ≡ s → idle_way s ≡ y) →
    (n i p q : ℕ) → p ≡ s → Walk ways d w i n p q → (q ≡ s) × Empties w i (i + n)
idle_stays ways d w s only zero i p q at h = (sym h ∙ at, λ r a b. absurd (omega (arith, a, b)))
idle_stays ways d w s only (suc n) i p q at h =
    let e = only h.0 h.1 (h.2 ∙ at) in
    let r = idle_stays ways d w s only n (suc i) h.0.to q (sym (ap (λ (y : Way). y.to) e)) h.5 in
    (r.0, λ t a b. go t a b (ap (λ (y : Way). y.marks) e ∙ h.3) r.1)
  where
    go : (t : ℕ) → i ≤ t → t < i + suc n → 0 ≡ w i → Empties w (suc i) (suc i + n) → w t ≡ 0
    go t a b z rest = near (t - i) refl
      where
        near : (k : ℕ) → t - i ≡ k → w t ≡ 0
        near zero e = let f : t ≡ i = omega (arith, e, a) in ap w f ∙ sym z
        near (suc k) e = rest t (omega (arith, e, a)) (omega (arith, b))

module _ (s t : Bool) (P : Places) (lies : LiesFrom 1 P) (d : List ℕ) (w : ℕ → ℕ) where
  abbrev pub after : ℕ
  after = suc P.count

  abbrev pub A : Automaton
  A = automaton_of_places s t P

  -- the ways that are not between places
  abbrev outer : List Way
  outer = unless s (idle_way 0 ∷ []) ++ unless t (after_ways after P)

  -- what the ways are
  abbrev pub WayCases : Way → Type 0
  WayCases y =
      ((s ≡ false) × (idle_way 0 ≡ y))
      ⊎ (((e : Entry) × Has P.first e × (way_from_first e ≡ y))
      ⊎ (Has P.follow y
      ⊎ ((t ≡ false) × Has (after_ways after P) y)))

  pub way_cases : (y : Way) → Has A.ways y → WayCases y
  way_cases y h =
      elim (Has-append_cases P.follow (map way_from_first P.first ++ outer) y h) [
        | inl f ↦ inr (inr (inl f))
        | inr b ↦ elim (Has-append_cases (map way_from_first P.first) outer y b) [
          | inl a ↦ inr (inl (Has-map_cases way_from_first P.first y a))
          | inr c ↦ elim (Has-append_cases (unless s (idle_way 0 ∷ [])) (unless t (after_ways after P)) y c) [
            | inl a ↦ let r = unless_cases s (idle_way 0 ∷ []) y a in inl (r.0, elim r.1 [ inl e ↦ e | inr b ↦ absurd b ])
            | inr u ↦ inr (inr (inr (unless_cases t (after_ways after P) y u)))
          ]
        ]
      ]

  pub idle_there : s ≡ false → Has A.ways (idle_way 0)
  idle_there e =
      Has-append_right P.follow (map way_from_first P.first ++ outer) (idle_way 0)
      (Has-append_right (map way_from_first P.first) outer (idle_way 0)
      (Has-append_left (unless s (idle_way 0 ∷ [])) (unless t (after_ways after P)) (idle_way 0) (unless_has s (idle_way 0 ∷ []) (idle_way 0) e (inl refl))))

  pub first_there : (e : Entry) → Has P.first e → Has A.ways (way_from_first e)
  first_there e h =
      Has-append_right P.follow (map way_from_first P.first ++ outer) (way_from_first e)
      (Has-append_left (map way_from_first P.first) outer (way_from_first e) (Has-map way_from_first P.first e h))

  pub follow_there : (y : Way) → Has P.follow y → Has A.ways y
  follow_there y h = Has-append_left P.follow (map way_from_first P.first ++ outer) y h

  pub after_there : t ≡ false → (y : Way) → Has (after_ways after P) y → Has A.ways y
  after_there e y h =
      Has-append_right P.follow (map way_from_first P.first ++ outer) y
      (Has-append_right (map way_from_first P.first) outer y
      (Has-append_right (unless s (idle_way 0 ∷ [])) (unless t (after_ways after P)) y (unless_has t (after_ways after P) y e h)))

  -- the ends of places and of Before are below After
  pub place_stop_below : (x : Stop) → Has (place_stops P) x → x.state < after
  place_stop_below x h =
      elim (Has-append_cases P.last (map stop_before P.null) x h) [
        | inl a ↦ omega (arith, (lies.lasts x a).1)
        | inr b ↦ let r = Has-map_cases stop_before P.null x b in omega (arith, ap (λ (g : Stop). g.state) r.2)
      ]

  pub only_idle_after : (y : Way) → Has A.ways y → y.from ≡ after → idle_way after ≡ y
  only_idle_after y h e =
      elim (way_cases y h) [
        | inl a ↦ absurd (omega (arith, ap (λ (g : Way). g.from) a.1, e))
        | inr b ↦ elim b [
          | inl f ↦ absurd (omega (arith, ap (λ (g : Way). g.from) f.2, e))
          | inr c ↦ elim c [
            | inl f ↦ absurd (omega (arith, (lies.froms y f).1, e))
            | inr u ↦ elim u.1 [
              | inl same ↦ same
              | inr m ↦ let r = Has-map_cases (way_after after) (place_stops P) y m in
                  absurd (omega (arith, place_stop_below r.0 r.1, ap (λ (g : Way). g.from) r.2, e))
            ]
          ]
        ]
      ]

  -- from After on nothing is marked
  after_stays : (n i q : ℕ) → Walk A.ways d w i n after q → (q ≡ after) × Empties w i (i + n)
  after_stays n i q h = idle_stays A.ways d w after only_idle_after n i after q refl h

  -- through which After is entered
  abbrev to_after : Entry
  to_after = record { marks = 0; bytes = all_bytes; to = after }

  into_after : (x : Stop) → way_into x to_after ≡ way_after after x
  into_after x =
      let e : x.marks + 0 ≡ x.marks = omega arith in
      let f : ℕ → Way = λ m. record { from = x.state; marks = m; bytes = all_bytes; to = after } in
      ap f e

  -- ways from places
  places_split : IsSplit P.follow A.ways P.last (unless t (to_after ∷ [])) (λ x. (1 ≤ x) × (x < after))
  places_split y h l =
      elim (way_cases y h) [
        | inl a ↦ absurd (omega (arith, ap (λ (g : Way). g.from) a.1, l.0))
        | inr b ↦ elim b [
          | inl f ↦ absurd (omega (arith, ap (λ (g : Way). g.from) f.2, l.0))
          | inr c ↦ elim c [
            | inl f ↦ inl (f, let r = lies.tos y f in (r.0, omega (arith, r.1)))
            | inr u ↦ elim u.1 [
              | inl same ↦ absurd (omega (arith, ap (λ (g : Way). g.from) same, l.1))
              | inr m ↦ let r = Has-map_cases (way_after after) (place_stops P) y m in
                  elim (Has-append_cases P.last (map stop_before P.null) r.0 r.1) [
                    | inl k ↦ inr (r.0, to_after, k, unless_has t (to_after ∷ []) to_after u.0 (inl refl), into_after r.0 ∙ r.2)
                    | inr k ↦ let x = Has-map_cases stop_before P.null r.0 k in
                        absurd (omega (arith, ap (λ (g : Stop). g.state) x.2, ap (λ (g : Way). g.from) r.2, l.0))
                  ]
            ]
          ]
        ]
      ]

  -- Before's way to itself, and out of Before: to a first place, or past an empty part
  abbrev idle_ways : List Way
  idle_ways = unless s (idle_way 0 ∷ [])

  abbrev null_entry : ℕ → Entry
  null_entry m = record { marks = m; bytes = all_bytes; to = after }

  abbrev outs : List Entry
  outs = P.first ++ unless t (map null_entry P.null)

  abbrev here : List Stop
  here = record { state = 0; marks = 0 } ∷ []

  out_way : (e : Entry) → way_into (record { state = 0; marks = 0 }) e ≡ way_from_first e
  out_way e =
      let z : 0 + e.marks ≡ e.marks = omega arith in
      let f : ℕ → Way = λ m. record { from = 0; marks = m; bytes = e.bytes; to = e.to } in
      ap f z

  before_split : IsSplit idle_ways A.ways here outs (λ x. x ≡ 0)
  before_split y h l =
      elim (way_cases y h) [
        | inl a ↦ inl (unless_has s (idle_way 0 ∷ []) y a.0 (inl a.1), sym (ap (λ (g : Way). g.to) a.1))
        | inr b ↦ elim b [
          | inl f ↦ inr (record { state = 0; marks = 0 }, f.0, inl refl, Has-append_left P.first (unless t (map null_entry P.null)) f.0 f.1, out_way f.0 ∙ f.2)
          | inr c ↦ elim c [
            | inl f ↦ absurd (omega (arith, (lies.froms y f).0, l))
            | inr u ↦ elim u.1 [
              | inl same ↦ absurd (omega (arith, ap (λ (g : Way). g.from) same, l))
              | inr m ↦ let r = Has-map_cases (way_after after) (place_stops P) y m in
                  elim (Has-append_cases P.last (map stop_before P.null) r.0 r.1) [
                    | inl k ↦ absurd (omega (arith, (lies.lasts r.0 k).0, ap (λ (g : Way). g.from) r.2, l))
                    | inr k ↦ let x = Has-map_cases stop_before P.null r.0 k in
                        inr (
                          record { state = 0; marks = 0 },
                          null_entry x.0,
                          inl refl,
                          Has-append_right P.first (unless t (map null_entry P.null)) (null_entry x.0)
                              (unless_has t (map null_entry P.null) (null_entry x.0) u.0 (Has-map null_entry P.null x.0 x.1)),
                          out_way (null_entry x.0) ∙ (ap (way_after after) x.2 ∙ r.2),
                        )
                  ]
            ]
          ]
        ]
      ]

  -- while Before is kept nothing is marked, and it is kept only where it has its way
  before_idle : (n i q : ℕ) → Walk idle_ways d w i n 0 q → (q ≡ 0) × Empties w i (i + n) × (IsTrue s → n ≡ 0)
  before_idle n i q h =
      let r = idle_stays idle_ways d w 0 (λ y m e. elim (unless_cases s (idle_way 0 ∷ []) y m).1 [ inl same ↦ same | inr b ↦ absurd b ]) n i 0 q refl h in
      (r.0, r.1, none n h)
    where
      none : (n : ℕ) → Walk idle_ways d w i n 0 q → IsTrue s → n ≡ 0
      none zero h x = refl
      none (suc n) h x = not_true s (suc n ≡ 0) (unless_cases s (idle_way 0 ∷ []) h.0 h.1).0 x

  -- a part that is read, and nothing marked before and after it
  abbrev pub PartIsShown : Type 0
  PartIsShown =
      (i : ℕ) × (j : ℕ) × (i ≤ j) × (j ≤ length d) × (IsTrue s → i ≡ 0) × (IsTrue t → j ≡ length d) × Shown P d i j w
      × Empties w 0 i × Empties w (suc j) (suc (length d))

  pub stop_cases : (x : Stop) → Has A.stops x → Has P.last x ⊎ (((m : ℕ) × Has P.null m × (stop_before m ≡ x)) ⊎ ((t ≡ false) × (after ≡ x.state) × (0 ≡ x.marks)))
  stop_cases x h =
      elim (Has-append_cases (place_stops P) (unless t (record { state = after; marks = 0 } ∷ [])) x h) [
        | inl a ↦ elim (Has-append_cases P.last (map stop_before P.null) x a) [
          | inl b ↦ inl b
          | inr b ↦ inr (inl (Has-map_cases stop_before P.null x b))
        ]
        | inr u ↦ let r = unless_cases t (record { state = after; marks = 0 } ∷ []) x u in
            inr (inr (
              r.0,
              elim r.1 [ inl e ↦ ap (λ (g : Stop). g.state) e | inr b ↦ absurd b ],
              elim r.1 [ inl e ↦ ap (λ (g : Stop). g.marks) e | inr b ↦ absurd b ],
            ))
      ]

  through_end : (low : ℕ) → Empties w low (length d) → w (length d) ≡ 0 → Empties w low (suc (length d))
  through_end low e z p a b =
      elim (compared p (length d)) [
        | inl l ↦ e p a l
        | inr c ↦ elim c [ inl at ↦ ap w at ∙ z | inr g ↦ absurd (omega (arith, b, g)) ]
      ]

  nothing_behind : Empties w (suc (length d)) (suc (length d))
  nothing_behind p a b = absurd (omega (arith, a, b))

  -- the walk ends in Before
  ends_before : (x : Stop) → Has A.stops x → x.marks ≡ w (length d) → x.state ≡ 0 → Empties w 0 (length d) → (IsTrue s → length d ≡ 0) → PartIsShown
  ends_before x h m z e at =
      elim (stop_cases x h) [
        | inl l ↦ absurd (omega (arith, (lies.lasts x l).0, z))
        | inr b ↦ elim b [
          | inl k ↦ (
            length d,
            length d,
            omega arith,
            omega arith,
            at,
            (λ r. refl),
            inl (refl, subst (Has P.null) (ap (λ (g : Stop). g.marks) k.2 ∙ m) k.1),
            e,
            nothing_behind,
          )
          | inr k ↦ absurd (omega (arith, k.1, z))
        ]
      ]

  -- the walk ends in a place
  ends_in_place : (x : Stop) → Has A.stops x → (1 ≤ x.state) × (x.state < after) → Has P.last x
  ends_in_place x h l =
      elim (stop_cases x h) [
        | inl a ↦ a
        | inr b ↦ elim b [
          | inl k ↦ absurd (omega (arith, ap (λ (g : Stop). g.state) k.2, l.0))
          | inr k ↦ absurd (omega (arith, k.1, l.1))
        ]
      ]

  -- the walk ends in After
  ends_after : (x : Stop) → Has A.stops x → x.state ≡ after → 0 ≡ x.marks
  ends_after x h e =
      elim (stop_cases x h) [
        | inl a ↦ absurd (omega (arith, (lies.lasts x a).1, e))
        | inr b ↦ elim b [
          | inl k ↦ absurd (omega (arith, ap (λ (g : Stop). g.state) k.2, e))
          | inr k ↦ k.2
        ]
      ]

  -- the rest of a walk, after the way out of Before at the position i
  from_place : (i n : ℕ) (e : Entry) (x : Stop) → length d ≡ i + suc n → (IsTrue s → i ≡ 0) → Empties w 0 i → Has P.first e → e.marks ≡ w i →
      ReadsByte d i e.bytes → Walk A.ways d w (suc i) n e.to x.state → Has A.stops x → x.marks ≡ w (length d) → PartIsShown
  from_place i n e x len si empties f em byte walk h m =
      elim (first_cross P.follow A.ways P.last (unless t (to_after ∷ [])) (λ x. (1 ≤ x) × (x < after)) d w places_split n (suc i) e.to x.state
      (let r = lies.firsts e f in (r.0, omega (arith, r.1))) walk) [
        | inl r ↦ (
          i,
          length d,
          omega (arith, len),
          omega arith,
          si,
          (λ y. refl),
          inr (n, omega (arith, len), (e, x, f, ends_in_place x h r.1, em, byte, r.0, m)),
          empties,
          nothing_behind,
        )
        | inr c ↦
            let u = unless_cases t (to_after ∷ []) c.3 c.6 in
            let k : suc i + c.0 ≡ suc (i + c.0) = omega arith in
            let same : to_after ≡ c.3 = elim u.1 [ inl a ↦ a | inr b ↦ absurd b ] in
            let rest : Walk A.ways d w (suc (suc (i + c.0))) c.1 after x.state =
            rw k at (rw (← (ap (λ (g : Entry). g.to) same)) at c.10) in
            let r = after_stays c.1 (suc (suc (i + c.0))) x.state rest in
            let z = ends_after x h r.0 in (
              i,
              suc (i + c.0),
              omega arith,
              omega (arith, len, c.4),
              si,
              not_true t (suc (i + c.0) ≡ length d) u.0,
              inr (c.0, refl, (e, c.2, f, c.5, em, byte, c.9, omega (arith, c.7, ap (λ (g : Entry). g.marks) same, ap w k))),
              empties,
              through_end (suc (suc (i + c.0))) (λ p a b. r.1 p a (omega (arith, b, len, c.4))) (sym (z ∙ m)),
            )
      ]

  past_nothing : (i n m : ℕ) (x : Stop) → t ≡ false → length d ≡ i + suc n → (IsTrue s → i ≡ 0) → Empties w 0 i → Has P.null m → m ≡ w i →
      Walk A.ways d w (suc i) n after x.state → Has A.stops x → x.marks ≡ w (length d) → PartIsShown
  past_nothing i n m x f len si empties null em walk h marks =
      let r = after_stays n (suc i) x.state walk in
      let z = ends_after x h r.0 in (
        i,
        i,
        omega arith,
        omega (arith, len),
        si,
        not_true t (i ≡ length d) f,
        inl (refl, subst (Has P.null) em null),
        empties,
        through_end (suc i) (λ p a b. r.1 p a (omega (arith, b, len))) (sym (z ∙ marks)),
      )

  pub accepts_shown : Accepts A d w → PartIsShown
  accepts_shown h =
      let z : 0 ≡ h.0 = elim h.2 [ inl e ↦ e | inr b ↦ absurd b ] in
      let walk : Walk A.ways d w 0 (length d) 0 h.1.state = rw (← z) at h.4 in
      elim (first_cross idle_ways A.ways here outs (λ x. x ≡ 0) d w before_split (length d) 0 0 h.1.state refl walk) [
        | inl r ↦ let k = before_idle (length d) 0 h.1.state r.0 in
            ends_before h.1 h.3 h.5 r.1 (λ p a b. k.1 p a (omega (arith, b))) k.2
        | inr c ↦ crossed c
      ]
    where
      crossed : Crosses idle_ways A.ways here outs d w 0 (length d) 0 h.1.state → PartIsShown
      crossed c =
          let k : 0 + c.0 ≡ c.0 = omega arith in
          let idle = before_idle c.0 0 c.2.state c.9 in
          let empties : Empties w 0 c.0 = λ p a b. idle.1 p a (omega (arith, b)) in
          let none : 0 ≡ c.2.marks = elim c.5 [ inl e ↦ ap (λ (g : Stop). g.marks) e | inr b ↦ absurd b ] in
          let em : c.3.marks ≡ w c.0 = omega (arith, c.7, ap w k, none) in
          let rest : Walk A.ways d w (suc c.0) c.1 c.3.to h.1.state = rw (← k) c.10 in
          elim (Has-append_cases P.first (unless t (map null_entry P.null)) c.3 c.6) [
            | inl f ↦ from_place c.0 c.1 c.3 h.1 c.4 idle.2 empties f em (rw (← k) c.8) rest h.3 h.5
            | inr u ↦
                let v = unless_cases t (map null_entry P.null) c.3 u in
                let r = Has-map_cases null_entry P.null c.3 v.1 in
                past_nothing c.0 c.1 r.0 h.1 v.0 c.4 idle.2 empties r.1 (ap (λ (g : Entry). g.marks) r.2 ∙ em)
                (rw (← (ap (λ (g : Entry). g.to) r.2)) at rest) h.3 h.5
          ]

  -- the other way round
  module _ (ok : AreBytes d) where
    before_walk : (i : ℕ) → (IsTrue s → i ≡ 0) → i ≤ length d → Empties w 0 i → Walk A.ways d w 0 i 0 0
    before_walk i si l e = go s refl
      where
        go : (b : Bool) → s ≡ b → Walk A.ways d w 0 i 0 0
        go true at = rw (si at) refl
        go false at = idle_walk A.ways d w 0 ok (idle_there at) i 0 (omega (arith, l)) (λ p a b. e p a (omega (arith, b)))

    after_walk : t ≡ false → (i n : ℕ) → i + n ≤ length d → Empties w i (i + n) → Walk A.ways d w i n after after
    after_walk f i n l e = idle_walk A.ways d w after ok (after_there f (idle_way after) (inl refl)) n i l e

    -- from a place or Before, at an end of it, to the document's end
    ends_at : (j : ℕ) (x : Stop) → j ≤ length d → (IsTrue t → j ≡ length d) → Has (place_stops P) x → x.marks ≡ w j →
        Empties w (suc j) (suc (length d)) → Walk A.ways d w 0 j 0 x.state → Accepts A d w
    ends_at j x l tj h m e walk = go (compared j (length d))
      where
        stops_left : Has A.stops x
        stops_left = Has-append_left (place_stops P) (unless t (record { state = after; marks = 0 } ∷ [])) x h

        here_at : j ≡ length d → Accepts A d w
        here_at at = (0, x, inl refl, stops_left, rw (← at) walk, m ∙ ap w at)

        later : t ≡ false → j < length d → Accepts A d w
        later f less =
            let len : j + suc (length d - suc j) ≡ length d = omega (arith, less) in
            let zero_at : j ≡ 0 + j = omega arith in (
              0,
              record { state = after; marks = 0 },
              inl refl,
              Has-append_right (place_stops P) (unless t (record { state = after; marks = 0 } ∷ [])) (record { state = after; marks = 0 })
                  (unless_has t (record { state = after; marks = 0 } ∷ []) (record { state = after; marks = 0 }) f (inl refl)),
              rw (← len)
                  (walk_then A.ways d w j (suc (length d - suc j)) 0 j 0 x.state after zero_at walk (
                    way_after after x,
                    after_there f (way_after after x) (inr (Has-map (way_after after) (place_stops P) x h)),
                    refl,
                    m,
                    any_byte d ok j less,
                    after_walk f (suc j) (length d - suc j) (omega (arith, less)) (λ p a b. e p a (omega (arith, b, less))),
                  )),
              sym (e (length d) (omega (arith, less)) (omega arith)),
            )

        go : (j < length d) ⊎ ((j ≡ length d) ⊎ (length d < j)) → Accepts A d w
        go (inl less) = test t refl
          where
            test : (b : Bool) → t ≡ b → Accepts A d w
            test true at = absurd (omega (arith, tj at, less))
            test false at = later at less
        go (inr (inl at)) = here_at at
        go (inr (inr more)) = absurd (omega (arith, l, more))

    pub shown_accepts : PartIsShown → Accepts A d w
    shown_accepts h = go h.6
      where
        before : Walk A.ways d w 0 h.0 0 0
        before = before_walk h.0 h.4 (omega (arith, h.2, h.3)) h.7

        go : Shown P d h.0 h.1 w → Accepts A d w
        go (inl a) =
            ends_at h.1 (stop_before (w h.0)) h.3 h.5
            (Has-append_right P.last (map stop_before P.null) (stop_before (w h.0)) (Has-map stop_before P.null (w h.0) a.1)) (ap w a.0) h.8
            (rw (← a.0) before)
        go (inr a) =
            let r = a.2 in
            let len : h.0 + suc a.0 ≡ h.1 = omega (arith, a.1) in
            let at : h.0 ≡ 0 + h.0 = omega arith in
            ends_at h.1 r.1 h.3 h.5 (Has-append_left P.last (map stop_before P.null) r.1 r.3) r.7 h.8
            (rw (← len)
            (walk_then A.ways d w h.0 (suc a.0) 0 h.0 0 0 r.1.state at before (
              way_from_first r.0,
              first_there r.0 r.2,
              refl,
              r.4,
              r.5,
              walk_more P.follow A.ways d w follow_there a.0 (suc h.0) r.0.to r.1.state r.6,
            )))
