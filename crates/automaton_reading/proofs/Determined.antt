-- Reading by sets finds the words that the automaton accepts.
use Rattle.std.proofs.Common.{◌≡◌, ℕ, suc, ◌+◌, ◌⊎◌, Bool, true, false, List, [], ◌∷◌, Some, length, inl, inr, refl, sym, ap, subst, arith, ◌∙◌}
use Rattle.std.specs.Prelude.{map, nat_eq, nat_lt, if◌then◌else◌, slice_get, ◌&&◌, ◌||◌}
use Rattle.std.specs.List.{filter}
use Rattle.std.specs.Option.{unwrap_or}
use Rattle.std.proofs.lemmas.Bool.{eqb-true, eq-eqb}
use Rattle.span_core.specs.Lists.{Has}
use Rattle.std.specs.FinSet as bytes
use Rattle.marked_automaton.specs.declared.way.Way.{Way}
use Rattle.marked_automaton.specs.declared.way.Stop.{Stop}
use Rattle.marked_automaton.specs.Automaton.{Automaton, HasByte, Walk}
use Rattle.automaton_reading.specs.Chosen.{EndsWith, IsReadFrom, ReadingLaw}
use Rattle.automaton_reading.specs.Reading.{put_up, put_down, set_of, blocks_down, is_among, Reach, byte_read, ways_taken, reach_with, edges}
use Rattle.span_core.proofs.HasLaws.{Has-map, Has-map_cases}
use Rattle.marked_automaton.proofs.Passing.{filter_cases, has_filter, left_true, right_true, both_true, or_left, or_right}

put_up_has : (p : ℕ) (qs : List ℕ) (x : ℕ) → (p ≡ x) ⊎ Has qs x → Has (put_up p qs) x
put_up_has p [] x h = h
put_up_has p (q ∷ qs) x h = go (put_up_has p qs x) (nat_lt p q) (nat_eq p q) refl h
  where
    go : ((p ≡ x) ⊎ Has qs x → Has (put_up p qs) x) → (a b : Bool) → nat_eq p q ≡ b → (p ≡ x) ⊎ Has (q ∷ qs) x →
        Has (if a then p ∷ q ∷ qs else (if b then q ∷ qs else q ∷ put_up p qs)) x
    go rest true b e h = h
    go rest false true e (inl same) = inl (sym (eqb-true p q e) ∙ same)
    go rest false true e (inr k) = k
    go rest false false e (inl same) = inr (rest (inl same))
    go rest false false e (inr (inl k)) = inl k
    go rest false false e (inr (inr k)) = inr (rest (inr k))

pub put_up_cases : (p : ℕ) (qs : List ℕ) (x : ℕ) → Has (put_up p qs) x → (p ≡ x) ⊎ Has qs x
put_up_cases p [] x h = h
put_up_cases p (q ∷ qs) x h = go (put_up_cases p qs x) (nat_lt p q) (nat_eq p q) h
  where
    go : (Has (put_up p qs) x → (p ≡ x) ⊎ Has qs x) → (a b : Bool) →
        Has (if a then p ∷ q ∷ qs else (if b then q ∷ qs else q ∷ put_up p qs)) x → (p ≡ x) ⊎ Has (q ∷ qs) x
    go rest true b h = h
    go rest false true h = inr h
    go rest false false (inl k) = inr (inl k)
    go rest false false (inr k) = elim (rest k) [ inl e ↦ inl e | inr m ↦ inr (inr m) ]

put_down_has : (p : ℕ) (qs : List ℕ) (x : ℕ) → (p ≡ x) ⊎ Has qs x → Has (put_down p qs) x
put_down_has p [] x h = h
put_down_has p (q ∷ qs) x h = go (put_down_has p qs x) (nat_lt q p) (nat_eq p q) refl h
  where
    go : ((p ≡ x) ⊎ Has qs x → Has (put_down p qs) x) → (a b : Bool) → nat_eq p q ≡ b → (p ≡ x) ⊎ Has (q ∷ qs) x →
        Has (if a then p ∷ q ∷ qs else (if b then q ∷ qs else q ∷ put_down p qs)) x
    go rest true b e h = h
    go rest false true e (inl same) = inl (sym (eqb-true p q e) ∙ same)
    go rest false true e (inr k) = k
    go rest false false e (inl same) = inr (rest (inl same))
    go rest false false e (inr (inl k)) = inl k
    go rest false false e (inr (inr k)) = inr (rest (inr k))

pub put_down_cases : (p : ℕ) (qs : List ℕ) (x : ℕ) → Has (put_down p qs) x → (p ≡ x) ⊎ Has qs x
put_down_cases p [] x h = h
put_down_cases p (q ∷ qs) x h = go (put_down_cases p qs x) (nat_lt q p) (nat_eq p q) h
  where
    go : (Has (put_down p qs) x → (p ≡ x) ⊎ Has qs x) → (a b : Bool) →
        Has (if a then p ∷ q ∷ qs else (if b then q ∷ qs else q ∷ put_down p qs)) x → (p ≡ x) ⊎ Has (q ∷ qs) x
    go rest true b h = h
    go rest false true h = inr h
    go rest false false (inl k) = inr (inl k)
    go rest false false (inr k) = elim (rest k) [ inl e ↦ inl e | inr m ↦ inr (inr m) ]

pub set_has : (xs : List ℕ) (x : ℕ) → Has xs x → Has (set_of xs) x
set_has [] x h = h
set_has (p ∷ xs) x (inl e) = put_up_has p (set_of xs) x (inl e)
set_has (p ∷ xs) x (inr h) = put_up_has p (set_of xs) x (inr (set_has xs x h))

pub has_set : (xs : List ℕ) (x : ℕ) → Has (set_of xs) x → Has xs x
has_set [] x h = h
has_set (p ∷ xs) x h = elim (put_up_cases p (set_of xs) x h) [ inl e ↦ inl e | inr k ↦ inr (has_set xs x k) ]

pub blocks_has : (xs : List ℕ) (x : ℕ) → Has xs x → Has (blocks_down xs) x
blocks_has [] x h = h
blocks_has (p ∷ xs) x (inl e) = put_down_has p (blocks_down xs) x (inl e)
blocks_has (p ∷ xs) x (inr h) = put_down_has p (blocks_down xs) x (inr (blocks_has xs x h))

pub has_block : (xs : List ℕ) (x : ℕ) → Has (blocks_down xs) x → Has xs x
has_block [] x h = h
has_block (p ∷ xs) x h = elim (put_down_cases p (blocks_down xs) x h) [ inl e ↦ inl e | inr k ↦ inr (has_block xs x k) ]

pub among_has : (ms : List ℕ) (m : ℕ) → is_among ms m ≡ true → Has ms m
among_has [] m e = absurd (cc)
among_has (x ∷ ms) m e = go (among_has ms m) (nat_eq m x) refl e
  where
    go : (is_among ms m ≡ true → Has ms m) → (b : Bool) → nat_eq m x ≡ b → (b || is_among ms m) ≡ true → Has (x ∷ ms) m
    go rest true at e = inl (sym (eqb-true m x at))
    go rest false at e = inr (rest e)

pub has_among : (ms : List ℕ) (m : ℕ) → Has ms m → is_among ms m ≡ true
has_among (x ∷ ms) m (inl e) = or_left (nat_eq m x) (is_among ms m) (eq-eqb m x (sym e))
has_among (x ∷ ms) m (inr h) = or_right (nat_eq m x) (is_among ms m) (has_among ms m h)
has_among [] m h = absurd h

module _ (A : Automaton) where
  abbrev passes : List ℕ → ℕ → Way → Bool
  passes set b y = is_among set y.from && bytes.contains y.bytes b

  -- what an edge on a byte leads to
  pub edge_way : (set : List ℕ) (b : ℕ) (e : Reach) (q : ℕ) → Has (edges A set (byte_read b)) e → Has e.to q →
      (y : Way) × Has A.ways y × Has set y.from × HasByte y.bytes b × (y.marks ≡ e.marks) × (y.to ≡ q)
  edge_way set b e q h k =
      let m = Has-map_cases (reach_with (ways_taken A set b)) (blocks_down (map (λ (y : Way). y.marks) (ways_taken A set b))) e h in
      let there : Has (reach_with (ways_taken A set b) m.0).to q = rw (← m.2) at k in
      let y = Has-map_cases (λ (y : Way). y.to) (filter (λ y. nat_eq y.marks m.0) (ways_taken A set b)) q
      (has_set (map (λ (y : Way). y.to) (filter (λ y. nat_eq y.marks m.0) (ways_taken A set b))) q there) in
      let f = filter_cases (λ (y : Way). nat_eq y.marks m.0) (ways_taken A set b) y.0 y.1 in
      let t = filter_cases (passes set b) A.ways y.0 f.0 in (
        y.0,
        t.0,
        among_has set y.0.from (left_true (is_among set y.0.from) (bytes.contains y.0.bytes b) t.1),
        right_true (is_among set y.0.from) (bytes.contains y.0.bytes b) t.1,
        eqb-true y.0.marks m.0 f.1 ∙ ap (λ (r : Reach). r.marks) m.2,
        y.2,
      )

  -- a way from a member is in an edge
  pub way_edge : (set : List ℕ) (b : ℕ) (y : Way) → Has A.ways y → Has set y.from → HasByte y.bytes b →
      (e : Reach) × Has (edges A set (byte_read b)) e × (e.marks ≡ y.marks) × Has e.to y.to
  way_edge set b y h from byte =
      let t = has_filter (passes set b) A.ways y h
      (both_true (is_among set y.from) (bytes.contains y.bytes b) (has_among set y.from from) byte) in
      let f = has_filter (λ (z : Way). nat_eq z.marks y.marks) (ways_taken A set b) y t (eq-eqb y.marks y.marks refl) in (
        reach_with (ways_taken A set b) y.marks,
        Has-map (reach_with (ways_taken A set b)) (blocks_down (map (λ (y : Way). y.marks) (ways_taken A set b))) y.marks
            (blocks_has (map (λ (y : Way). y.marks) (ways_taken A set b)) y.marks (Has-map (λ (y : Way). y.marks) (ways_taken A set b) y t)),
        refl,
        set_has (map (λ (y : Way). y.to) (filter (λ z. nat_eq z.marks y.marks) (ways_taken A set b))) y.to
            (Has-map (λ (y : Way). y.to) (filter (λ z. nat_eq z.marks y.marks) (ways_taken A set b)) y f),
      )

  pub ends_stop : (w : ℕ → ℕ) (i : ℕ) (set : List ℕ) → EndsWith A w i set → (x : Stop) × Has A.stops x × Has set x.state × (x.marks ≡ w i)
  ends_stop w i set h =
      let m = Has-map_cases (λ m. let r : Reach = record { marks = m; to = [] } in r) (blocks_down (map (λ (x : Stop). x.marks) (filter (λ (x : Stop). is_among set x.state) A.stops))) h.0 h.1 in
      let x = Has-map_cases (λ (x : Stop). x.marks) (filter (λ (x : Stop). is_among set x.state) A.stops) m.0
      (has_block (map (λ (x : Stop). x.marks) (filter (λ (x : Stop). is_among set x.state) A.stops)) m.0 m.1) in
      let f = filter_cases (λ (x : Stop). is_among set x.state) A.stops x.0 x.1 in
      (x.0, f.0, among_has set x.0.state f.1, x.2 ∙ (ap (λ (r : Reach). r.marks) m.2 ∙ h.2))

  pub stop_ends : (w : ℕ → ℕ) (i : ℕ) (set : List ℕ) (x : Stop) → Has A.stops x → Has set x.state → x.marks ≡ w i → EndsWith A w i set
  stop_ends w i set x h k e =
      let f = has_filter (λ (x : Stop). is_among set x.state) A.stops x h (has_among set x.state k) in (
        record { marks = x.marks; to = [] },
        Has-map (λ m. let r : Reach = record { marks = m; to = [] } in r) (blocks_down (map (λ (x : Stop). x.marks) (filter (λ (x : Stop). is_among set x.state) A.stops))) x.marks
            (blocks_has (map (λ (x : Stop). x.marks) (filter (λ (x : Stop). is_among set x.state) A.stops)) x.marks
            (Has-map (λ (x : Stop). x.marks) (filter (λ (x : Stop). is_among set x.state) A.stops) x f)),
        e,
      )

  module _ (d : List ℕ) (w : ℕ → ℕ) where
    abbrev All : ℕ → Bool
    All i = true

    -- these bytes stand in the document from the position i on
    abbrev pub IsBehind : List ℕ → ℕ → Type 0
    IsBehind rest i = (k : ℕ) → slice_get rest k ≡ slice_get d (i + k)

    -- a member goes on to the end
    abbrev GoesOn : List ℕ → ℕ → List ℕ → Type 0
    GoesOn rest i set = (p : ℕ) × (x : Stop) × Has set p × Has A.stops x × Walk A.ways d w i (length rest) p x.state × (x.marks ≡ w (i + length rest))

    pub behind_tail : (b : ℕ) (rest : List ℕ) (i : ℕ) → IsBehind (b ∷ rest) i → IsBehind rest (suc i)
    behind_tail b rest i h k = let e : i + suc k ≡ suc i + k = omega arith in h (suc k) ∙ ap (slice_get d) e

    pub behind_head : (b : ℕ) (rest : List ℕ) (i : ℕ) → IsBehind (b ∷ rest) i → slice_get d i ≡ Some b
    behind_head b rest i h = let e : i + 0 ≡ i = omega arith in sym (h 0 ∙ ap (slice_get d) e)

    read_goes : (rest : List ℕ) (i : ℕ) (set : List ℕ) → IsBehind rest i → IsReadFrom A All w rest i false set → GoesOn rest i set
    read_goes [] i set at h =
        let x = ends_stop w i set h in
        let e : i ≡ i + 0 = omega arith in
        (x.0.state, x.0, x.2, x.1, refl, x.3 ∙ ap w e)
    read_goes (b ∷ rest) i set at h =
        let r = read_goes rest (suc i) h.0.to (behind_tail b rest i at) h.3 in
        let y = edge_way set b h.0 r.0 h.1 r.2 in
        let e : suc i + length rest ≡ i + suc (length rest) = omega arith in (
          y.0.from,
          r.1,
          y.2,
          r.3,
          (y.0, y.1, refl, y.4 ∙ h.2, (b, behind_head b rest i at, y.3), rw (← y.5) at r.4),
          r.5 ∙ ap w e,
        )

    goes_read : (rest : List ℕ) (i : ℕ) (set : List ℕ) → IsBehind rest i → GoesOn rest i set → IsReadFrom A All w rest i false set
    goes_read [] i set at h =
        let e : i + 0 ≡ i = omega arith in
        stop_ends w i set h.1 h.3 (subst (Has set) h.4 h.2) (h.5 ∙ ap w e)
    goes_read (b ∷ rest) i set at h =
        let y = h.4 in
        let same : y.4.0 ≡ b = a_byte_at (sym y.4.1 ∙ behind_head b rest i at) in
        let r = way_edge set b y.0 y.1 (subst (Has set) (sym y.2) h.2) (subst (HasByte y.0.bytes) same y.4.2) in
        let e : i + suc (length rest) ≡ suc i + length rest = omega arith in (
          r.0,
          r.1,
          r.2 ∙ y.3,
          goes_read rest (suc i) r.0.to (behind_tail b rest i at) (y.0.to, h.1, r.3, h.3, y.5, h.5 ∙ ap w e),
        )
      where
        a_byte_at : {x z : ℕ} → Some x ≡ Some z → x ≡ z
        a_byte_at {x} {z} e = ap (λ o. unwrap_or o x) e

pub reading_law : ReadingLaw
reading_law A d w =
    let whole : (k : ℕ) → slice_get d k ≡ slice_get d (0 + k) = λ k. let e : k ≡ 0 + k = omega arith in ap (slice_get d) e in
    let e : 0 + length d ≡ length d = omega arith in (
      (λ h.
          let r = read_goes A d w d 0 (set_of A.starts) whole h in
          (r.0, r.1, has_set A.starts r.0 r.2, r.3, r.4, r.5 ∙ ap w e)),
      (λ h. goes_read A d w d 0 (set_of A.starts) whole (h.0, h.1, set_has A.starts h.0 h.2, h.3, h.4, h.5 ∙ ap w (sym e))),
    )
