-- What is read by the places of a formula made of parts, by what the parts' places read.
use Rattle.std.proofs.Common.{◌≡◌, ℕ, suc, ◌+◌, ◌<◌, ◌≤◌, ◌⊎◌, List, ◌++◌, inl, inr, refl, sym, ap, subst, arith, ◌∙◌}
use Rattle.std.specs.Prelude.{map}
use Rattle.std.specs.List.{flat_map}
use Rattle.span_core.specs.Lists.{Has}
use Rattle.marked_automaton.specs.declared.way.Way.{Way}
use Rattle.marked_automaton.specs.declared.way.Stop.{Stop}
use Rattle.marked_automaton.specs.Automaton.{ReadsByte, Walk}
use Rattle.place_automaton.specs.declared.fragment.Entry.{Entry}
use Rattle.place_automaton.specs.Places.{Places, way_into, ways_between, entry_with, stop_with, cat_places, alt_places, plus_places, cap_places}
use Rattle.place_automaton.specs.Reads.{Reads}
use Rattle.span_core.proofs.HasLaws.{Has-append_left, Has-append_right, Has-append_cases, Has-map, Has-map_cases}
use Rattle.marked_automaton.proofs.Passing.{has_flat_map}
use Rattle.place_automaton.proofs.Ranges.{LiesFrom, entries_of, stops_of, ways_of}
use Rattle.marked_automaton.proofs.Walks.{walk_more, walk_same, walk_then, walk_stays}
use Rattle.place_automaton.proofs.Walks.{Crosses, IsSplit, first_cross}

pub reads_same : (P : Places) (d : List ℕ) (i n a b : ℕ) (w v : ℕ → ℕ) (y z : ℕ) → a ≡ b → y ≡ z →
    ((p : ℕ) → i < p → p ≤ i + n → w p ≡ v p) → Reads P d i n a w y → Reads P d i n b v z
reads_same P d i n a b w v y z ab yz e h = (
  h.0,
  h.1,
  h.2,
  h.3,
  h.4 ∙ ab,
  h.5,
  walk_same P.follow d w v n (suc i) h.0.to h.1.state (λ r l u. e r (omega arith) (omega arith)) h.6,
  h.7 ∙ yz,
)

-- two ways of ways, of which the one leads from an end of the first to an entry of the second
has_between : (last : List Stop) (first : List Entry) (s : Stop) (e : Entry) → Has last s → Has first e → Has (ways_between last first) (way_into s e)
has_between last first s e l f =
    has_flat_map (λ s. map (way_into s) first) last s (way_into s e) l (Has-map (way_into s) first e f)

module _ (P Q : Places) (d : List ℕ) where
  follow_left : (y : Way) → Has P.follow y → Has (cat_places P Q).follow y
  follow_left y h = Has-append_left P.follow (Q.follow ++ ways_between P.last Q.first) y h

  follow_right : (y : Way) → Has Q.follow y → Has (cat_places P Q).follow y
  follow_right y h =
      Has-append_right P.follow (Q.follow ++ ways_between P.last Q.first) y (Has-append_left Q.follow (ways_between P.last Q.first) y h)

  follow_across : (s : Stop) (e : Entry) → Has P.last s → Has Q.first e → Has (cat_places P Q).follow (way_into s e)
  follow_across s e l f =
      Has-append_right P.follow (Q.follow ++ ways_between P.last Q.first) (way_into s e)
      (Has-append_right Q.follow (ways_between P.last Q.first) (way_into s e) (has_between P.last Q.first s e l f))

  pub reads_after_null : (i n m a : ℕ) (w : ℕ → ℕ) (z : ℕ) → Has P.null m → Reads Q d i n a w z → Reads (cat_places P Q) d i n (m + a) w z
  reads_after_null i n m a w z null h = (
    entry_with m h.0,
    h.1,
    Has-append_right P.first (flat_map (λ m. map (entry_with m) Q.first) P.null) (entry_with m h.0)
        (has_flat_map (λ m. map (entry_with m) Q.first) P.null m (entry_with m h.0) null (Has-map (entry_with m) Q.first h.0 h.2)),
    Has-append_left Q.last (flat_map (λ m. map (stop_with m) P.last) Q.null) h.1 h.3,
    ap (◌+◌ m) h.4,
    h.5,
    walk_more Q.follow (cat_places P Q).follow d w follow_right n (suc i) h.0.to h.1.state h.6,
    h.7,
  )

  pub reads_before_null : (i n a : ℕ) (w : ℕ → ℕ) (z m : ℕ) → Reads P d i n a w z → Has Q.null m → Reads (cat_places P Q) d i n a w (z + m)
  reads_before_null i n a w z m h null = (
    h.0,
    stop_with m h.1,
    Has-append_left P.first (flat_map (λ m. map (entry_with m) Q.first) P.null) h.0 h.2,
    Has-append_right Q.last (flat_map (λ m. map (stop_with m) P.last) Q.null) (stop_with m h.1)
        (has_flat_map (λ m. map (stop_with m) P.last) Q.null m (stop_with m h.1) null (Has-map (stop_with m) P.last h.1 h.3)),
    h.4,
    h.5,
    walk_more P.follow (cat_places P Q).follow d w follow_left n (suc i) h.0.to h.1.state h.6,
    ap (λ x. x + m) h.7,
  )

  pub reads_across : (i n m a : ℕ) (w : ℕ → ℕ) (y b z : ℕ) → Reads P d i n a w y → Reads Q d (suc (i + n)) m b w z →
      y + b ≡ w (suc (i + n)) → Reads (cat_places P Q) d i (n + suc m) a w z
  reads_across i n m a w y b z h k joined = (
    h.0,
    k.1,
    Has-append_left P.first (flat_map (λ m. map (entry_with m) Q.first) P.null) h.0 h.2,
    Has-append_left Q.last (flat_map (λ m. map (stop_with m) P.last) Q.null) k.1 k.3,
    h.4,
    h.5,
    walk_then (cat_places P Q).follow d w n (suc m) (suc i) (suc (i + n)) h.0.to h.1.state k.1.state (omega arith)
        (walk_more P.follow (cat_places P Q).follow d w follow_left n (suc i) h.0.to h.1.state h.6) (
          way_into h.1 k.0,
          follow_across h.1 k.0 h.3 k.2,
          refl,
          omega (arith, h.7, k.4, joined),
          k.5,
          walk_more Q.follow (cat_places P Q).follow d w follow_right m (suc (suc (i + n))) k.0.to k.1.state k.6,
        ),
    k.7,
  )

  module _ (k : ℕ) (p : LiesFrom k P) (q : LiesFrom (k + P.count) Q) where
    splits : IsSplit P.follow (cat_places P Q).follow P.last Q.first (λ x. x < k + P.count)
    splits y h l =
        elim (Has-append_cases P.follow (Q.follow ++ ways_between P.last Q.first) y h) [
          | inl a ↦ inl (a, (p.tos y a).1)
          | inr b ↦ elim (Has-append_cases Q.follow (ways_between P.last Q.first) y b) [
            | inl c ↦ absurd (omega (arith, (q.froms y c).0, l))
            | inr c ↦ inr (ways_of P.last Q.first y c)
          ]
        ]

    stays : (y : Way) → Has (cat_places P Q).follow y → k + P.count ≤ y.from → Has Q.follow y × (k + P.count ≤ y.to)
    stays y h l =
        elim (Has-append_cases P.follow (Q.follow ++ ways_between P.last Q.first) y h) [
          | inl a ↦ absurd (omega (arith, (p.froms y a).1, l))
          | inr b ↦ elim (Has-append_cases Q.follow (ways_between P.last Q.first) y b) [
            | inl c ↦ (c, (q.tos y c).0)
            | inr c ↦ let r = ways_of P.last Q.first y c in
                absurd (omega (arith, (p.lasts r.0 r.2).1, ap (λ (g : Way). g.from) r.4, l))
          ]
        ]

    -- all is read by Q, all is read by P, or first P reads and then Q
    abbrev pub CatCases : ℕ → ℕ → ℕ → (ℕ → ℕ) → ℕ → Type 0
    CatCases i n a w z =
        ((m : ℕ) × (b : ℕ) × Has P.null m × Reads Q d i n b w z × (m + b ≡ a))
        ⊎ (((y : ℕ) × (m : ℕ) × Reads P d i n a w y × Has Q.null m × (y + m ≡ z))
        ⊎ ((n1 : ℕ) × (n2 : ℕ) × (y : ℕ) × (b : ℕ) × (n ≡ n1 + suc n2) × Reads P d i n1 a w y × Reads Q d (suc (i + n1)) n2 b w z × (y + b ≡ w (suc (i + n1)))))

    pub reads_of_cat : (i n a : ℕ) (w : ℕ → ℕ) (z : ℕ) → Reads (cat_places P Q) d i n a w z → CatCases i n a w z
    reads_of_cat i n a w z h =
        elim (Has-append_cases P.first (flat_map (λ m. map (entry_with m) Q.first) P.null) h.0 h.2) [
          | inl f ↦ from_p f (first_cross P.follow (cat_places P Q).follow P.last Q.first (λ x. x < k + P.count) d w splits n (suc i) h.0.to h.1.state (p.firsts h.0 f).1 h.6)
          | inr f ↦ from_q (entries_of P.null Q.first h.0 f)
        ]
      where
        last_of_q : (x : ℕ) → k + P.count ≤ x → x ≡ h.1.state → Has Q.last h.1
        last_of_q x l e =
            elim (Has-append_cases Q.last (flat_map (λ m. map (stop_with m) P.last) Q.null) h.1 h.3) [
              | inl b ↦ b
              | inr b ↦ let r = stops_of Q.null P.last h.1 b in
                  absurd (omega (arith, (p.lasts r.1 r.3).1, ap (λ (g : Stop). g.state) r.4, l, e))
            ]

        in_q : (i n : ℕ) (e : Entry) → Has Q.first e → Walk (cat_places P Q).follow d w (suc i) n e.to h.1.state →
            Walk Q.follow d w (suc i) n e.to h.1.state × Has Q.last h.1
        in_q i n e f walk =
            let r = walk_stays Q.follow (cat_places P Q).follow (λ x. k + P.count ≤ x) d w stays n (suc i) e.to h.1.state (q.firsts e f).0 walk in
            (r.0, last_of_q h.1.state r.1 refl)

        from_q : (m : ℕ) × (g : Entry) × Has P.null m × Has Q.first g × (entry_with m g ≡ h.0) → CatCases i n a w z
        from_q r =
            let walk = in_q i n r.1 r.3 (rw (← r.4) at h.6) in
            inl (
              r.0,
              r.1.marks,
              r.2,
              (r.1, h.1, r.3, walk.1, refl, rw (← r.4) at h.5, walk.0, h.7),
              ap (λ (e : Entry). e.marks) r.4 ∙ h.4,
            )

        from_p : Has P.first h.0 →
            (Walk P.follow d w (suc i) n h.0.to h.1.state × (h.1.state < k + P.count)) ⊎ Crosses P.follow (cat_places P Q).follow P.last Q.first d w (suc i) n h.0.to h.1.state →
            CatCases i n a w z
        from_p f (inl r) =
            elim (Has-append_cases Q.last (flat_map (λ m. map (stop_with m) P.last) Q.null) h.1 h.3) [
              | inl b ↦ absurd (omega (arith, (q.lasts h.1 b).0, r.1))
              | inr b ↦ let s = stops_of Q.null P.last h.1 b in
                  inr (inl (
                    s.1.marks,
                    s.0,
                    (h.0, s.1, f, s.3, h.4, h.5, rw (← s.4) at r.0, refl),
                    s.2,
                    ap (λ (g : Stop). g.marks) s.4 ∙ h.7,
                  ))
            ]
        from_p f (inr c) =
            let e : suc i + c.0 ≡ suc (i + c.0) = omega arith in
            let walk = in_q (suc (i + c.0)) c.1 c.3 c.6 (rw (← e) c.10) in
            inr (inr (
              c.0,
              c.1,
              c.2.marks,
              c.3.marks,
              c.4,
              (h.0, c.2, f, c.5, h.4, h.5, c.9, refl),
              (c.3, h.1, c.6, walk.1, refl, rw (← e) c.8, walk.0, h.7),
              c.7 ∙ ap w e,
            ))

-- once more
module _ (P : Places) (d : List ℕ) where
  pub reads_once : (i n a : ℕ) (w : ℕ → ℕ) (z : ℕ) → Reads P d i n a w z → Reads (plus_places P) d i n a w z
  reads_once i n a w z h = (
    h.0,
    h.1,
    h.2,
    h.3,
    h.4,
    h.5,
    walk_more P.follow (plus_places P).follow d w (Has-append_left P.follow (ways_between P.last P.first)) n (suc i) h.0.to h.1.state h.6,
    h.7,
  )

  pub reads_again : (i n m a : ℕ) (w : ℕ → ℕ) (y b z : ℕ) → Reads P d i n a w y → Reads (plus_places P) d (suc (i + n)) m b w z →
      y + b ≡ w (suc (i + n)) → Reads (plus_places P) d i (n + suc m) a w z
  reads_again i n m a w y b z h k joined = (
    h.0,
    k.1,
    h.2,
    k.3,
    h.4,
    h.5,
    walk_then (plus_places P).follow d w n (suc m) (suc i) (suc (i + n)) h.0.to h.1.state k.1.state (omega arith)
        (walk_more P.follow (plus_places P).follow d w (Has-append_left P.follow (ways_between P.last P.first)) n (suc i) h.0.to h.1.state h.6) (
          way_into h.1 k.0,
          Has-append_right P.follow (ways_between P.last P.first) (way_into h.1 k.0) (has_between P.last P.first h.1 k.0 h.3 k.2),
          refl,
          omega (arith, h.7, k.4, joined),
          k.5,
          k.6,
        ),
    k.7,
  )

  -- read once, or once and then again
  abbrev pub PlusCases : ℕ → ℕ → ℕ → (ℕ → ℕ) → ℕ → Type 0
  PlusCases i n a w z =
      Reads P d i n a w z
      ⊎ ((n1 : ℕ) × (n2 : ℕ) × (y : ℕ) × (b : ℕ) × (n ≡ n1 + suc n2) × Reads P d i n1 a w y × Reads (plus_places P) d (suc (i + n1)) n2 b w z × (y + b ≡ w (suc (i + n1))))

  pub reads_of_plus : (i n a : ℕ) (w : ℕ → ℕ) (z : ℕ) → Reads (plus_places P) d i n a w z → PlusCases i n a w z
  reads_of_plus i n a w z h =
      go (first_cross P.follow (plus_places P).follow P.last P.first (λ x. Unit {0}) d w splits n (suc i) h.0.to h.1.state tt h.6)
    where
      splits : IsSplit P.follow (plus_places P).follow P.last P.first (λ x. Unit {0})
      splits y m u =
          elim (Has-append_cases P.follow (ways_between P.last P.first) y m) [
            | inl a ↦ inl (a, tt)
            | inr b ↦ inr (ways_of P.last P.first y b)
          ]

      go : (Walk P.follow d w (suc i) n h.0.to h.1.state × Unit {0}) ⊎ Crosses P.follow (plus_places P).follow P.last P.first d w (suc i) n h.0.to h.1.state →
          PlusCases i n a w z
      go (inl r) = inl (h.0, h.1, h.2, h.3, h.4, h.5, r.0, h.7)
      go (inr c) =
          let e : suc i + c.0 ≡ suc (i + c.0) = omega arith in
          inr (
            c.0,
            c.1,
            c.2.marks,
            c.3.marks,
            c.4,
            (h.0, c.2, h.2, c.5, h.4, h.5, c.9, refl),
            (
              c.3,
              h.1,
              c.6,
              h.3,
              refl,
              rw (← e) c.8,
              rw (← e) c.10,
              h.7,
            ),
            c.7 ∙ ap w e,
          )

-- a capture
module _ (o c : ℕ) (P : Places) (d : List ℕ) where
  pub reads_in_cap : (i n a : ℕ) (w : ℕ → ℕ) (z : ℕ) → Reads P d i n a w z → Reads (cap_places o c P) d i n (o + a) w (z + c)
  reads_in_cap i n a w z h = (
    entry_with o h.0,
    stop_with c h.1,
    Has-map (entry_with o) P.first h.0 h.2,
    Has-map (stop_with c) P.last h.1 h.3,
    ap (◌+◌ o) h.4,
    h.5,
    h.6,
    ap (λ x. x + c) h.7,
  )

  pub reads_of_cap : (i n a : ℕ) (w : ℕ → ℕ) (z : ℕ) → Reads (cap_places o c P) d i n a w z →
      (b : ℕ) × (y : ℕ) × Reads P d i n b w y × (o + b ≡ a) × (y + c ≡ z)
  reads_of_cap i n a w z h =
      let e = Has-map_cases (entry_with o) P.first h.0 h.2 in
      let s = Has-map_cases (stop_with c) P.last h.1 h.3 in (
        e.0.marks,
        s.0.marks,
        (
          e.0,
          s.0,
          e.1,
          s.1,
          refl,
          rw (← e.2) at h.5,
          subst (λ (g : Entry). Walk P.follow d w (suc i) n g.to s.0.state) (sym e.2)
              (rw (← s.2) at h.6),
          refl,
        ),
        ap (λ (g : Entry). g.marks) e.2 ∙ h.4,
        ap (λ (g : Stop). g.marks) s.2 ∙ h.7,
      )

-- one arm or the other
module _ (P Q : Places) (d : List ℕ) where
  pub reads_in_left : (i n a : ℕ) (w : ℕ → ℕ) (z : ℕ) → Reads P d i n a w z → Reads (alt_places P Q) d i n a w z
  reads_in_left i n a w z h = (
    h.0,
    h.1,
    Has-append_left P.first Q.first h.0 h.2,
    Has-append_left P.last Q.last h.1 h.3,
    h.4,
    h.5,
    walk_more P.follow (alt_places P Q).follow d w (Has-append_left P.follow Q.follow) n (suc i) h.0.to h.1.state h.6,
    h.7,
  )

  pub reads_in_right : (i n a : ℕ) (w : ℕ → ℕ) (z : ℕ) → Reads Q d i n a w z → Reads (alt_places P Q) d i n a w z
  reads_in_right i n a w z h = (
    h.0,
    h.1,
    Has-append_right P.first Q.first h.0 h.2,
    Has-append_right P.last Q.last h.1 h.3,
    h.4,
    h.5,
    walk_more Q.follow (alt_places P Q).follow d w (Has-append_right P.follow Q.follow) n (suc i) h.0.to h.1.state h.6,
    h.7,
  )

  module _ (k : ℕ) (p : LiesFrom k P) (q : LiesFrom (k + P.count) Q) where
    pub reads_of_alt : (i n a : ℕ) (w : ℕ → ℕ) (z : ℕ) → Reads (alt_places P Q) d i n a w z → Reads P d i n a w z ⊎ Reads Q d i n a w z
    reads_of_alt i n a w z h =
        elim (Has-append_cases P.first Q.first h.0 h.2) [
          | inl f ↦ let r = walk_stays P.follow (alt_places P Q).follow (λ x. x < k + P.count) d w left n (suc i) h.0.to h.1.state (p.firsts h.0 f).1 h.6 in
              elim (Has-append_cases P.last Q.last h.1 h.3) [
                | inl l ↦ inl (h.0, h.1, f, l, h.4, h.5, r.0, h.7)
                | inr l ↦ absurd (omega (arith, (q.lasts h.1 l).0, r.1))
              ]
          | inr f ↦ let r = walk_stays Q.follow (alt_places P Q).follow (λ x. k + P.count ≤ x) d w right n (suc i) h.0.to h.1.state (q.firsts h.0 f).0 h.6 in
              elim (Has-append_cases P.last Q.last h.1 h.3) [
                | inl l ↦ absurd (omega (arith, (p.lasts h.1 l).1, r.1))
                | inr l ↦ inr (h.0, h.1, f, l, h.4, h.5, r.0, h.7)
              ]
        ]
      where
        left : (y : Way) → Has (alt_places P Q).follow y → y.from < k + P.count → Has P.follow y × (y.to < k + P.count)
        left y m l =
            elim (Has-append_cases P.follow Q.follow y m) [
              | inl a ↦ (a, (p.tos y a).1)
              | inr b ↦ absurd (omega (arith, (q.froms y b).0, l))
            ]

        right : (y : Way) → Has (alt_places P Q).follow y → k + P.count ≤ y.from → Has Q.follow y × (k + P.count ≤ y.to)
        right y m l =
            elim (Has-append_cases P.follow Q.follow y m) [
              | inl a ↦ absurd (omega (arith, (p.froms y a).1, l))
              | inr b ↦ (b, (q.tos y b).0)
            ]
