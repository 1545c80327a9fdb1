-- The places of a formula that is placed from k on have numbers from k on, below k and their count.
use Rattle.std.proofs.Common.{◌≡◌, ℕ, zero, suc, ◌+◌, ◌-◌, ◌<◌, ◌≤◌, List, ◌++◌, Option, Some, None, inl, inr, ap, arith}
use Rattle.std.specs.Prelude.{map}
use Rattle.std.specs.List.{flat_map}
use Rattle.spanner_model.specs.Captures.{VarName}
use Rattle.span_core.specs.Lists.{Has}
use Rattle.spanner_model.specs.Tree.{Tree, empty, one, cat_end, cat, alt_end, alt, rep, cap}
use Rattle.marked_automaton.specs.declared.way.Way.{Way}
use Rattle.marked_automaton.specs.declared.way.Stop.{Stop}
use Rattle.marked_automaton.specs.Automaton.{ByteClass}
use Rattle.place_automaton.specs.declared.fragment.Entry.{Entry}
use Rattle.place_automaton.specs.Places.{Places, Placed, way_into, ways_between, entry_with, stop_with, cat_places, alt_places, opt_places, plus_places, cap_places, nothing_placed, never_placed, one_placed, cat_placed, plus_placed, copies_then, at_most, repeated, placed}
use Rattle.span_core.proofs.HasLaws.{Has-append_cases, Has-map_cases}
use Rattle.marked_automaton.proofs.Passing.{flat_map_cases}

pub record LiesFrom (k : ℕ) (P : Places) : Type 0 where
  pub firsts : (e : Entry) → Has P.first e → (k ≤ e.to) × (e.to < k + P.count)
  pub lasts : (s : Stop) → Has P.last s → (k ≤ s.state) × (s.state < k + P.count)
  pub froms : (y : Way) → Has P.follow y → (k ≤ y.from) × (y.from < k + P.count)
  pub tos : (y : Way) → Has P.follow y → (k ≤ y.to) × (y.to < k + P.count)

abbrev pub LieInPlace : Placed → Type 0
LieInPlace F = (k : ℕ) → LiesFrom k (F k)

-- an entry, an end, with other marks
pub entries_of : (ms : List ℕ) (first : List Entry) (e : Entry) → Has (flat_map (λ m. map (entry_with m) first) ms) e →
    (m : ℕ) × (g : Entry) × Has ms m × Has first g × (entry_with m g ≡ e)
entries_of ms first e h =
    let a = flat_map_cases (λ m. map (entry_with m) first) ms e h in
    let b = Has-map_cases (entry_with a.0) first e a.2 in
    (a.0, b.0, a.1, b.1, b.2)

pub stops_of : (ms : List ℕ) (last : List Stop) (s : Stop) → Has (flat_map (λ m. map (stop_with m) last) ms) s →
    (m : ℕ) × (g : Stop) × Has ms m × Has last g × (stop_with m g ≡ s)
stops_of ms last s h =
    let a = flat_map_cases (λ m. map (stop_with m) last) ms s h in
    let b = Has-map_cases (stop_with a.0) last s a.2 in
    (a.0, b.0, a.1, b.1, b.2)

pub ways_of : (last : List Stop) (first : List Entry) (y : Way) → Has (ways_between last first) y →
    (s : Stop) × (e : Entry) × Has last s × Has first e × (way_into s e ≡ y)
ways_of last first y h =
    let a = flat_map_cases (λ s. map (way_into s) first) last y h in
    let b = Has-map_cases (way_into a.0) first y a.2 in
    (a.0, b.0, a.1, b.1, b.2)

pub cat_lies : (k : ℕ) (P Q : Places) → LiesFrom k P → LiesFrom (k + P.count) Q → LiesFrom k (cat_places P Q)
cat_lies k P Q p q = record { firsts = firsts; lasts = lasts; froms = froms; tos = tos }
  where
    left : (x : ℕ) → (k ≤ x) × (x < k + P.count) → (k ≤ x) × (x < k + (P.count + Q.count))
    left x h = (h.0, omega (arith, h.1))

    right : (x : ℕ) → (k + P.count ≤ x) × (x < k + P.count + Q.count) → (k ≤ x) × (x < k + (P.count + Q.count))
    right x h = (omega (arith, h.0), omega (arith, h.1))

    moved : (x y : ℕ) → x ≡ y → (k ≤ x) × (x < k + (P.count + Q.count)) → (k ≤ y) × (y < k + (P.count + Q.count))
    moved x y e h = rw (← e) h

    firsts : (e : Entry) → Has (cat_places P Q).first e → (k ≤ e.to) × (e.to < k + (P.count + Q.count))
    firsts e h =
        elim (Has-append_cases P.first (flat_map (λ m. map (entry_with m) Q.first) P.null) e h) [
          | inl a ↦ left e.to (p.firsts e a)
          | inr b ↦ let r = entries_of P.null Q.first e b in
              moved r.1.to e.to (ap (λ (g : Entry). g.to) r.4) (right r.1.to (q.firsts r.1 r.3))
        ]

    lasts : (s : Stop) → Has (cat_places P Q).last s → (k ≤ s.state) × (s.state < k + (P.count + Q.count))
    lasts s h =
        elim (Has-append_cases Q.last (flat_map (λ m. map (stop_with m) P.last) Q.null) s h) [
          | inl a ↦ right s.state (q.lasts s a)
          | inr b ↦ let r = stops_of Q.null P.last s b in
              moved r.1.state s.state (ap (λ (g : Stop). g.state) r.4) (left r.1.state (p.lasts r.1 r.3))
        ]

    froms : (y : Way) → Has (cat_places P Q).follow y → (k ≤ y.from) × (y.from < k + (P.count + Q.count))
    froms y h =
        elim (Has-append_cases P.follow (Q.follow ++ ways_between P.last Q.first) y h) [
          | inl a ↦ left y.from (p.froms y a)
          | inr b ↦ elim (Has-append_cases Q.follow (ways_between P.last Q.first) y b) [
            | inl c ↦ right y.from (q.froms y c)
            | inr c ↦ let r = ways_of P.last Q.first y c in
                moved r.0.state y.from (ap (λ (g : Way). g.from) r.4) (left r.0.state (p.lasts r.0 r.2))
          ]
        ]

    tos : (y : Way) → Has (cat_places P Q).follow y → (k ≤ y.to) × (y.to < k + (P.count + Q.count))
    tos y h =
        elim (Has-append_cases P.follow (Q.follow ++ ways_between P.last Q.first) y h) [
          | inl a ↦ left y.to (p.tos y a)
          | inr b ↦ elim (Has-append_cases Q.follow (ways_between P.last Q.first) y b) [
            | inl c ↦ right y.to (q.tos y c)
            | inr c ↦ let r = ways_of P.last Q.first y c in
                moved r.1.to y.to (ap (λ (g : Way). g.to) r.4) (right r.1.to (q.firsts r.1 r.3))
          ]
        ]

pub alt_lies : (k : ℕ) (P Q : Places) → LiesFrom k P → LiesFrom (k + P.count) Q → LiesFrom k (alt_places P Q)
alt_lies k P Q p q = record {
  firsts = λ e h. elim (Has-append_cases P.first Q.first e h) [ inl a ↦ left e.to (p.firsts e a) | inr b ↦ right e.to (q.firsts e b) ];
  lasts = λ s h. elim (Has-append_cases P.last Q.last s h) [ inl a ↦ left s.state (p.lasts s a) | inr b ↦ right s.state (q.lasts s b) ];
  froms = λ y h. elim (Has-append_cases P.follow Q.follow y h) [ inl a ↦ left y.from (p.froms y a) | inr b ↦ right y.from (q.froms y b) ];
  tos = λ y h. elim (Has-append_cases P.follow Q.follow y h) [ inl a ↦ left y.to (p.tos y a) | inr b ↦ right y.to (q.tos y b) ];
}
  where
    left : (x : ℕ) → (k ≤ x) × (x < k + P.count) → (k ≤ x) × (x < k + (P.count + Q.count))
    left x h = (h.0, omega (arith, h.1))

    right : (x : ℕ) → (k + P.count ≤ x) × (x < k + P.count + Q.count) → (k ≤ x) × (x < k + (P.count + Q.count))
    right x h = (omega (arith, h.0), omega (arith, h.1))

pub opt_lies : (k : ℕ) (P : Places) → LiesFrom k P → LiesFrom k (opt_places P)
opt_lies k P p = record { firsts = p.firsts; lasts = p.lasts; froms = p.froms; tos = p.tos }

pub plus_lies : (k : ℕ) (P : Places) → LiesFrom k P → LiesFrom k (plus_places P)
plus_lies k P p = record {
  firsts = p.firsts;
  lasts = p.lasts;
  froms = λ y h. elim (Has-append_cases P.follow (ways_between P.last P.first) y h) [
    | inl a ↦ p.froms y a
    | inr b ↦ let r = ways_of P.last P.first y b in
        rw (← (ap (λ (g : Way). g.from) r.4)) (p.lasts r.0 r.2)
  ];
  tos = λ y h. elim (Has-append_cases P.follow (ways_between P.last P.first) y h) [
    | inl a ↦ p.tos y a
    | inr b ↦ let r = ways_of P.last P.first y b in
        rw (← (ap (λ (g : Way). g.to) r.4)) (p.firsts r.1 r.3)
  ];
}

pub cap_lies : (o c k : ℕ) (P : Places) → LiesFrom k P → LiesFrom k (cap_places o c P)
cap_lies o c k P p = record {
  firsts = λ e h. let r = Has-map_cases (entry_with o) P.first e h in
      rw (← (ap (λ (g : Entry). g.to) r.2)) (p.firsts r.0 r.1);
  lasts = λ s h. let r = Has-map_cases (stop_with c) P.last s h in
      rw (← (ap (λ (g : Stop). g.state) r.2)) (p.lasts r.0 r.1);
  froms = p.froms;
  tos = p.tos;
}

pub nothing_lies : LieInPlace nothing_placed
nothing_lies k = record { firsts = λ e h. absurd h; lasts = λ s h. absurd h; froms = λ y h. absurd h; tos = λ y h. absurd h }

pub never_lies : LieInPlace never_placed
never_lies k = record { firsts = λ e h. absurd h; lasts = λ s h. absurd h; froms = λ y h. absurd h; tos = λ y h. absurd h }

one_at : (k x : ℕ) → k ≡ x → (k ≤ x) × (x < k + 1)
one_at k x e = (omega arith, omega arith)

pub one_lies : (set : ByteClass) → LieInPlace (one_placed set)
one_lies set k = record {
  firsts = λ e h. elim h [ inl a ↦ one_at k e.to (ap (λ (g : Entry). g.to) a) | inr b ↦ absurd b ];
  lasts = λ s h. elim h [ inl a ↦ one_at k s.state (ap (λ (g : Stop). g.state) a) | inr b ↦ absurd b ];
  froms = λ y h. absurd h;
  tos = λ y h. absurd h;
}

pub copies_lie : (n : ℕ) (F G : Placed) → LieInPlace F → LieInPlace G → LieInPlace (copies_then n F G)
copies_lie zero F G f g = g
copies_lie (suc n) F G f g = λ k. cat_lies k (F k) (copies_then n F G (k + (F k).count)) (f k) (copies_lie n F G f g (k + (F k).count))

pub at_most_lie : (n : ℕ) (F : Placed) → LieInPlace F → LieInPlace (at_most n F)
at_most_lie zero F f = nothing_lies
at_most_lie (suc n) F f = λ k. opt_lies k (cat_placed F (at_most n F) k) (cat_lies k (F k) (at_most n F (k + (F k).count)) (f k) (at_most_lie n F f (k + (F k).count)))

pub repeated_lie : (n : ℕ) (most : Option ℕ) (F : Placed) → LieInPlace F → LieInPlace (repeated n most F)
repeated_lie zero None F f = λ k. opt_lies k (plus_places (F k)) (plus_lies k (F k) (f k))
repeated_lie (suc n) None F f = copies_lie n F (plus_placed F) f (λ k. plus_lies k (F k) (f k))
repeated_lie zero (Some most) F f = copies_lie zero F (at_most (most - zero) F) f (at_most_lie (most - zero) F f)
repeated_lie (suc n) (Some most) F f = copies_lie (suc n) F (at_most (most - suc n) F) f (at_most_lie (most - suc n) F f)

module _ (opening closing : VarName → ℕ) where
  pub places_lie : (f : Tree) → LieInPlace (placed opening closing f)
  places_lie empty = nothing_lies
  places_lie (one set) = one_lies set
  places_lie cat_end = nothing_lies
  places_lie (cat f rest) = λ k. cat_lies k (placed opening closing f k) (placed opening closing rest (k + (placed opening closing f k).count))
      (places_lie f k) (places_lie rest (k + (placed opening closing f k).count))
  places_lie alt_end = never_lies
  places_lie (alt f rest) = λ k. alt_lies k (placed opening closing f k) (placed opening closing rest (k + (placed opening closing f k).count))
      (places_lie f k) (places_lie rest (k + (placed opening closing f k).count))
  places_lie (rep f least most) = repeated_lie least most (placed opening closing f) (places_lie f)
  places_lie (cap x f) = λ k. cap_lies (opening x) (closing x) k (placed opening closing f k) (places_lie f k)
