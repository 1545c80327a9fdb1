-- Automata without markers that have the same steps are read alike.
use Rattle.std.proofs.Common.{◌≡◌, ℕ, ◌+◌, ◌↔◌, List, [], ◌∷◌, ◌++◌, map, length, inl, inr, refl, sym, ap, subst, arith, ◌∙◌}
use Rattle.std.specs.Prelude.{nat_eq, ◌&&◌}
use Rattle.std.specs.FinSet as bytes
use Rattle.std.specs.List.{filter, flat_map, sum_by}
use Rattle.std.specs.Str.{bytes_eq}
use Rattle.span_core.specs.Lists.{Has}
use Rattle.span_core.proofs.HasLaws.{Has-append_cases, Has-map_cases}
use Rattle.marked_automaton.specs.declared.way.Way.{Way}
use Rattle.marked_automaton.specs.Automaton.{Automaton}
use Rattle.marked_automaton.proofs.Passing.{filter_cases, left_true, right_true}
use Rattle.automaton_reading.specs.Reading.{Reach, LookUp, byte_read, edges, is_among, next_sets, once, look_up_edges, look_up_same, look_ups_asked, set_of, ways_taken}
use Rattle.automaton_reading.proofs.Determined.{among_has, edge_way, has_set, set_has, way_edge}
use Rattle.automaton_reading.proofs.Matching.{cons_sum, has_once}
use Rattle.automaton_reading.proofs.MeasureLaws.{look_up_itself, same_look_up, set_is_up, up_same}
use Rattle.segment_filter.specs.Readings.{AlikeLaw, StepsTo}
use Rattle.segment_filter.specs.Sets.{TakesNone}
use Rattle.segment_filter.specs.Weights.{bytes_read, reading_look_ups, reading_weight, sets_asked, sets_read}
use Rattle.segment_filter.proofs.SetLaws.{edge_is}

sum_same : {X : Type 0} (v w : X → ℕ) (xs : List X) → ((x : X) → Has xs x → v x ≡ w x) → sum_by v xs ≡ sum_by w xs
sum_same v w [] h = refl
sum_same v w (x ∷ xs) h =
    let here = h x (inl refl) in
    let rest = sum_same v w xs (λ y m. h y (inr m)) in
    omega (arith, here, rest, cons_sum v x xs, cons_sum w x xs)

module _ (A B : Automaton) (a : TakesNone A) (b : TakesNone B) (starts : (p : ℕ) → Has A.starts p ↔ Has B.starts p)
    (steps : (p c q : ℕ) → StepsTo A p c q ↔ StepsTo B p c q) where
  -- what the one leads to the other leads to
  across : (X Y : Automaton) → ((p c q : ℕ) → StepsTo X p c q → StepsTo Y p c q) → (set : List ℕ) (c : ℕ) (e : Reach) (q : ℕ) →
      Has (edges X set (byte_read c)) e → Has e.to q → (r : Reach) × Has (edges Y set (byte_read c)) r × Has r.to q
  across X Y by set c e q h k =
      let y = edge_way X set c e q h k in
      let z = by y.0.from c q (y.0, y.1, refl, y.3, y.5) in
      let r = way_edge Y set c z.0 z.1 (subst (Has set) (sym z.2) y.2) z.3 in
      (r.0, r.1, subst (Has r.0.to) z.4 r.3)

  -- the one edge that there is leads to some state
  some_target : (X : Automaton) (set : List ℕ) (c : ℕ) → Has (map (λ (y : Way). y.marks) (ways_taken X set c)) 0 → (e : Reach) → edges X set (byte_read c) ≡ e ∷ [] → (q : ℕ) × Has e.to q
  some_target X set c h e is =
      let y = Has-map_cases (λ (y : Way). y.marks) (ways_taken X set c) 0 h in
      let k = filter_cases (λ (y : Way). is_among set y.from && bytes.contains y.bytes c) X.ways y.0 y.1 in
      let r = way_edge X set c y.0 k.0 (among_has set y.0.from (left_true (is_among set y.0.from) (bytes.contains y.0.bytes c) k.1))
      (right_true (is_among set y.0.from) (bytes.contains y.0.bytes c) k.1) in
      let there : Has (e ∷ []) r.0 = rw is at r.1 in
      elim there as (λ _. (q : ℕ) × Has e.to q) [ inl i ↦ (y.0.to, rw i r.3) | inr n ↦ absurd n ]

  abbrev target : Automaton → List ℕ → ℕ → List ℕ
  target X set c = set_of (map (λ (y : Way). y.to) (filter (λ (y : Way). nat_eq y.marks 0) (ways_taken X set c)))

  abbrev edge_to : List ℕ → Reach
  edge_to s = record { marks = 0; to = s }

  goes_across : (X Y : Automaton) → ((p c q : ℕ) → StepsTo X p c q → StepsTo Y p c q) → (set : List ℕ) (c : ℕ) →
      edges X set (byte_read c) ≡ edge_to (target X set c) ∷ [] → edges Y set (byte_read c) ≡ edge_to (target Y set c) ∷ [] → (z : ℕ) → Has (target X set c) z → Has (target Y set c) z
  goes_across X Y by set c x y z h =
      let r = across X Y by set c (edge_to (target X set c)) z (rw x (inl refl)) h in
      let there : Has (edge_to (target Y set c) ∷ []) r.0 = rw y at r.1 in
      elim there as (λ _. Has (target Y set c) z) [ inl i ↦ rw (← i) at r.2 | inr n ↦ absurd n ]

  edges_alike : (set : List ℕ) (c : ℕ) → edges A set (byte_read c) ≡ edges B set (byte_read c)
  edges_alike set c =
      elim (edge_is A a set c) as (λ _. edges A set (byte_read c) ≡ edges B set (byte_read c)) [
        | inl x ↦ elim (edge_is B b set c) as (λ _. edges A set (byte_read c) ≡ edges B set (byte_read c)) [
          | inl y ↦ x ∙ sym y
          | inr y ↦
              let t = some_target B set c y.1 (edge_to (target B set c)) y.0 in
              let r = across B A (λ p k q. (steps p k q).1) set c (edge_to (target B set c)) t.0 (subst (λ es. Has es (edge_to (target B set c))) (sym y.0) (inl refl)) t.1 in
              absurd (rw x at r.1)
        ]
        | inr x ↦ elim (edge_is B b set c) as (λ _. edges A set (byte_read c) ≡ edges B set (byte_read c)) [
          | inl y ↦
              let t = some_target A set c x.1 (edge_to (target A set c)) x.0 in
              let r = across A B (λ p k q. (steps p k q).0) set c (edge_to (target A set c)) t.0 (subst (λ es. Has es (edge_to (target A set c))) (sym x.0) (inl refl)) t.1 in
              absurd (rw y at r.1)
          | inr y ↦
              let same = up_same (target A set c) (target B set c) (set_is_up (map (λ (z : Way). z.to) (filter (λ (z : Way). nat_eq z.marks 0) (ways_taken A set c))))
              (set_is_up (map (λ (z : Way). z.to) (filter (λ (z : Way). nat_eq z.marks 0) (ways_taken B set c))))
              (goes_across A B (λ p k q. (steps p k q).0) set c x.0 y.0) (goes_across B A (λ p k q. (steps p k q).1) set c y.0 x.0) in
              x.0 ∙ (ap (λ s. edge_to s ∷ []) same ∙ sym y.0)
        ]
      ]

  targets_alike : (c : ℕ) (sets : List (List ℕ)) →
      flat_map (λ set. map (λ (e : Reach). e.to) (edges A set (byte_read c))) sets ≡ flat_map (λ set. map (λ (e : Reach). e.to) (edges B set (byte_read c))) sets
  targets_alike c [] = refl
  targets_alike c (s ∷ sets) =
      ap (λ es. map (λ (e : Reach). e.to) es ++ flat_map (λ set. map (λ (e : Reach). e.to) (edges A set (byte_read c))) sets) (edges_alike s c)
      ∙ ap (λ more. map (λ (e : Reach). e.to) (edges B s (byte_read c)) ++ more) (targets_alike c sets)

  next_alike : (c : ℕ) (sets : List (List ℕ)) → next_sets A sets (byte_read c) ≡ next_sets B sets (byte_read c)
  next_alike c sets = ap (once bytes_eq) (targets_alike c sets)

  sets_alike : (d : List ℕ) (sets : List (List ℕ)) → sets_asked A sets (map byte_read d) ≡ sets_asked B sets (map byte_read d)
  sets_alike [] sets = refl
  sets_alike (c ∷ d) sets =
      ap (λ more. sets ++ more) (sets_alike d (next_sets A sets (byte_read c)) ∙ ap (λ next. sets_asked B next (map byte_read d)) (next_alike c sets))

  look_ups_alike : (d : List ℕ) (sets : List (List ℕ)) → look_ups_asked A sets (map byte_read d) ≡ look_ups_asked B sets (map byte_read d)
  look_ups_alike [] sets = refl
  look_ups_alike (c ∷ d) sets =
      ap (λ more. map (λ set. let r : LookUp = record { set = set; ask = byte_read c } in r) sets ++ more)
      (look_ups_alike d (next_sets A sets (byte_read c)) ∙ ap (λ next. look_ups_asked B next (map byte_read d)) (next_alike c sets))

  -- what is asked is a byte
  look_up_byte : (d : List ℕ) (sets : List (List ℕ)) (r : LookUp) → Has (look_ups_asked A sets (map byte_read d)) r → (c : ℕ) × (r.ask ≡ byte_read c)
  look_up_byte [] sets r h = absurd h
  look_up_byte (c ∷ d) sets r h =
      elim (Has-append_cases (map (λ set. let r : LookUp = record { set = set; ask = byte_read c } in r) sets)
      (look_ups_asked A (next_sets A sets (byte_read c)) (map byte_read d)) r h) as (λ _. (c : ℕ) × (r.ask ≡ byte_read c)) [
        | inl i ↦ let s = Has-map_cases (λ set. let r : LookUp = record { set = set; ask = byte_read c } in r) sets r i in (c, sym (ap (λ (x : LookUp). x.ask) s.2))
        | inr j ↦ look_up_byte d (next_sets A sets (byte_read c)) r j
      ]

  start_alike : set_of A.starts ≡ set_of B.starts
  start_alike = up_same (set_of A.starts) (set_of B.starts) (set_is_up A.starts) (set_is_up B.starts)
      (λ z h. set_has B.starts z ((starts z).0 (has_set A.starts z h))) (λ z h. set_has A.starts z ((starts z).1 (has_set B.starts z h)))

  pub read_sets_alike : (d : List ℕ) → sets_read A d ≡ sets_read B d
  read_sets_alike d = sets_alike d (set_of A.starts ∷ []) ∙ ap (λ s. sets_asked B (s ∷ []) (map byte_read d)) start_alike

  pub read_look_ups_alike : (d : List ℕ) → bytes_read A d ≡ bytes_read B d
  read_look_ups_alike d = look_ups_alike d (set_of A.starts ∷ []) ∙ ap (λ s. look_ups_asked B (s ∷ []) (map byte_read d)) start_alike

  pub weight_alike : (d : List ℕ) → reading_weight A d ≡ reading_weight B d
  weight_alike d =
      let sets : sum_by (λ set. 1 + length set) (once bytes_eq (sets_read A d)) ≡ sum_by (λ set. 1 + length set) (once bytes_eq (sets_read B d)) =
      ap (λ ss. sum_by (λ set. 1 + length set) (once bytes_eq ss)) (read_sets_alike d) in
      let look_ups : sum_by (λ r. 1 + look_up_edges A r) (once look_up_same (bytes_read A d)) ≡ sum_by (λ r. 1 + look_up_edges B r) (once look_up_same (bytes_read B d)) =
      sum_same (λ r. 1 + look_up_edges A r) (λ r. 1 + look_up_edges B r) (once look_up_same (bytes_read A d)) edges_same
      ∙ ap (λ rs. sum_by (λ r. 1 + look_up_edges B r) (once look_up_same rs)) (read_look_ups_alike d) in
      omega (arith, sets, look_ups)
    where
      edges_same : (r : LookUp) → Has (once look_up_same (bytes_read A d)) r → 1 + look_up_edges A r ≡ 1 + look_up_edges B r
      edges_same r h =
          let c = look_up_byte d (set_of A.starts ∷ []) r (has_once look_up_same same_look_up look_up_itself (bytes_read A d) r h) in
          let e : length (edges A r.set r.ask) ≡ length (edges B r.set r.ask) =
          ap (λ k. length (edges A r.set k)) c.1 ∙ (ap length (edges_alike r.set c.0) ∙ sym (ap (λ k. length (edges B r.set k)) c.1)) in
          omega (arith, e)

  pub look_ups_count_alike : (d : List ℕ) → reading_look_ups A d ≡ reading_look_ups B d
  look_ups_count_alike d = ap (λ rs. length (once look_up_same rs)) (read_look_ups_alike d)

pub alike_law : AlikeLaw
alike_law A B a b starts steps d = (weight_alike A B a b starts steps d, look_ups_count_alike A B a b starts steps d)
