-- An automaton of the states that lie between a start and an end reduces the whole, and each of its states is useful.
use Rattle.std.proofs.Common.{◌≡◌, ℕ, zero, suc, ◌<◌, ◌↔◌, Bool, false, List, length, get_or, Option, Some, None, refl, sym, ap, subst, arith, ◌∙◌}
use Rattle.std.specs.List.{filter_map}
use Rattle.span_core.specs.Lists.{Has}
use Rattle.span_core.proofs.HasLaws.{Has-map, Has-map_cases}
use Rattle.marked_automaton.specs.declared.reach.Edge.{Edge}
use Rattle.marked_automaton.specs.declared.way.Way.{Way}
use Rattle.marked_automaton.specs.declared.way.Stop.{Stop}
use Rattle.marked_automaton.specs.Automaton.{Automaton, IsMarked, IsWhole, IsBlockOf, HasByte, ByteClass, idle_way}
use Rattle.marked_automaton.specs.Inside.{flagged, graph_of}
use Rattle.marked_automaton.specs.Reach.{IsFlagged, Reaches, ReachesIn}
use Rattle.marked_automaton.specs.Reduct.{IsReachedIn, IsReduct, IsUseful, Knows, LeadsToEndIn}
use Rattle.marked_automaton.specs.Trimmed.{IsBetween, back_edge_of, back_edges_of, count_set, edge_of, edges_of, kept_flags, moved_stop, moved_way, number_of, numbered, states_of, stop_at, trimmed, way_between}
use Rattle.marked_automaton.proofs.Filtered.{kept_place, kept_origin, kept_known, kept_told, kept_from, kept_apart, Has-kept, Has-kept_from, kept_no_more}
use Rattle.marked_automaton.proofs.Flags.{is_flagged, flagged_is, flagged_within}
use Rattle.marked_automaton.proofs.Listed.{some_same}
use Rattle.marked_automaton.proofs.Numbers.{count_le, kept_flag, kept_flags_len, number_known, number_one, number_onto, number_tells, numbered_len}
use Rattle.marked_automaton.proofs.Growing.{flagged_below}

-- what a moved way and a moved end are
between_tells : (o p : Option ℕ) (y x : Way) → way_between o p y ≡ Some x →
    (o ≡ Some x.from) × (p ≡ Some x.to) × (x.marks ≡ y.marks) × (x.bytes ≡ y.bytes)
between_tells None p y x e = absurd (cc)
between_tells (Some a) None y x e = absurd (cc)
between_tells (Some a) (Some b) y x e =
    let made : Way = record { from = a; marks = y.marks; bytes = y.bytes; to = b } in
    let same : made ≡ x = some_same made x e in (
      ap (λ (z : Way). Some z.from) same,
      ap (λ (z : Way). Some z.to) same,
      ap (λ (z : Way). z.marks) (sym same),
      ap (λ (z : Way). z.bytes) (sym same),
    )

way_is_between : (o p : Option ℕ) (a b : ℕ) (y : Way) → o ≡ Some a → p ≡ Some b →
    way_between o p y ≡ Some (record { from = a; marks = y.marks; bytes = y.bytes; to = b })
way_is_between o p a b y e f = ap (λ o. way_between o p y) e ∙ ap (λ p. way_between (Some a) p y) f

at_tells : (o : Option ℕ) (y x : Stop) → stop_at o y ≡ Some x → (o ≡ Some x.state) × (x.marks ≡ y.marks)
at_tells None y x e = absurd (cc)
at_tells (Some a) y x e =
    let made : Stop = record { state = a; marks = y.marks } in
    let same : made ≡ x = some_same made x e in
    (ap (λ (z : Stop). Some z.state) same, ap (λ (z : Stop). z.marks) (sym same))

stop_is_at : (o : Option ℕ) (a : ℕ) (y : Stop) → o ≡ Some a → stop_at o y ≡ Some (record { state = a; marks = y.marks })
stop_is_at o a y e = ap (λ o. stop_at o y) e

module _ (B : Automaton) where
  -- what is reached, in the words of edges
  reached_by_edges : (n p : ℕ) → IsReachedIn B n p → ReachesIn (edges_of B.ways) B.starts n p
  reached_by_edges zero p h = h
  reached_by_edges (suc n) p h = (edge_of h.0, Has-map edge_of B.ways h.0 h.1, reached_by_edges n h.0.from h.2, h.3)

module _ (B : Automaton) (whole : IsWhole B) (useful idle : List Bool) (len : length useful ≡ B.states) (len_idle : length useful ≡ length idle)
    (idle_is : B.idle ≡ flagged 0 idle) (exactly : (p : ℕ) → IsFlagged useful p ↔ IsBetween B.starts B.ways B.stops p) where
  abbrev numbers : List (Option ℕ)
  numbers = numbered 0 useful

  abbrev f : ℕ → Option ℕ
  f = number_of numbers

  abbrev A : Automaton
  A = trimmed B useful idle

  known_between : (b : ℕ) → Knows f b → IsBetween B.starts B.ways B.stops b
  known_between b k = (exactly b).0 (number_tells 0 useful b k.0 k.1).0

  between_known : (b : ℕ) → IsBetween B.starts B.ways B.stops b → Knows f b
  between_known b h = number_known 0 useful b ((exactly b).1 h)

  -- one step before, and one step on
  leads_before : (y : Way) → Has B.ways y → Reaches (back_edges_of B.ways) (states_of B.stops) y.to → Reaches (back_edges_of B.ways) (states_of B.stops) y.from
  leads_before y h r = (suc r.0, (back_edge_of y, Has-map back_edge_of B.ways y h, r.1, refl))

  reaches_on : (y : Way) → Has B.ways y → Reaches (edges_of B.ways) B.starts y.from → Reaches (edges_of B.ways) B.starts y.to
  reaches_on y h r = (suc r.0, (edge_of y, Has-map edge_of B.ways y h, r.1, refl))

  moved_tells : (y x : Way) → moved_way numbers y ≡ Some x → (f y.from ≡ Some x.from) × (f y.to ≡ Some x.to) × (x.marks ≡ y.marks) × (x.bytes ≡ y.bytes)
  moved_tells y x e = between_tells (f y.from) (f y.to) y x e

  idle_same : (b a : ℕ) → f b ≡ Some a → get_or (kept_flags useful idle) a false ≡ get_or idle b false
  idle_same b a e = kept_flag 0 useful idle b a a len_idle e (omega arith)

  pub trimmed_reduct : IsReduct (trimmed B useful idle) B (number_of (numbered 0 useful)) (kept_place (moved_way (numbered 0 useful)) B.ways)
      (λ b k. kept_origin (moved_stop (numbered 0 useful)) B.stops k)
  trimmed_reduct = record {
    from_states = λ b k. omega (arith, flagged_below useful b (number_tells 0 useful b k.0 k.1).0, len);
    to_states = λ b a e. omega (arith, (number_tells 0 useful b a e).2);
    onto = λ a l. number_onto 0 useful a (omega arith) (omega (arith, l));
    starts_there = λ b a h e. Has-kept f B.starts b a h e;
    starts_back = λ a h. Has-kept_from f B.starts a h;
    knows_ends = λ b m way h.
        between_known b ((way.0, reached_by_edges B way.0 b way.1), (0, Has-map (λ (x : Stop). x.state) B.stops (record { state = b; marks = m }) h));
    knows_before = λ y h way to.
        between_known y.from ((way.0, reached_by_edges B way.0 y.from way.1), leads_before y h (known_between y.to to).1);
    ways_known = λ k y at. (
      (λ known.
          let r = kept_told (moved_way numbers) B.ways k y known.0 at known.1 in
          let t = moved_tells y r.0 r.1 in
          ((r.0.from, t.0), (r.0.to, t.1))),
      (λ known.
          let r = kept_known (moved_way numbers) B.ways k y (record { from = known.0.0; marks = y.marks; bytes = y.bytes; to = known.1.0 }) at
          (way_is_between (f y.from) (f y.to) known.0.0 known.1.0 y known.0.1 known.1.1) in
          (r.0, r.1)),
    );
    ways_there = λ k y h at e.
        let r = kept_told (moved_way numbers) B.ways k y h at e in
        let t = moved_tells y r.0 r.1 in
        (r.0, r.2, t.2, t.0, t.1, λ c byte. subst (λ (s : ByteClass). HasByte s c) (sym t.3) byte);
    ways_back = λ b h c x at e byte.
        let r = kept_from (moved_way numbers) B.ways h x at in
        let t = moved_tells r.0 x r.2 in (
          kept_origin (moved_way numbers) B.ways h,
          r.0,
          r.1,
          number_one 0 useful r.0.from b x.from t.0 e,
          subst (λ (s : ByteClass). HasByte s c) t.3 byte,
          r.3,
        );
    ends_back = λ b a m e h.
        Has-kept (moved_stop numbers) B.stops (record { state = b; marks = m }) (record { state = a; marks = m }) h
        (stop_is_at (f b) a (record { state = b; marks = m }) e);
    ends_there = λ b a k x e get end.
        let r = kept_from (moved_stop numbers) B.stops k x get in
        let t = at_tells (f r.0.state) r.0 x r.2 in
        (r.0, r.1, number_one 0 useful r.0.state b a (t.0 ∙ ap Some end) e, sym t.1);
    ends_apart = λ b a k l x y e getx endx gety endy same. kept_apart (moved_stop numbers) B.stops k l x y getx gety same;
    idles = λ b a e.
        let same = idle_same b a e in (
          (λ h. subst (λ (s : List ℕ). Has s b) (sym idle_is) (is_flagged idle b (sym same ∙ flagged_is (kept_flags useful idle) a h))),
          (λ h. is_flagged (kept_flags useful idle) a (same ∙ flagged_is idle b (subst (λ (s : List ℕ). Has s b) idle_is h))),
        );
  }

  -- the moved way is there
  way_there : (y : Way) (a b : ℕ) → Has B.ways y → f y.from ≡ Some a → f y.to ≡ Some b →
      Has A.ways (record { from = a; marks = y.marks; bytes = y.bytes; to = b })
  way_there y a b h from to =
      Has-kept (moved_way numbers) B.ways y (record { from = a; marks = y.marks; bytes = y.bytes; to = b }) h (way_is_between (f y.from) (f y.to) a b y from to)

  -- by kept states alone
  reached_there : (n b a : ℕ) → ReachesIn (edges_of B.ways) B.starts n b → Reaches (back_edges_of B.ways) (states_of B.stops) b → f b ≡ Some a → IsReachedIn A n a
  reached_there zero b a h leads e = Has-kept f B.starts b a h e
  reached_there (suc n) b a h leads e =
      let y = Has-map_cases edge_of B.ways h.0 h.1 in
      let from : y.0.from ≡ h.0.from = ap (λ (e : Edge). e.from) y.2 in
      let to : y.0.to ≡ b = ap (λ (e : Edge). e.to) y.2 ∙ h.3 in
      let way = subst (λ q. ReachesIn (edges_of B.ways) B.starts n q) (sym from) h.2 in
      let before = leads_before y.0 y.1 (subst (Reaches (back_edges_of B.ways) (states_of B.stops)) (sym to) leads) in
      let known = between_known y.0.from ((n, way), before) in (
        record { from = known.0; marks = y.0.marks; bytes = y.0.bytes; to = a },
        way_there y.0 known.0 a y.1 known.1 (ap f to ∙ e),
        reached_there n y.0.from known.0 way before known.1,
        refl,
      )

  leads_there : (n b a : ℕ) → ReachesIn (back_edges_of B.ways) (states_of B.stops) n b → Reaches (edges_of B.ways) B.starts b → f b ≡ Some a → LeadsToEndIn A n a
  leads_there zero b a h way e =
      let x = Has-map_cases (λ (x : Stop). x.state) B.stops b h in
      (x.0.marks, Has-kept (moved_stop numbers) B.stops x.0 (record { state = a; marks = x.0.marks }) x.1 (stop_is_at (f x.0.state) a x.0 (ap f x.2 ∙ e)))
  leads_there (suc n) b a h way e =
      let y = Has-map_cases back_edge_of B.ways h.0 h.1 in
      let to : y.0.to ≡ h.0.from = ap (λ (e : Edge). e.from) y.2 in
      let from : y.0.from ≡ b = ap (λ (e : Edge). e.to) y.2 ∙ h.3 in
      let leads = subst (λ q. ReachesIn (back_edges_of B.ways) (states_of B.stops) n q) (sym to) h.2 in
      let on = reaches_on y.0 y.1 (subst (Reaches (edges_of B.ways) B.starts) (sym from) way) in
      let known = between_known y.0.to (on, (n, leads)) in (
        record { from = a; marks = y.0.marks; bytes = y.0.bytes; to = known.0 },
        way_there y.0 a known.0 y.1 (ap f from ∙ e) known.1,
        refl,
        leads_there n y.0.to known.0 leads on known.1,
      )

  pub trimmed_useful : (p : ℕ) → p < count_set useful → IsUseful (trimmed B useful idle) p
  trimmed_useful p l =
      let b = number_onto 0 useful p (omega arith) (omega (arith, l)) in
      let between = known_between b.0 (p, b.1) in (
        (between.0.0, reached_there between.0.0 b.0 p between.0.1 between.1 b.1),
        (between.1.0, leads_there between.1.0 b.0 p between.1.1 between.0 b.1),
      )

  below : (b a : ℕ) → f b ≡ Some a → a < count_set useful
  below b a e = omega (arith, (number_tells 0 useful b a e).2)

  trimmed_whole : IsWhole (trimmed B useful idle)
  trimmed_whole = record {
    starts = λ p h. let r = Has-kept_from f B.starts p h in below r.0 p r.2;
    froms = λ y h. let r = Has-kept_from (moved_way numbers) B.ways y h in below r.0.from y.from (moved_tells r.0 y r.2).0;
    tos = λ y h. let r = Has-kept_from (moved_way numbers) B.ways y h in below r.0.to y.to (moved_tells r.0 y r.2).1;
    stops = λ x h. let r = Has-kept_from (moved_stop numbers) B.stops x h in below r.0.state x.state (at_tells (f r.0.state) r.0 x r.2).0;
    idles = λ p h. omega (arith, flagged_within (kept_flags useful idle) p h, kept_flags_len useful idle len_idle);
  }

  pub trimmed_marked : (names : List (List ℕ)) → IsMarked (record { names = names; graph = B }) → IsMarked (record { names = names; graph = trimmed B useful idle })
  trimmed_marked names m = record {
    few_states = omega (arith, count_le useful, len, m.few_states);
    few_ways = omega (arith, kept_no_more (moved_way numbers) B.ways, m.few_ways);
    whole = trimmed_whole;
    way_marks = λ y h.
        let r = Has-kept_from (moved_way numbers) B.ways y h in
        subst (IsBlockOf (length names)) (sym (moved_tells r.0 y r.2).2) (m.way_marks r.0 r.1);
    stop_marks = λ x h.
        let r = Has-kept_from (moved_stop numbers) B.stops x h in
        subst (IsBlockOf (length names)) (sym (at_tells (f r.0.state) r.0 x r.2).1) (m.stop_marks r.0 r.1);
    some_byte = λ y h none.
        let r = Has-kept_from (moved_way numbers) B.ways y h in
        m.some_byte r.0 r.1 (sym (moved_tells r.0 y r.2).3 ∙ none);
    idle_ways = λ p h.
        let b = number_onto 0 useful p (omega arith) (omega (arith, trimmed_whole.idles p h)) in
        let idle_b = (trimmed_reduct.idles b.0 p b.1).0 h in
        way_there (idle_way b.0) p p (m.idle_ways b.0 idle_b) b.1 b.1;
  }

-- the parts that were made are those of the trimmed automaton
pub trim_graph : (B : Automaton) (useful idle : List Bool) (u u2 i : List Bool) (numbers : List (Option ℕ)) (count : ℕ) (starts starts2 : List ℕ)
    (ways ways2 : List Way) (stops stops2 : List Stop) (idle2 : List Bool) → u ≡ useful → numbers ≡ numbered 0 u → count ≡ count_set u →
    starts ≡ B.starts → ways ≡ B.ways → stops ≡ B.stops → u2 ≡ useful → i ≡ idle →
    starts2 ≡ filter_map (number_of numbers) starts → ways2 ≡ filter_map (moved_way numbers) ways → stops2 ≡ filter_map (moved_stop numbers) stops →
    idle2 ≡ kept_flags u2 i → graph_of count starts2 ways2 stops2 idle2 ≡ trimmed B useful idle
trim_graph B useful idle u u2 i numbers count starts starts2 ways ways2 stops stops2 idle2 at_u at_numbers at_count at_starts at_ways at_stops at_u2 at_i made_starts made_ways made_stops made_idle =
    let n : numbers ≡ numbered 0 useful = at_numbers ∙ ap (numbered 0) at_u in
    let c : count ≡ count_set useful = at_count ∙ ap count_set at_u in
    let s : starts2 ≡ filter_map (number_of (numbered 0 useful)) B.starts =
    made_starts ∙ (ap (λ (m : List (Option ℕ)). filter_map (number_of m) starts) n ∙ ap (filter_map (number_of (numbered 0 useful))) at_starts) in
    let w : ways2 ≡ filter_map (moved_way (numbered 0 useful)) B.ways =
    made_ways ∙ (ap (λ (m : List (Option ℕ)). filter_map (moved_way m) ways) n ∙ ap (filter_map (moved_way (numbered 0 useful))) at_ways) in
    let t : stops2 ≡ filter_map (moved_stop (numbered 0 useful)) B.stops =
    made_stops ∙ (ap (λ (m : List (Option ℕ)). filter_map (moved_stop m) stops) n ∙ ap (filter_map (moved_stop (numbered 0 useful))) at_stops) in
    let f : flagged 0 idle2 ≡ flagged 0 (kept_flags useful idle) =
    ap (flagged 0) (made_idle ∙ (ap (λ (x : List Bool). kept_flags x i) at_u2 ∙ ap (kept_flags useful) at_i)) in
    λ k. record { states = c k; starts = s k; ways = w k; stops = t k; idle = f k }

-- the states that were found, in the words of the automaton
pub between_same : (B : Automaton) (useful : List Bool) (starts : List ℕ) (ways : List Way) (stops : List Stop) → starts ≡ B.starts → ways ≡ B.ways → stops ≡ B.stops →
    ((p : ℕ) → IsFlagged useful p ↔ IsBetween starts ways stops p) → (p : ℕ) → IsFlagged useful p ↔ IsBetween B.starts B.ways B.stops p
between_same B useful starts ways stops a b c h p =
    subst (λ (x : List Stop). IsFlagged useful p ↔ IsBetween B.starts B.ways x p) c
    (subst (λ (x : List Way). IsFlagged useful p ↔ IsBetween B.starts x stops p) b (subst (λ (x : List ℕ). IsFlagged useful p ↔ IsBetween x ways stops p) a (h p)))

pub numbers_length : (useful u : List Bool) (numbers : List (Option ℕ)) (n : ℕ) → u ≡ useful → numbers ≡ numbered 0 u → length useful ≡ n → length numbers ≡ n
numbers_length useful u ns n at_u at_numbers len = ap length at_numbers ∙ (numbered_len 0 u ∙ (ap length at_u ∙ len))
