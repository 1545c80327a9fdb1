-- A place whose sources have all been stepped has been read; one that was given up has its cause.
use Rattle.std.proofs.Common.{◌≡◌, ℕ, ◌≤◌, ◌<◌, ◌⊎◌, List, [], ◌∷◌, ◌++◌, length, map, inl, inr, refl, sym, ap, subst, arith, ◌∙◌}
use Rattle.std.specs.Prelude.{nat_eq, if◌then◌else◌, Bool, true, false}
use Rattle.std.proofs.lemmas.List.{append-nil, length-map}
use Rattle.span_core.specs.Lists.{Has, AreDistinct}
use Rattle.span_core.proofs.HasLaws.{Has-append_left, Has-append_cases, Has-map, Has-map_cases}
use Rattle.marked_automaton.specs.Automaton.{Automaton}
use Rattle.automaton_reading.specs.Reading.{Reach, LookUp, edges, next_sets, look_ups_asked}
use Rattle.set_table.specs.Tabled.{look_up}
use Rattle.numbered_lists.specs.Numbered.{set_at}
use Rattle.node_arena.specs.Words.{Word}
use Rattle.output_graph.specs.Forward.{mark_block}
use Rattle.output_graph.specs.Graph.{Graph, IsPast, Source, sets_of as numbers_in, source_of, sources, targets}
use Rattle.one_pass.specs.Places.{ReadingPlace, Leads, sets_met}
use Rattle.one_pass.specs.Passes.{Progress, pass, sets_of, Reaches, IsReadyAt, HasGrown, HasRead}
use Rattle.one_pass.specs.Weights.{Tells}
use Rattle.one_pass.proofs.Due.{due_asked}
use Rattle.one_pass.proofs.Sets.{Covers, next_cases, has_next}
use Rattle.one_pass.proofs.Composing.{grown_none}
use Rattle.one_pass.proofs.GraphLaws.{target_sets, whole_sets}
use Rattle.one_pass.proofs.Stepping.{Arrives, HasNext, source_edges, LeadsWith, place_edges, place_making, IsStepping, met_here, each_look_up}
use Rattle.one_pass.proofs.Telling.{held_tells}

pub no_marks : (i m : ℕ) (b : ℕ × ℕ) → m ≡ 0 → Has (mark_block i m) b → ⊥
no_marks i m b e h = none (subst (λ k. Has (mark_block i k) b) e h)
  where
    none : Has (mark_block i 0) b → ⊥
    none k = k

pub block_at : (i m : ℕ) (b : ℕ × ℕ) → Has (mark_block i m) b → b.0 ≡ i
block_at i m b h = go (nat_eq m 0) h
  where
    go : (c : Bool) → Has (let w : Word = if c then [] else (i, m) ∷ [] in w) b → b.0 ≡ i
    go true h = absurd h
    go false (inl e) = ap (λ (c : ℕ × ℕ). c.0) (sym e)
    go false (inr h) = absurd h

module _ (A : Automaton) (p : ReadingPlace) (P : Progress) where
  abbrev asked_look_ups : List LookUp
  asked_look_ups = map (λ set. let r : LookUp = record { set = set; ask = p.ask } in r) (sets_of P)

  look_ups_here : Covers (look_ups_asked A (sets_of P) (p.ask ∷ [])) asked_look_ups
  look_ups_here look_up h = Has-append_left asked_look_ups [] look_up h

  module _ (Q : Progress) (all : IsStepping A p P (sources P.graph) Q) (g : Graph) (layer : sources g ≡ targets Q.graph) (cells : g.cells ≡ Q.graph.cells) where
    abbrev R : Progress
    R = pass Q.table g Q.steps

    reach_arrives : (set : List ℕ) (w : Word) → Reaches R set w → Arrives Q set w
    reach_arrives set w h = (h.0.set, h.2, (h.0, subst (λ xs. Has xs h.0) layer h.1, refl, h.3))

    arrives_reach : (set : List ℕ) (w : Word) → Arrives Q set w → Reaches R set w
    arrives_reach set w h =
        (h.2.0, subst (λ xs. Has xs h.2.0) (sym layer) h.2.1, ap (set_at Q.table.sets) h.2.2 ∙ h.1, h.2.3)

    -- its sources have the sets of the next layer
    numbers_are : map (λ (x : Source). x.set) (sources g) ≡ numbers_in Q.graph.next
    numbers_are = ap (λ (xs : List Source). map (λ (x : Source). x.set) xs) layer ∙ target_sets Q.graph

    number_there : (x : Source) → Has (sources g) x → Has (numbers_in Q.graph.next) x.set
    number_there x h = subst (λ ns. Has ns x.set) numbers_are (Has-map (λ (x : Source). x.set) (sources g) x h)

    set_next : (set : List ℕ) → Has (sets_of R) set → HasNext Q set
    set_next set h =
        let x = Has-map_cases (λ (x : Source). set_at Q.table.sets x.set) (sources g) set h in
        (x.0.set, x.2, number_there x.0 x.1)

    next_set : (set : List ℕ) → HasNext Q set → Has (sets_of R) set
    next_set set h =
        let x = Has-map_cases (λ (x : Source). x.set) (sources g) h.0 (subst (λ ns. Has ns h.0) (sym numbers_are) h.2) in
        subst (Has (sets_of R)) (ap (set_at Q.table.sets) x.2 ∙ h.1)
        (Has-map (λ (x : Source). set_at Q.table.sets x.set) (sources g) x.0 x.1)

    same_cells : length g.cells ≡ length Q.graph.cells
    same_cells = ap length cells

    many : length (sources g) ≡ length Q.graph.next
    many = ap length layer ∙ length-map Q.graph.next (source_of Q.graph.cells)

    pub place_read : HasRead A (p ∷ []) P R
    place_read = record {
      words = λ set w. (there set w, back set w);
      sets = λ set. (set_there set, set_back set);
      table = grown;
      tells = λ r due.
          each_look_up A p P (Tells Q.table) (λ x h. held_tells Q.table all.spent.sound (look_up P.table x.set p.ask) (all.spent.holds x h)) r
          (due_asked A (sets_of P) (p ∷ []) r due);
      steps = omega (arith, all.spent.steps, all.few, place_edges A p P, same_cells, many);
      cells = omega (arith, all.spent.cells, place_edges A p P, same_cells);
      rise = omega (arith, all.rise, place_making A p P, same_cells);
    }
      where
        there : (set : List ℕ) (w : Word) → Reaches R set w → (from : List ℕ) × (u v : Word) × Reaches P from u × Leads A (p ∷ []) from v set × (u ++ v ≡ w)
        there set w h =
            let l = (all.words set w).0 (reach_arrives set w h) in (
              set_at P.table.sets l.0.set,
              l.5,
              mark_block p.at l.2.marks,
              (l.0, l.1, refl, l.6),
              (l.2, l.3, [], append-nil (mark_block p.at l.2.marks), (refl, l.4)),
              l.7,
            )

        back : (set : List ℕ) (w : Word) → (from : List ℕ) × (u v : Word) × Reaches P from u × Leads A (p ∷ []) from v set × (u ++ v ≡ w) → Reaches R set w
        back set w h =
            let x = h.3 in
            let l = h.4 in
            let v_is : mark_block p.at l.0.marks ≡ h.2 = sym (append-nil (mark_block p.at l.0.marks)) ∙ (ap (λ r. mark_block p.at l.0.marks ++ r) (sym l.4.0) ∙ l.3) in
            arrives_reach set w ((all.words set w).1 (
              x.0,
              x.1,
              l.0,
              subst (λ s. Has (edges A s p.ask) l.0) (sym x.2) l.1,
              l.4.1,
              h.1,
              x.3,
              ap (λ v. h.1 ++ v) v_is ∙ h.5,
            ))

        set_there : (set : List ℕ) → Has (sets_of R) set → Has (next_sets A (sets_of P) p.ask) set
        set_there set h =
            let l = (all.sets set).0 (set_next set h) in
            subst (Has (next_sets A (sets_of P) p.ask)) l.4
            (has_next A (sets_of P) p.ask (set_at P.table.sets l.0.set) l.2 (Has-map (λ (x : Source). set_at P.table.sets x.set) (sources P.graph) l.0 l.1) l.3)

        set_back : (set : List ℕ) → Has (next_sets A (sets_of P) p.ask) set → Has (sets_of R) set
        set_back set h =
            let c = next_cases A (sets_of P) p.ask set h in
            let x = Has-map_cases (λ (x : Source). set_at P.table.sets x.set) (sources P.graph) c.0 c.1 in
            next_set set ((all.sets set).1 (x.0, x.1, c.2, subst (λ s. Has (edges A s p.ask) c.2) (sym x.2) c.3, c.4))

        grown : HasGrown P.table Q.table (sets_met A (sets_of P) (p.ask ∷ [])) (look_ups_asked A (sets_of P) (p.ask ∷ []))
        grown = record {
          graph = all.spent.table.graph;
          limit = all.spent.table.limit;
          kept = all.spent.table.kept;
          sets = λ set h. elim (all.spent.table.sets set h) as (λ _. Has P.table.sets set ⊎ Has (sets_met A (sets_of P) (p.ask ∷ [])) set) [
            | inl old ↦ inl old
            | inr new ↦ inr (met_here A p P set new)
          ];
          look_ups = λ look_up h. elim (all.spent.table.look_ups look_up h) as (λ _. Has P.table.look_ups look_up ⊎ Has (look_ups_asked A (sets_of P) (p.ask ∷ [])) look_up) [
            | inl old ↦ inl old
            | inr new ↦ inr (look_ups_here look_up new)
          ];
          stay = all.spent.table.stay;
        }

    -- the layer that comes next is ready for a later position, or for the same where no edge has marks
    pub place_ready : (at later : ℕ) → IsReadyAt P.table P.graph at → at ≤ later →
        ((x : Source) (e : Reach) (b : ℕ × ℕ) → Has (sources P.graph) x → Has (source_edges A p P x) e → Has (mark_block p.at e.marks) b → b.0 < later) →
        (g.stepped ≡ 0) → (g.next ≡ []) → IsReadyAt R.table R.graph later
    place_ready at later r le blocks stepped next = record {
      sound = all.spent.sound;
      given = λ x h. all.given x.set (number_there x h);
      apart = subst AreDistinct (sym numbers_are ∙ whole_sets g stepped) all.apart;
      fresh = (stepped, next);
      past = past;
    }
      where
        past : IsPast (sources g) later
        past s w b h hb = by ((all.words (set_at Q.table.sets h.0.set) w).0 (reach_arrives (set_at Q.table.sets h.0.set) w (h.0, h.1, refl, h.3)))
          where
            by : LeadsWith A p P (sources P.graph) (set_at Q.table.sets h.0.set) w → b.0 < later
            by l = elim (Has-append_cases l.5 (mark_block p.at l.2.marks) b (subst (λ v. Has v b) (sym l.7) hb)) [
              | inl old ↦ let k = r.past l.0.set l.5 b (l.0, l.1, refl, l.6) old in omega (arith, k, le)
              | inr new ↦ blocks l.0 l.2 b l.1 l.3 new
            ]

  -- ---- a place that changes nothing

  -- the table tells the look-up of each set of the layer, which is one edge, without marks and to the set itself
  abbrev pub AllStay : Type 0
  AllStay =
      (x : Source) → Has (sources P.graph) x →
      Tells P.table (look_up P.table x.set p.ask) × (source_edges A p P x ≡ record { marks = 0; to = set_at P.table.sets x.set } ∷ [])

  pub stays_read : AllStay → HasRead A (p ∷ []) P P
  stays_read stays = record {
    words = λ set w. (
      λ h. (
        set,
        w,
        [],
        h,
        (
          record { marks = 0; to = set },
          subst (λ es. Has es (record { marks = 0; to = set })) (sym (subst (λ s. edges A s p.ask ≡ record { marks = 0; to = s } ∷ []) h.2 (stays h.0 h.1).1)) (inl refl),
          [],
          refl,
          (refl, refl),
        ),
        append-nil w,
      ),
      back set w,
    );
    sets = λ set. (set_there set, set_back set);
    table = grown_none P.table (sets_met A (sets_of P) (p.ask ∷ [])) (look_ups_asked A (sets_of P) (p.ask ∷ []));
    tells = λ r due. each_look_up A p P (Tells P.table) (λ x h. (stays x h).0) r (due_asked A (sets_of P) (p ∷ []) r due);
    steps = omega arith;
    cells = omega arith;
    rise = omega arith;
  }
    where
      one : (x : Source) → Has (sources P.graph) x → (e : Reach) → Has (source_edges A p P x) e → (e.marks ≡ 0) × (e.to ≡ set_at P.table.sets x.set)
      one x h e k = elim (subst (λ es. Has es e) (stays x h).1 k) as (λ _. (e.marks ≡ 0) × (e.to ≡ set_at P.table.sets x.set)) [
        | inl i ↦ (ap (λ (r : Reach). r.marks) (sym i), ap (λ (r : Reach). r.to) (sym i))
        | inr n ↦ absurd n
      ]

      back : (set : List ℕ) (w : Word) → (from : List ℕ) × (u v : Word) × Reaches P from u × Leads A (p ∷ []) from v set × (u ++ v ≡ w) → Reaches P set w
      back set w h =
          let x = h.3 in
          let l = h.4 in
          let o = one x.0 x.1 l.0 (subst (λ s. Has (edges A s p.ask) l.0) (sym x.2) l.1) in
          let v_is : [] ≡ h.2 = ap (λ r. mark_block p.at 0 ++ r) (sym l.4.0) ∙ (ap (λ m. mark_block p.at m ++ l.2) (sym o.0) ∙ l.3) in
          let same : h.1 ≡ w = sym (append-nil h.1) ∙ (ap (λ v. h.1 ++ v) v_is ∙ h.5) in
          (x.0, x.1, sym o.1 ∙ l.4.1, subst (Has x.0.words) same x.3)

      set_there : (set : List ℕ) → Has (sets_of P) set → Has (next_sets A (sets_of P) p.ask) set
      set_there set h =
          let x = Has-map_cases (λ (x : Source). set_at P.table.sets x.set) (sources P.graph) set h in
          has_next A (sets_of P) p.ask set (record { marks = 0; to = set }) h
          (subst (λ es. Has es (record { marks = 0; to = set })) (sym (subst (λ s. edges A s p.ask ≡ record { marks = 0; to = s } ∷ []) x.2 (stays x.0 x.1).1)) (inl refl))

      set_back : (set : List ℕ) → Has (next_sets A (sets_of P) p.ask) set → Has (sets_of P) set
      set_back set h =
          let c = next_cases A (sets_of P) p.ask set h in
          let x = Has-map_cases (λ (x : Source). set_at P.table.sets x.set) (sources P.graph) c.0 c.1 in
          let o = one x.0 x.1 c.2 (subst (λ s. Has (edges A s p.ask) c.2) (sym x.2) c.3) in
          subst (Has (sets_of P)) (sym o.1 ∙ c.4) (Has-map (λ (x : Source). set_at P.table.sets x.set) (sources P.graph) x.0 x.1)
