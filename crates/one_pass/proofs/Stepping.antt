-- One place: the sources of the layer are stepped one after another.
use Rattle.std.proofs.Common.{◌≡◌, ℕ, suc, ◌+◌, ◌*◌, ◌≤◌, ◌<◌, ◌⊎◌, List, [], ◌∷◌, ◌++◌, length, map, inl, inr, refl, sym, ap, subst, arith, ◌∙◌, append_assoc, length-append}
use Rattle.std.specs.Prelude.{◌↔◌}
use Rattle.std.specs.List.{sum_by}
use Rattle.std.specs.Str.{bytes_eq}
use Rattle.std.proofs.lemmas.List.{append-nil, length-map}
use Rattle.std.proofs.lemmas.List.Sums.{sum_by-append}
use Rattle.span_core.specs.Lists.{Has, AreDistinct}
use Rattle.span_core.proofs.HasLaws.{Has-append_left, Has-append_right, Has-append_cases, Has-map, Has-map_cases}
use Rattle.span_core.specs.declared.edge.Edge.{Edge}
use Rattle.marked_automaton.specs.Automaton.{Automaton, size}
use Rattle.automaton_reading.specs.Reading.{Question, byte_read, rest_taken, ended, Reach, LookUp, edges, next_sets, once as once_each, look_up_edges, look_up_same, look_ups_asked}
use Rattle.automaton_reading.proofs.Matching.{cons_sum, once_has}
use Rattle.automaton_reading.proofs.MeasureLaws.{bytes_itself, look_up_itself, same_bytes, same_look_up}
use Rattle.set_table.specs.Tabled.{HasEdges, IsTabled, Tabled, edge_named, look_up, look_ups_weight, once_asked, reached, weight}
use Rattle.numbered_lists.specs.Numbered.{set_at}
use Rattle.set_table.proofs.OnceLaws.{HoldsOnce, holds_once, once_asked_apart, once_set, once_sets_count, once_stay, once_was}
use Rattle.node_arena.specs.Words.{Word}
use Rattle.output_graph.specs.Forward.{mark_block}
use Rattle.output_graph.specs.Graph.{Brings, Graph, HasWord, IsCost, IsStepped, LeadsTo, Source, sets_of as numbers_in, sources, targets}
use Rattle.output_graph.specs.Sound.{edges_of}
use Rattle.one_pass.specs.Turned.{HasLookedUp}
use Rattle.one_pass.specs.Places.{ReadingPlace, edges_read, sets_met, sets_on}
use Rattle.one_pass.specs.Passes.{Progress, pass, sets_of, stop, IsReadyAt, HasGrown, HasStoppedAt, IsExcess}
use Rattle.one_pass.specs.Making.{edges_to, making_of, making_read}
use Rattle.one_pass.proofs.GraphLaws.{word_number}
use Rattle.one_pass.proofs.Making.{leads_once, led_twice, lone_edge, making_step}
use Rattle.one_pass.proofs.Sets.{Covers, has_next, sum_covers, sum_map}
use Rattle.one_pass.proofs.Composing.{grown_more, grown_named, on_met}

-- a set of the next layer, and a word of it
abbrev pub Arrives : Progress → List ℕ → Word → Type 0
Arrives Q set w = (s : ℕ) × (set_at Q.table.sets s ≡ set) × HasWord (targets Q.graph) s w

abbrev pub HasNext : Progress → List ℕ → Type 0
HasNext Q set = (s : ℕ) × (set_at Q.table.sets s ≡ set) × Has (numbers_in Q.graph.next) s

module _ (A : Automaton) (p : ReadingPlace) (P : Progress) where
  -- the edges of a source
  abbrev pub source_edges : Source → List Reach
  source_edges x = edges A (set_at P.table.sets x.set) p.ask

  -- an edge of one of these sources leads to the set
  abbrev pub LeadsOn : List Source → List ℕ → Type 0
  LeadsOn done set = (x : Source) × Has done x × (e : Reach) × Has (source_edges x) e × (e.to ≡ set)

  -- and makes the word
  abbrev pub LeadsWith : List Source → List ℕ → Word → Type 0
  LeadsWith done set w =
      (x : Source) × Has done x × (e : Reach) × Has (source_edges x) e × (e.to ≡ set)
      × (u : Word) × Has x.words u × (u ++ mark_block p.at e.marks ≡ w)

  abbrev pub edges_by : List Source → ℕ
  edges_by done = sum_by (λ (x : Source). length (source_edges x)) done

  -- the making edges of these sources
  abbrev pub making_by : List Source → ℕ
  making_by done = sum_by (λ (x : Source). making_of A (sets_of P) p.ask (set_at P.table.sets x.set)) done

  -- these sources have been asked, and the graph has taken what came
  pub record IsSpending (done : List Source) (Q : Progress) : Type 0 where
    pub table : HasGrown P.table Q.table (sets_on A (sets_of P) p.ask) (map (λ set. let r : LookUp = record { set = set; ask = p.ask } in r) (sets_of P))
    pub holds : (x : Source) → Has done x → Has Q.table.look_ups (look_up P.table x.set p.ask)
    pub sound : IsTabled Q.table
    pub steps :
        Q.steps + length Q.graph.cells + length P.table.look_ups * size A
        ≤ P.steps + length P.graph.cells + 3 * length done + 3 * edges_by done + length Q.table.look_ups * size A
    pub cells : length Q.graph.cells ≤ length P.graph.cells + edges_by done

  -- and they have been stepped
  pub record IsStepping (done : List Source) (Q : Progress) : Type 0 where
    pub spent : IsSpending done Q
    pub words : (set : List ℕ) (w : Word) → Arrives Q set w ↔ LeadsWith done set w
    pub sets : (set : List ℕ) → HasNext Q set ↔ LeadsOn done set
    pub apart : AreDistinct (numbers_in Q.graph.next)
    pub given : (s : ℕ) → Has (numbers_in Q.graph.next) s → s < length Q.table.sets
    pub few : length Q.graph.next ≤ edges_by done
    pub rise : length Q.graph.cells ≤ length P.graph.cells + making_by done

  snoc_edges : (done : List Source) (x : Source) → edges_by (done ++ x ∷ []) ≡ edges_by done + length (source_edges x)
  snoc_edges done x =
      let f : Source → ℕ = λ y. length (source_edges y) in
      let one = cons_sum f x [] in
      omega (arith, sum_by-append f done (x ∷ []), one)

  snoc_making : (done : List Source) (x : Source) → making_by (done ++ x ∷ []) ≡ making_by done + making_of A (sets_of P) p.ask (set_at P.table.sets x.set)
  snoc_making done x =
      let f : Source → ℕ = λ y. making_of A (sets_of P) p.ask (set_at P.table.sets y.set) in
      let one = cons_sum f x [] in
      omega (arith, sum_by-append f done (x ∷ []), one)

  snoc_length : (done : List Source) (x : Source) → length (done ++ x ∷ []) ≡ length done + 1
  snoc_length done x = length-append done (x ∷ [])

  abbrev asked_look_ups : List LookUp
  asked_look_ups = map (λ set. let r : LookUp = record { set = set; ask = p.ask } in r) (sets_of P)

  -- what the sources' edges count is what reading this place counts
  pub place_edges : edges_read A (sets_of P) (p.ask ∷ []) ≡ edges_by (sources P.graph)
  place_edges =
      let look_ups : List LookUp = asked_look_ups in
      ap (sum_by (look_up_edges A)) (append-nil look_ups)
      ∙ (sum_map (look_up_edges A) (λ set. let r : LookUp = record { set = set; ask = p.ask } in r) (sets_of P)
      ∙ sum_map (λ set. length (edges A set p.ask)) (λ (x : Source). set_at P.table.sets x.set) (sources P.graph))

  pub place_making : making_read A (sets_of P) (p.ask ∷ []) ≡ making_by (sources P.graph)
  place_making =
      let same = sum_map (making_of A (sets_of P) p.ask) (λ (x : Source). set_at P.table.sets x.set) (sources P.graph) in
      omega (arith, same)

  -- what is true of the look-up of each set of the layer is true of each that reading this place asks for
  pub each_look_up : (T : LookUp → Type 0) → ((x : Source) → Has (sources P.graph) x → T (look_up P.table x.set p.ask)) →
      (r : LookUp) → Has (look_ups_asked A (sets_of P) (p.ask ∷ [])) r → T r
  each_look_up T each look_up h =
      let look_up_at : List ℕ → LookUp = λ set. record { set = set; ask = p.ask } in
      let s = Has-map_cases look_up_at (sets_of P) look_up (subst (λ (rs : List LookUp). Has rs look_up) (append-nil asked_look_ups) h) in
      let x = Has-map_cases (λ (x : Source). set_at P.table.sets x.set) (sources P.graph) s.0 s.1 in
      subst T (ap look_up_at x.2 ∙ s.2) (each x.0 x.1)

  pub met_here : Covers (sets_met A (sets_of P) (p.ask ∷ [])) (sets_on A (sets_of P) p.ask)
  met_here = on_met A (sets_of P) p.ask

  -- what was asked for here
  grown_at : (t u : Tabled) → HasGrown t u (sets_on A (sets_of P) p.ask) asked_look_ups → HasGrown t u (sets_on A (sets_of P) p.ask) (look_ups_asked A (sets_of P) (p.ask ∷ []))
  grown_at t u g =
      grown_more t u (sets_on A (sets_of P) p.ask) (sets_on A (sets_of P) p.ask) asked_look_ups (look_ups_asked A (sets_of P) (p.ask ∷ [])) g (λ set h. h)
      (λ look_up h. Has-append_left asked_look_ups [] look_up h)

  -- nothing has been stepped
  pub spending_none : (at : ℕ) → IsReadyAt P.table P.graph at → IsSpending [] P
  spending_none at r = record {
    table = record { graph = refl; limit = refl; kept = ([], append-nil P.table.sets); sets = λ set h. inl h; look_ups = λ look_up h. inl h; stay = λ look_up h. h };
    holds = λ x h. absurd h;
    sound = r.sound;
    steps = omega arith;
    cells = omega arith;
  }

  pub stepping_none : (at : ℕ) → IsReadyAt P.table P.graph at → IsStepping [] P
  stepping_none at r = record {
    spent = spending_none at r;
    words = λ set w. (λ h. absurd (none_there h.0 (word_number P.graph.cells P.graph.next h.0 w h.2)), λ h. absurd h.1);
    sets = λ set. (λ h. absurd (none_there h.0 h.2), λ h. absurd h.1);
    apart = subst (λ xs. AreDistinct (numbers_in xs)) (sym r.fresh.1) tt;
    given = λ s h. absurd (none_there s h);
    few = let none = ap length r.fresh.1 in omega (arith, none);
    rise = omega arith;
  }
    where
      none_there : (s : ℕ) → Has (numbers_in P.graph.next) s → ⊥
      none_there s h = rw r.fresh.1 at h

  -- ---- one source more

  module _ (done : List Source) (Q : Progress) (x : Source) (is : P.table.graph ≡ A) (spent : IsSpending done Q) (there : Has (sources P.graph) x)
      (known : x.set < length P.table.sets) where
    pub named_before : set_at Q.table.sets x.set ≡ set_at P.table.sets x.set
    named_before = grown_named P.table Q.table (sets_on A (sets_of P) p.ask) asked_look_ups spent.table x.set known

    graph_is : Q.table.graph ≡ A
    graph_is = spent.table.graph ∙ is

    abbrev look_up_here : LookUp
    look_up_here = look_up Q.table x.set p.ask

    set_there : Has (sets_of P) (set_at P.table.sets x.set)
    set_there = Has-map (λ (y : Source). set_at P.table.sets y.set) (sources P.graph) x there

    look_up_there : Has asked_look_ups look_up_here
    look_up_there =
        subst (λ set. Has asked_look_ups (let r : LookUp = record { set = set; ask = p.ask } in r)) (sym named_before)
        (Has-map (λ set. let r : LookUp = record { set = set; ask = p.ask } in r) (sets_of P) (set_at P.table.sets x.set) set_there)

    target_there : (set : List ℕ) → Has (reached Q.table.graph (set_at Q.table.sets x.set) p.ask) set → Has (sets_on A (sets_of P) p.ask) set
    target_there set h = by p.ask (subst (λ s. Has (reached A s p.ask) set) named_before (subst (λ B. Has (reached B (set_at Q.table.sets x.set) p.ask) set) graph_is h))
      where
        led : (a : Question) → Has (map (λ (e : Reach). e.to) (edges A (set_at P.table.sets x.set) a)) set → Has (next_sets A (sets_of P) a) set
        led a h =
            let e = Has-map_cases (λ (e : Reach). e.to) (edges A (set_at P.table.sets x.set) a) set h in
            subst (Has (next_sets A (sets_of P) a)) e.2 (has_next A (sets_of P) a (set_at P.table.sets x.set) e.0 set_there e.1)

        by : (a : Question) → Has (reached A (set_at P.table.sets x.set) a) set → Has (sets_on A (sets_of P) a) set
        by (byte_read b) h = led (byte_read b) h
        by rest_taken h = led rest_taken h
        by ended h = h

    module _ (t : Tabled) (n : ℕ) (made : HasLookedUp Q.table t look_up_here Q.steps n) where
      once_here : HoldsOnce Q.table t look_up_here
      once_here = holds_once Q.table t look_up_here made.is

      kept_length : length Q.table.sets ≤ length t.sets
      kept_length = once_sets_count Q.table t look_up_here once_here

      pub named_now : (s : ℕ) → s < length Q.table.sets → set_at t.sets s ≡ set_at Q.table.sets s
      named_now s h = once_set Q.table t look_up_here once_here s h

      -- what was asked of one source more is there
      made_holds : (y : Source) → Has (done ++ x ∷ []) y → Has t.look_ups (look_up P.table y.set p.ask)
      made_holds y h = elim (Has-append_cases done (x ∷ []) y h) as (λ _. Has t.look_ups (look_up P.table y.set p.ask)) [
        | inl old ↦ once_stay Q.table t look_up_here once_here (look_up P.table y.set p.ask) (spent.holds y old)
        | inr new ↦ elim new as (λ _. Has t.look_ups (look_up P.table y.set p.ask)) [
          | inl e ↦ subst (λ (z : Source). Has t.look_ups (look_up P.table z.set p.ask)) e here
          | inr none ↦ absurd none
        ]
      ]
        where
          here : Has t.look_ups (look_up P.table x.set p.ask)
          here = subst (λ set. Has t.look_ups (let r : LookUp = record { set = set; ask = p.ask } in r)) named_before once_here.holds

      -- the sets and look-ups that the table has with it
      grown_here : HasGrown P.table t (sets_on A (sets_of P) p.ask) asked_look_ups
      grown_here = record {
        graph = once_here.graph ∙ spent.table.graph;
        limit = once_here.limit ∙ spent.table.limit;
        kept = (
          spent.table.kept.0 ++ once_here.longer.0,
          sym (append_assoc P.table.sets spent.table.kept.0 once_here.longer.0) ∙ (ap (λ ss. ss ++ once_here.longer.0) spent.table.kept.1 ∙ sym once_here.longer.1),
        );
        sets = λ set h. elim (once_here.sets set h) as (λ _. Has P.table.sets set ⊎ Has (sets_on A (sets_of P) p.ask) set) [
          | inl old ↦ spent.table.sets set old
          | inr new ↦ inr (target_there set new)
        ];
        look_ups = λ look_up h. elim (once_was Q.table t look_up_here once_here look_up h) as (λ _. Has P.table.look_ups look_up ⊎ Has asked_look_ups look_up) [
          | inl old ↦ spent.table.look_ups look_up old
          | inr e ↦ inr (subst (Has asked_look_ups) e look_up_there)
        ];
        stay = λ look_up h. once_stay Q.table t look_up_here once_here look_up (spent.table.stay look_up h);
      }

      -- what making it took
      made_steps : n + length Q.table.look_ups * size A ≤ Q.steps + 1 + length t.look_ups * size A
      made_steps = by once_here.look_ups
        where
          by :
              (t.look_ups ≡ Q.table.look_ups) ⊎ ((¬ Has Q.table.look_ups look_up_here) × (t.look_ups ≡ Q.table.look_ups ++ look_up_here ∷ [])) →
              n + length Q.table.look_ups * size A ≤ Q.steps + 1 + length t.look_ups * size A
          by (inl same) = let e = ap (λ (look_ups : List LookUp). length look_ups * size A) same in omega (arith, e, made.steps)
          by (inr more) =
              let e = ap (λ (look_ups : List LookUp). length look_ups * size A) more.1 in
              let l = ap (λ k. k * size A) (length-append Q.table.look_ups (look_up_here ∷ [])) in
              omega (arith, e, l, made.steps)

      -- the graph has taken what came
      module _ (e : ℕ) (count : e ≡ length (source_edges x)) (g : Graph) (m : ℕ) (cost : IsCost e (length Q.graph.cells) (length g.cells) n m) where
        paid :
            m + length g.cells + length P.table.look_ups * size A
            ≤ P.steps + length P.graph.cells + 3 * length (done ++ x ∷ []) + 3 * edges_by (done ++ x ∷ []) + length t.look_ups * size A
        paid = omega (arith, cost.few, cost.balance, cost.bound, made_steps, spent.steps, count, snoc_edges done x, snoc_length done x)

        pub spending_more : IsSpending (done ++ x ∷ []) (pass t g m)
        spending_more = record {
          table = grown_here;
          holds = made_holds;
          sound = made.tabled;
          steps = paid;
          cells = omega (arith, cost.few, cost.balance, spent.cells, count, snoc_edges done x);
        }

        -- it was given up
        pub stopped_by_graph : (left : List Source) → done ++ x ∷ left ≡ sources P.graph → HasStoppedAt A p P (stop t m)
        stopped_by_graph left all = record {
          table = grown_at P.table t grown_here;
          sound = made.tabled;
          made = t.look_ups;
          distinct = made.tabled.asked_apart;
          few = omega arith;
          look_ups = λ look_up h. elim (grown_here.look_ups look_up h) as (λ _. Has P.table.look_ups look_up ⊎ Has (look_ups_asked A (sets_of P) (p.ask ∷ [])) look_up) [
            | inl old ↦ inl old
            | inr new ↦ inr (Has-append_left asked_look_ups [] look_up new)
          ];
          steps =
              let l = length-append (done ++ x ∷ []) left in
              let f : Source → ℕ = λ y. length (source_edges y) in
              let s = sum_by-append f (done ++ x ∷ []) left in
              let a = ap length (append_assoc done (x ∷ []) left ∙ all) in
              let b = ap edges_by (append_assoc done (x ∷ []) left ∙ all) in
              omega (arith, paid, l, s, a, b, place_edges);
        }

    -- the table refused the look-up
    pub stopped_by_table : (left : List Source) (n : ℕ) → done ++ x ∷ left ≡ sources P.graph → n ≤ Q.steps + 1 → HasStoppedAt A p P (stop Q.table n)
    stopped_by_table left n all one = by one
      where
        l : length (done ++ x ∷ left) ≡ length done + suc (length left)
        l = length-append done (x ∷ left)

        s : edges_by (done ++ x ∷ left) ≡ edges_by done + edges_by (x ∷ left)
        s = sum_by-append (λ (y : Source). length (source_edges y)) done (x ∷ left)

        before : (look_up : LookUp) → Has Q.table.look_ups look_up → Has P.table.look_ups look_up ⊎ Has (look_ups_asked A (sets_of P) (p.ask ∷ [])) look_up
        before look_up k = elim (spent.table.look_ups look_up k) as (λ _. Has P.table.look_ups look_up ⊎ Has (look_ups_asked A (sets_of P) (p.ask ∷ [])) look_up) [
          | inl old ↦ inl old
          | inr new ↦ inr (Has-append_left asked_look_ups [] look_up new)
        ]

        by : n ≤ Q.steps + 1 → HasStoppedAt A p P (stop Q.table n)
        by less = record {
          table = grown_at P.table Q.table spent.table;
          sound = spent.sound;
          made = Q.table.look_ups;
          distinct = spent.sound.asked_apart;
          few = omega arith;
          look_ups = before;
          steps =
              let a = ap length all in
              let b = ap edges_by all in
              omega (arith, spent.steps, less, l, s, a, b, place_edges);
        }

    abbrev with_look_up : Tabled
    with_look_up = once_asked Q.table look_up_here

    -- what was too heavy is no more than reading the place asks for
    pub heavy_excess : (w : ℕ) → w ≡ weight with_look_up → with_look_up.limit < w → IsExcess P.table (sets_on A (sets_of P) p.ask) (look_ups_asked A (sets_of P) (p.ask ∷ [])) w
    heavy_excess w is more =
        let once = holds_once Q.table with_look_up look_up_here refl in
        record {
          more = subst (λ l. l < w) (once.limit ∙ spent.table.limit) more;
          most =
              let sets_less =
              sum_covers (λ (set : List ℕ). 1 + length set) (once_each bytes_eq (P.table.sets ++ sets_on A (sets_of P) p.ask)) with_look_up.sets (once.apart spent.sound.sets_apart)
              (λ set h. once_has bytes_eq same_bytes bytes_itself (P.table.sets ++ sets_on A (sets_of P) p.ask) set (some_set once set h)) in
              let look_ups_less =
              sum_covers (λ (r : LookUp). 1 + look_up_edges P.table.graph r) (once_each look_up_same (P.table.look_ups ++ look_ups_asked A (sets_of P) (p.ask ∷ []))) with_look_up.look_ups
              (once_asked_apart Q.table with_look_up look_up_here once spent.sound.asked_apart)
              (λ look_up h. once_has look_up_same same_look_up look_up_itself (P.table.look_ups ++ look_ups_asked A (sets_of P) (p.ask ∷ [])) look_up (some_look_up once look_up h)) in
              let graph = ap (λ (B : Automaton). look_ups_weight B with_look_up.look_ups) (once.graph ∙ spent.table.graph) in
              omega (arith, is, sets_less, look_ups_less, graph);
        }
      where
        some_set : HoldsOnce Q.table with_look_up look_up_here → Covers (P.table.sets ++ sets_on A (sets_of P) p.ask) with_look_up.sets
        some_set once set k =
            elim (once.sets set k) [
              | inl old ↦ elim (spent.table.sets set old) [
                | inl o ↦ Has-append_left P.table.sets (sets_on A (sets_of P) p.ask) set o
                | inr n ↦ Has-append_right P.table.sets (sets_on A (sets_of P) p.ask) set n
              ]
              | inr new ↦ Has-append_right P.table.sets (sets_on A (sets_of P) p.ask) set (target_there set new)
            ]

        asked_look_up : (look_up : LookUp) → Has asked_look_ups look_up → Has (P.table.look_ups ++ look_ups_asked A (sets_of P) (p.ask ∷ [])) look_up
        asked_look_up look_up k = Has-append_right P.table.look_ups (look_ups_asked A (sets_of P) (p.ask ∷ [])) look_up (Has-append_left asked_look_ups [] look_up k)

        some_look_up : HoldsOnce Q.table with_look_up look_up_here → Covers (P.table.look_ups ++ look_ups_asked A (sets_of P) (p.ask ∷ [])) with_look_up.look_ups
        some_look_up once look_up k =
            elim (once_was Q.table with_look_up look_up_here once look_up k) [
              | inl old ↦ elim (spent.table.look_ups look_up old) [
                | inl o ↦ Has-append_left P.table.look_ups (look_ups_asked A (sets_of P) (p.ask ∷ [])) look_up o
                | inr n ↦ asked_look_up look_up n
              ]
              | inr e ↦ asked_look_up look_up (subst (Has asked_look_ups) e look_up_there)
            ]

    module _ (t : Tabled) (n : ℕ) (made : HasLookedUp Q.table t look_up_here Q.steps n) where
      module _ (es : List Edge) (has : HasEdges t look_up_here es) where
        edges_are : map (edge_named t.sets) es ≡ source_edges x
        edges_are =
            has.named
            ∙ (ap (λ (B : Automaton). edges B (set_at Q.table.sets x.set) p.ask) ((once_here t n made).graph ∙ graph_is)
            ∙ ap (λ s. edges A s p.ask) named_before)

        pub edges_count : length es ≡ length (source_edges x)
        edges_count = let l = length-map es (edge_named t.sets) in let e = ap length edges_are in omega (arith, l, e)

        module _ (past : IsStepping done Q) (g : Graph) (m : ℕ) (step : IsStepped Q.graph p.at (edges_of es) g) (source : step.left.0 ≡ x)
            (apart : AreDistinct (numbers_in g.next)) (left : List Source) (all : done ++ x ∷ left ≡ sources P.graph)
            (cost : IsCost (length es) (length Q.graph.cells) (length g.cells) n m) where
          words : (s : ℕ) (w : Word) → HasWord (targets g) s w ↔ (HasWord (targets Q.graph) s w ⊎ Brings x.words p.at (edges_of es) s w)
          words s w = subst (λ (y : Source). HasWord (targets g) s w ↔ (HasWord (targets Q.graph) s w ⊎ Brings y.words p.at (edges_of es) s w)) source (step.left.2 s w)

          -- an edge leads to the set of its number
          edge_to : (e : ℕ × ℕ) → Has (edges_of es) e → (r : Reach) × Has (source_edges x) r × (e.0 ≡ r.marks) × (e.1 < length t.sets) × (set_at t.sets e.1 ≡ r.to)
          edge_to e h =
              let g = Has-map_cases (λ (e : Edge). (e.marks, e.to)) es e h in (
                edge_named t.sets g.0,
                subst (λ (rs : List Reach). Has rs (edge_named t.sets g.0)) edges_are (Has-map (edge_named t.sets) es g.0 g.1),
                ap (λ (p : ℕ × ℕ). p.0) (sym g.2),
                subst (λ (p : ℕ × ℕ). p.1 < length t.sets) g.2 (has.targets g.0 g.1),
                ap (λ (p : ℕ × ℕ). set_at t.sets p.1) (sym g.2),
              )

          to_edge : (r : Reach) → Has (source_edges x) r → (e : ℕ × ℕ) × Has (edges_of es) e × (e.0 ≡ r.marks) × (set_at t.sets e.1 ≡ r.to)
          to_edge r h =
              let e = Has-map_cases (edge_named t.sets) es r (subst (λ (rs : List Reach). Has rs r) (sym edges_are) h) in
              ((e.0.marks, e.0.to), Has-map (λ (e : Edge). (e.marks, e.to)) es e.0 e.1, ap (λ (y : Reach). y.marks) e.2, ap (λ (y : Reach). y.to) e.2)

          edges_many : length (edges_of es) ≡ length (source_edges x)
          edges_many = length-map {B = ℕ × ℕ} es (λ (e : Edge). (e.marks, e.to)) ∙ edges_count

          pub stepping_more : IsStepping (done ++ x ∷ []) (pass t g m)
          stepping_more = record {
            spent = spending_more t n made (length es) edges_count g m cost;
            words = λ set w. (word_there set w, word_back set w);
            sets = λ set. (set_here set, set_back set);
            apart = apart;
            given = λ s h. given_now s ((step.reached s).0 h);
            few = omega (arith, step.few, past.few, edges_many, snoc_edges done x);
            rise = omega (arith, past.rise, made_here, snoc_making done x);
          }
            where
              -- an edge of an earlier source leads to each set of the next layer, so that the lone edge of this one is no making
              -- edge only where its target is new
              is_new : (r : Reach) → source_edges x ≡ r ∷ [] → r.marks ≡ 0 → edges_to A (sets_of P) p.ask r.to ≤ 1 → length g.cells ≤ length Q.graph.cells
              is_new r lone none few =
                  let e = to_edge r (subst (λ (rs : List Reach). Has rs r) (sym lone) (inl refl)) in
                  step.hands_on e.0.1 (lone_edge (edges_of es) e.0 (edges_many ∙ ap length lone) e.1 (e.2 ∙ none)) (λ h.
                  let k = past.given e.0.1 h in
                  let l = (past.sets r.to).0 (e.0.1, sym (named_now t n made e.0.1 k) ∙ e.3, h) in
                  let two = led_twice A (sets_of P) p.ask r.to (λ (y : Source). set_at P.table.sets y.set) done x left (sources P.graph) all refl l.0 l.1
                  (leads_once A p.ask r.to (set_at P.table.sets l.0.set) l.2 l.3 l.4)
                  (leads_once A p.ask r.to (set_at P.table.sets x.set) r (subst (λ (rs : List Reach). Has rs r) (sym lone) (inl refl)) refl) in
                  omega (arith, two, few))

              made_here : length g.cells ≤ length Q.graph.cells + making_of A (sets_of P) p.ask (set_at P.table.sets x.set)
              made_here =
                  making_step A (sets_of P) p.ask (set_at P.table.sets x.set) (source_edges x) refl (length Q.graph.cells) (length g.cells)
                  (omega (arith, cost.few, cost.balance, edges_count)) is_new

              given_now : (s : ℕ) → Has (numbers_in Q.graph.next) s ⊎ LeadsTo (edges_of es) s → s < length t.sets
              given_now s (inl old) = let l = past.given s old in omega (arith, l, kept_length t n made)
              given_now s (inr new) = let r = edge_to new.0 new.1 in subst (λ k. k < length t.sets) new.2 r.3

              word_there : (set : List ℕ) (w : Word) → Arrives (pass t g m) set w → LeadsWith (done ++ x ∷ []) set w
              word_there set w h = by ((words h.0 w).0 h.2)
                where
                  by : HasWord (targets Q.graph) h.0 w ⊎ Brings x.words p.at (edges_of es) h.0 w → LeadsWith (done ++ x ∷ []) set w
                  by (inl old) =
                      let k = past.given h.0 (word_number Q.graph.cells Q.graph.next h.0 w old) in
                      let l = (past.words set w).0 (h.0, sym (named_now t n made h.0 k) ∙ h.1, old) in
                      (l.0, Has-append_left done (x ∷ []) l.0 l.1, l.2, l.3, l.4, l.5, l.6, l.7)
                  by (inr new) =
                      let r = edge_to new.0 new.2 in (
                        x,
                        Has-append_right done (x ∷ []) x (inl refl),
                        r.0,
                        r.1,
                        sym r.4 ∙ (ap (set_at t.sets) new.3 ∙ h.1),
                        new.1,
                        new.4,
                        ap (λ k. new.1 ++ mark_block p.at k) (sym r.2) ∙ new.5,
                      )

              word_back : (set : List ℕ) (w : Word) → LeadsWith (done ++ x ∷ []) set w → Arrives (pass t g m) set w
              word_back set w h = by (Has-append_cases done (x ∷ []) h.0 h.1)
                where
                  here : (y : Source) → x ≡ y → (r : Reach) → Has (source_edges y) r → r.to ≡ set → (u : Word) → Has y.words u → u ++ mark_block p.at r.marks ≡ w → Arrives (pass t g m) set w
                  here y same r hr to u hu eq =
                      let e = to_edge r (subst (λ (z : Source). Has (source_edges z) r) (sym same) hr) in (
                        e.0.1,
                        e.3 ∙ to,
                        (words e.0.1 w).1 (inr (
                          e.0,
                          u,
                          e.1,
                          refl,
                          subst (λ (z : Source). Has z.words u) (sym same) hu,
                          ap (λ k. u ++ mark_block p.at k) e.2 ∙ eq,
                        )),
                      )

                  by : Has done h.0 ⊎ Has (x ∷ []) h.0 → Arrives (pass t g m) set w
                  by (inl old) =
                      let a = (past.words set w).1 (h.0, old, h.2, h.3, h.4, h.5, h.6, h.7) in
                      let k = past.given a.0 (word_number Q.graph.cells Q.graph.next a.0 w a.2) in
                      (a.0, named_now t n made a.0 k ∙ a.1, (words a.0 w).1 (inl a.2))
                  by (inr (inl same)) = here h.0 same h.2 h.3 h.4 h.5 h.6 h.7
                  by (inr (inr none)) = absurd none

              set_here : (set : List ℕ) → HasNext (pass t g m) set → LeadsOn (done ++ x ∷ []) set
              set_here set h = by ((step.reached h.0).0 h.2)
                where
                  by : Has (numbers_in Q.graph.next) h.0 ⊎ LeadsTo (edges_of es) h.0 → LeadsOn (done ++ x ∷ []) set
                  by (inl old) =
                      let k = past.given h.0 old in
                      let l = (past.sets set).0 (h.0, sym (named_now t n made h.0 k) ∙ h.1, old) in
                      (l.0, Has-append_left done (x ∷ []) l.0 l.1, l.2, l.3, l.4)
                  by (inr new) =
                      let r = edge_to new.0 new.1 in
                      (x, Has-append_right done (x ∷ []) x (inl refl), r.0, r.1, sym r.4 ∙ (ap (set_at t.sets) new.2 ∙ h.1))

              set_back : (set : List ℕ) → LeadsOn (done ++ x ∷ []) set → HasNext (pass t g m) set
              set_back set h = by (Has-append_cases done (x ∷ []) h.0 h.1)
                where
                  here : (y : Source) → x ≡ y → (r : Reach) → Has (source_edges y) r → r.to ≡ set → HasNext (pass t g m) set
                  here y same r hr to =
                      let e = to_edge r (subst (λ (z : Source). Has (source_edges z) r) (sym same) hr) in
                      (e.0.1, e.3 ∙ to, (step.reached e.0.1).1 (inr (e.0, e.1, refl)))

                  by : Has done h.0 ⊎ Has (x ∷ []) h.0 → HasNext (pass t g m) set
                  by (inl old) =
                      let a = (past.sets set).1 (h.0, old, h.2, h.3, h.4) in
                      let k = past.given a.0 a.2 in
                      (a.0, named_now t n made a.0 k ∙ a.1, (step.reached a.0).1 (inl a.2))
                  by (inr (inl same)) = here h.0 same h.2 h.3 h.4
                  by (inr (inr none)) = absurd none
