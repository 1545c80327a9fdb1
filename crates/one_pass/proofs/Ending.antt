-- The end: the sources of the last layer are ended one after another.
use Rattle.std.proofs.Common.{◌≡◌, ℕ, ◌<◌, ◌⊎◌, List, [], ◌∷◌, ◌++◌, length, map, inl, inr, refl, sym, ap, subst, arith, ◌∙◌}
use Rattle.std.specs.Prelude.{◌↔◌}
use Rattle.std.proofs.lemmas.List.{append-nil, length-map}
use Rattle.span_core.specs.Lists.{Has}
use Rattle.span_core.proofs.HasLaws.{Has-append_left, Has-append_right, Has-append_cases, Has-map, Has-map_cases}
use Rattle.marked_automaton.specs.Automaton.{Automaton}
use Rattle.automaton_reading.specs.Reading.{ended, Reach, LookUp, edges, look_ups_asked}
use Rattle.one_pass.specs.Turned.{HasLookedUp}
use Rattle.set_table.specs.Tabled.{Tabled, look_up}
use Rattle.numbered_lists.specs.Numbered.{set_at}
use Rattle.node_arena.specs.Words.{Word}
use Rattle.output_graph.specs.Forward.{mark_block}
use Rattle.output_graph.specs.Graph.{Brings, Graph, HasWord, IsCost, IsStepped, Source, sets_of as numbers_in, sources, targets}
use Rattle.output_graph.specs.Sound.{edges_of_ends}
use Rattle.one_pass.specs.Places.{end_at, Leads}
use Rattle.one_pass.specs.Passes.{Progress, pass, sets_of, Reaches, IsReadyAt, HasEnded}
use Rattle.one_pass.proofs.GraphLaws.{word_number}
use Rattle.one_pass.proofs.ReadWords.{end_to}
use Rattle.one_pass.proofs.Stepping.{source_edges, place_edges, IsSpending, each_look_up, spending_none, spending_more}

-- the blocks of edges
abbrev pub marks_of : List Reach → List ℕ
marks_of es = map (λ (e : Reach). e.marks) es

module _ (A : Automaton) (n : ℕ) (P : Progress) where
  -- an end of one of these sources makes the word
  abbrev pub EndsOn : List Source → Word → Type 0
  EndsOn done w =
      (x : Source) × Has done x × (e : Reach) × Has (source_edges A (end_at n) P x) e × (u : Word) × Has x.words u × (u ++ mark_block n e.marks ≡ w)

  -- these sources have been ended
  pub record IsEnding (done : List Source) (Q : Progress) : Type 0 where
    pub spent : IsSpending A (end_at n) P done Q
    pub words : (w : Word) → HasWord (targets Q.graph) 0 w ↔ EndsOn done w

  pub ending_none : (at : ℕ) → IsReadyAt P.table P.graph at → IsEnding [] P
  ending_none at r = record {
    spent = spending_none A (end_at n) P at r;
    words = λ w. (λ h. absurd (none w h), λ h. absurd h.1);
  }
    where
      none : (w : Word) → HasWord (targets P.graph) 0 w → ⊥
      none w h = subst (λ xs. Has (numbers_in xs) 0) r.fresh.1 (word_number P.graph.cells P.graph.next 0 w h)

  module _ (done : List Source) (Q : Progress) (x : Source) (is : P.table.graph ≡ A) (there : Has (sources P.graph) x) (known : x.set < length P.table.sets)
      (past : IsEnding done Q) (t : Tabled) (m : ℕ) (made : HasLookedUp Q.table t (look_up Q.table x.set ended) Q.steps m)
      (ms : List ℕ) (marks : ms ≡ marks_of (source_edges A (end_at n) P x)) where
    marks_count : length ms ≡ length (source_edges A (end_at n) P x)
    marks_count = ap length marks ∙ length-map (source_edges A (end_at n) P x) (λ (e : Reach). e.marks)

    pub ending_more : (g : Graph) (after : ℕ) (step : IsStepped Q.graph n (edges_of_ends ms) g) → step.left.0 ≡ x → IsCost (length ms) (length Q.graph.cells) (length g.cells) m after →
        IsEnding (done ++ x ∷ []) (pass t g after)
    ending_more g after step source cost = record {
      spent = spending_more A (end_at n) P done Q x is past.spent there known t m made (length ms) marks_count g after cost;
      words = λ w. (λ h. to_ends w ((words w).0 h), λ h. (words w).1 (from_ends w h));
    }
      where
        words : (w : Word) → HasWord (targets g) 0 w ↔ (HasWord (targets Q.graph) 0 w ⊎ Brings x.words n (edges_of_ends ms) 0 w)
        words w = subst (λ (y : Source). HasWord (targets g) 0 w ↔ (HasWord (targets Q.graph) 0 w ⊎ Brings y.words n (edges_of_ends ms) 0 w)) source (step.left.2 0 w)

        to_ends : (w : Word) → HasWord (targets Q.graph) 0 w ⊎ Brings x.words n (edges_of_ends ms) 0 w → EndsOn (done ++ x ∷ []) w
        to_ends w (inl old) =
            let l = (past.words w).0 old in
            (l.0, Has-append_left done (x ∷ []) l.0 l.1, l.2, l.3, l.4, l.5, l.6)
        to_ends w (inr new) =
            let m = Has-map_cases (λ (m : ℕ). let p : ℕ × ℕ = (m, 0) in p) ms new.0 new.2 in
            let e = Has-map_cases (λ (e : Reach). e.marks) (source_edges A (end_at n) P x) m.0 (subst (λ ks. Has ks m.0) marks m.1) in
            (x, Has-append_right done (x ∷ []) x (inl refl), e.0, e.1, new.1, new.4, ap (λ k. new.1 ++ mark_block n k) (e.2 ∙ ap (λ (p : ℕ × ℕ). p.0) m.2) ∙ new.5)

        from_ends : (w : Word) → EndsOn (done ++ x ∷ []) w → HasWord (targets Q.graph) 0 w ⊎ Brings x.words n (edges_of_ends ms) 0 w
        from_ends w h = by (Has-append_cases done (x ∷ []) h.0 h.1)
          where
            here : (y : Source) → x ≡ y → (e : Reach) → Has (source_edges A (end_at n) P y) e → (u : Word) → Has y.words u → u ++ mark_block n e.marks ≡ w → Brings x.words n (edges_of_ends ms) 0 w
            here y same e he u hu eq = (
              (e.marks, 0),
              u,
              Has-map (λ (m : ℕ). let p : ℕ × ℕ = (m, 0) in p) ms e.marks
                  (subst (λ ks. Has ks e.marks) (sym marks)
                  (Has-map (λ (e : Reach). e.marks) (source_edges A (end_at n) P x) e (subst (λ (z : Source). Has (source_edges A (end_at n) P z) e) (sym same) he))),
              refl,
              subst (λ (z : Source). Has z.words u) (sym same) hu,
              eq,
            )

            by : Has done h.0 ⊎ Has (x ∷ []) h.0 → HasWord (targets Q.graph) 0 w ⊎ Brings x.words n (edges_of_ends ms) 0 w
            by (inl old) = inl ((past.words w).1 (h.0, old, h.2, h.3, h.4, h.5, h.6))
            by (inr (inl same)) = inr (here h.0 same h.2 h.3 h.4 h.5 h.6)
            by (inr (inr none)) = absurd none

  -- all have been ended
  pub all_ended : (Q : Progress) → IsEnding (sources P.graph) Q → Q.graph.stepped ≡ length (sources P.graph) → HasEnded A n P Q
  all_ended Q all every = record {
    words = λ w. (there w, back w);
    table = record {
      graph = all.spent.table.graph;
      limit = all.spent.table.limit;
      kept = all.spent.table.kept;
      sets = all.spent.table.sets;
      look_ups = λ look_up h. elim (all.spent.table.look_ups look_up h) as (λ _. Has P.table.look_ups look_up ⊎ Has (look_ups_asked A (sets_of P) (ended ∷ [])) look_up) [
        | inl old ↦ inl old
        | inr new ↦ inr (Has-append_left (map (λ set. let r : LookUp = record { set = set; ask = ended } in r) (sets_of P)) [] look_up new)
      ];
      stay = all.spent.table.stay;
    };
    holds = each_look_up A (end_at n) P (Has Q.table.look_ups) all.spent.holds;
    every = every;
    sound = all.spent.sound;
    steps = omega (arith, all.spent.steps, place_edges A (end_at n) P);
    cells = omega (arith, all.spent.cells, place_edges A (end_at n) P);
  }
    where
      there : (w : Word) → HasWord (targets Q.graph) 0 w → (from : List ℕ) × (u v : Word) × Reaches P from u × Leads A (end_at n ∷ []) from v [] × (u ++ v ≡ w)
      there w h =
          let l = (all.words w).0 h in (
            set_at P.table.sets l.0.set,
            l.4,
            mark_block n l.2.marks,
            (l.0, l.1, refl, l.5),
            (l.2, l.3, [], append-nil (mark_block n l.2.marks), (refl, end_to A (set_at P.table.sets l.0.set) l.2 l.3)),
            l.6,
          )

      back : (w : Word) → (from : List ℕ) × (u v : Word) × Reaches P from u × Leads A (end_at n ∷ []) from v [] × (u ++ v ≡ w) → HasWord (targets Q.graph) 0 w
      back w h =
          let x = h.3 in
          let l = h.4 in
          let v_is : mark_block n l.0.marks ≡ h.2 = sym (append-nil (mark_block n l.0.marks)) ∙ (ap (λ r. mark_block n l.0.marks ++ r) (sym l.4.0) ∙ l.3) in
          (all.words w).1 (x.0, x.1, l.0, subst (λ s. Has (edges A s ended) l.0) (sym x.2) l.1, h.1, x.3, ap (λ v. h.1 ++ v) v_is ∙ h.5)
