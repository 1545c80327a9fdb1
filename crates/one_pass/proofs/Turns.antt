-- A turn of the loop over the sources of a layer, in the order in which the code goes.
use Rattle.std.proofs.Common.{◌≡◌, ℕ, suc, ◌+◌, ◌≤◌, ◌<◌, List, [], ◌∷◌, ◌++◌, length, take, drop, map, Option, Some, None, inl, inr, refl, sym, ap, subst, arith, ◌∙◌}
use Rattle.std.proofs.Math.Seq.{drop-cons, take-length}
use Rattle.std.proofs.lemmas.List.{take-append-drop, take_more}
use Rattle.span_core.specs.Lists.{Has, AreDistinct}
use Rattle.span_core.proofs.HasLaws.{Has-get_or}
use Rattle.span_core.specs.declared.edge.Edge.{Edge}
use Rattle.automaton_reading.specs.Reading.{ended, rest_taken, Reach, LookUp, edges, rest_edge, look_ups_asked}
use Rattle.set_table.specs.declared.fault.TableFault.{TableFault}
use Rattle.set_table.specs.declared.fault.TableFault.TheVariants.{Full, OutOfMemory}
use Rattle.set_table.specs.Tabled.{HasEdges, HasEnds, HasRest, IsRefusal, Tabled, edge_named, idle_of, look_up, once_asked}
use Rattle.numbered_lists.specs.Numbered.{set_at}
use Rattle.output_graph.specs.Forward.{mark_block}
use Rattle.output_graph.specs.Graph.{Graph, IsCost, IsStepped, Source, sets_of as numbers_in, sources, targets}
use Rattle.output_graph.specs.Sound.{edges_of, edges_of_ends}
use Rattle.one_pass.specs.Layers.{no_source, source_at}
use Rattle.one_pass.specs.Turned.{HasLookedUp, rest_edges}
use Rattle.one_pass.specs.Faults.{IsFaultOf}
use Rattle.one_pass.specs.Places.{ReadingPlace, asks, end_at, sets_met, sets_on}
use Rattle.one_pass.specs.Passes.{Progress, pass, sets_of, stop, IsReadyAt, HasRead, HasStoppedAt}
use Rattle.one_pass.proofs.Composing.{excess_grown, grown_length, grown_none}
use Rattle.one_pass.proofs.Ending.{ending_more, IsEnding, marks_of}
use Rattle.set_table.proofs.OnceLaws.{holds_once, once_set}
use Rattle.numbered_lists.proofs.SetsLaws.{at_place}
use Rattle.one_pass.proofs.PlaceLaws.{place_read, place_ready}
use Rattle.one_pass.proofs.Stepping.{heavy_excess, met_here, named_before, source_edges, stepping_more, stopped_by_graph, stopped_by_table, IsSpending, IsStepping}

module _ (p : ReadingPlace) (P : Progress) (at : ℕ) (ready : IsReadyAt P.table P.graph at) (k : ℕ) (Q : Progress)
    (past : IsSpending P.table.graph p P (take k (sources P.graph)) Q) (within : k < length (sources P.graph))
    (set : ℕ) (is : set ≡ (source_at (sources P.graph) k).set) where
  abbrev x : Source
  x = source_at (sources P.graph) k

  there : Has (sources P.graph) x
  there = Has-get_or (sources P.graph) k no_source within

  known : x.set < length P.table.sets
  known = ready.given x there

  pub turn_given : set < length Q.table.sets
  turn_given =
      omega (arith, known, is, grown_length P.table Q.table (sets_on P.table.graph (sets_of P) p.ask) (map (λ set. let r : LookUp = record { set = set; ask = p.ask } in r) (sets_of P)) past.table)

  abbrev left : List Source
  left = drop (suc k) (sources P.graph)

  split : take k (sources P.graph) ++ x ∷ left ≡ sources P.graph
  split =
      ap (λ (xs : List Source). take k (sources P.graph) ++ xs) (sym (drop-cons (sources P.graph) k no_source within))
      ∙ take-append-drop k (sources P.graph)

  same_look_up : look_up Q.table set p.ask ≡ look_up Q.table x.set p.ask
  same_look_up = ap (λ s. look_up Q.table s p.ask) is

  -- the table refused
  pub turn_refused : (t : Tabled) (n : ℕ) → t ≡ Q.table → n ≤ Q.steps + 1 → HasStoppedAt P.table.graph p P (stop t n)
  turn_refused t n kept one =
      subst (λ u. HasStoppedAt P.table.graph p P (stop u n)) (sym kept)
      (stopped_by_table P.table.graph p P (take k (sources P.graph)) Q x refl past there known left n split one)

  pub turn_cause : (e : TableFault) → IsRefusal (once_asked Q.table (look_up Q.table set p.ask)) e →
      IsFaultOf P.table (sets_on P.table.graph (sets_of P) p.ask) (look_ups_asked P.table.graph (sets_of P) (p.ask ∷ [])) e
  turn_cause (Full weight) c =
      let d = subst (λ look_up. IsRefusal (once_asked Q.table look_up) (Full weight)) same_look_up c in
      heavy_excess P.table.graph p P (take k (sources P.graph)) Q x refl past there known weight d.0 d.1
  turn_cause OutOfMemory c = tt

  module _ (t : Tabled) (n : ℕ) (made : HasLookedUp Q.table t (look_up Q.table set p.ask) Q.steps n) where
    made_here : HasLookedUp Q.table t (look_up Q.table x.set p.ask) Q.steps n
    made_here = subst (λ look_up. HasLookedUp Q.table t look_up Q.steps n) same_look_up made

    -- the edges of the set are those of the source
    pub turn_edges : edges t.graph (set_at Q.table.sets set) p.ask ≡ source_edges P.table.graph p P x
    turn_edges =
        ap (λ A. edges A (set_at Q.table.sets set) p.ask) ((holds_once Q.table t (look_up Q.table set p.ask) made.is).graph ∙ past.table.graph)
        ∙ ap (λ s. edges P.table.graph s p.ask) (ap (set_at Q.table.sets) is ∙ named_before P.table.graph p P (take k (sources P.graph)) Q x refl past there known)

    -- the graph refused
    pub turn_stopped : (e : ℕ) (g : Graph) (m : ℕ) → e ≡ length (source_edges P.table.graph p P x) → IsCost e (length Q.graph.cells) (length g.cells) n m → HasStoppedAt P.table.graph p P (stop t m)
    turn_stopped e g m count cost =
        stopped_by_graph P.table.graph p P (take k (sources P.graph)) Q x refl past there known t n made_here e count g m cost left split

    module _ (es : List Edge) (has : HasEdges t (look_up Q.table set p.ask) es) where
      has_here : HasEdges t (look_up Q.table x.set p.ask) es
      has_here = subst (λ look_up. HasEdges t look_up es) same_look_up has

      -- one source more has been stepped
      pub turn_stepped : IsStepping P.table.graph p P (take k (sources P.graph)) Q → (g : Graph) (m : ℕ)
          (step : IsStepped Q.graph p.at (edges_of es) g) → step.left.0 ≡ x → AreDistinct (numbers_in g.next) →
          IsCost (length es) (length Q.graph.cells) (length g.cells) n m → IsStepping P.table.graph p P (take (k + 1) (sources P.graph)) (pass t g m)
      turn_stepped stepping g m step source apart cost =
          subst (λ done. IsStepping P.table.graph p P done (pass t g m)) (sym (take_more (sources P.graph) k no_source within))
          (stepping_more P.table.graph p P (take k (sources P.graph)) Q x refl past there known t n made_here es has_here stepping g m step source apart left split cost)

-- the set of idle members, as the one edge to it
own_rest : (u : Tabled) (set : ℕ) (to : Option ℕ) → HasRest u set to → HasEdges u (look_up u set rest_taken) (rest_edges to)
own_rest u set None h = record { named = ap rest_edge (sym h); targets = λ e n. absurd n; order = tt }
own_rest u set (Some k) h =
    let at = at_place u.sets k (idle_of u set) h.0 in
    record {
      named = by at.0 (idle_of u set) refl;
      targets = λ e m. to_there at.1 e m;
      order = (tt, tt);
    }
  where
    by : set_at u.sets k ≡ idle_of u set → (ps : List ℕ) → idle_of u set ≡ ps → map (edge_named u.sets) (rest_edges (Some k)) ≡ rest_edge ps
    by at [] e = absurd (h.1 e)
    by at (p ∷ ps) e = ap (λ (s : List ℕ). let r : Reach = record { marks = 0; to = s } in r ∷ []) (at ∙ e)

    to_there : k < length u.sets → (e : Edge) → Has (rest_edges (Some k)) e → e.to < length u.sets
    to_there l e (inl same) = subst (λ (y : Edge). y.to < length u.sets) same l
    to_there l e (inr n) = absurd n

pub rest_has : (t u : Tabled) (set : ℕ) (to : Option ℕ) → u ≡ once_asked t (look_up t set rest_taken) → set < length t.sets → HasRest u set to → HasEdges u (look_up t set rest_taken) (rest_edges to)
rest_has t u set to is given h =
    let same = once_set t u (look_up t set rest_taken) (holds_once t u (look_up t set rest_taken) is) set given in
    subst (λ (s : List ℕ). HasEdges u (let r : LookUp = record { set = s; ask = rest_taken } in r) (rest_edges to)) same (own_rest u set to h)

marks_back : (ms : List ℕ) → marks_of (map (λ m. let r : Reach = record { marks = m; to = [] } in r) ms) ≡ ms
marks_back [] = refl
marks_back (m ∷ ms) = ap (λ xs. m ∷ xs) (marks_back ms)

-- one source more has been ended
pub turn_ended : (at : ℕ) (P : Progress) → IsReadyAt P.table P.graph at → (k : ℕ) (Q : Progress) → IsEnding P.table.graph at P (take k (sources P.graph)) Q → k < length (sources P.graph) →
    (set : ℕ) → set ≡ (source_at (sources P.graph) k).set → (t : Tabled) (n : ℕ) → HasLookedUp Q.table t (look_up Q.table set ended) Q.steps n →
    (ms : List ℕ) → HasEnds t (look_up Q.table set ended) ms → (g : Graph) (m : ℕ) (step : IsStepped Q.graph at (edges_of_ends ms) g) → step.left.0 ≡ source_at (sources P.graph) k →
    IsCost (length ms) (length Q.graph.cells) (length g.cells) n m → IsEnding P.table.graph at P (take (k + 1) (sources P.graph)) (pass t g m)
turn_ended at P ready k Q past within set is t n made ms ends g m step source cost =
    let p = end_at at in
    let x = source_at (sources P.graph) k in
    let made_x = subst (λ s. HasLookedUp Q.table t (look_up Q.table s ended) Q.steps n) is made in
    let marks_x = sym (marks_back ms) ∙ ap marks_of (ends.named ∙ turn_edges p P at ready k Q past.spent within set is t n made) in
    subst (λ done. IsEnding P.table.graph at P done (pass t g m)) (sym (take_more (sources P.graph) k no_source within))
    (ending_more P.table.graph at P (take k (sources P.graph)) Q x refl
    (there p P at ready k Q past.spent within set is) (known p P at ready k Q past.spent within set is) past t n made_x ms marks_x g m step source cost)

-- what is the cause at a place, with the sets that are met there
pub place_cause : (p : ReadingPlace) (P : Progress) (e : TableFault) →
    IsFaultOf P.table (sets_on P.table.graph (sets_of P) p.ask) (look_ups_asked P.table.graph (sets_of P) (p.ask ∷ [])) e →
    IsFaultOf P.table (sets_met P.table.graph (sets_of P) (asks (p ∷ []))) (look_ups_asked P.table.graph (sets_of P) (asks (p ∷ []))) e
place_cause p P (Full weight) x =
    let A = P.table.graph in
    let met = sets_met A (sets_of P) (asks (p ∷ [])) in
    let look_ups = look_ups_asked A (sets_of P) (asks (p ∷ [])) in
    excess_grown P.table P.table (sets_on A (sets_of P) p.ask) (sets_on A (sets_of P) p.ask) met look_ups look_ups look_ups weight
    (grown_none P.table (sets_on A (sets_of P) p.ask) look_ups) x (met_here A p P) (met_here A p P) (λ look_up h. h) (λ look_up h. h)
place_cause p P OutOfMemory x = tt

-- all sources have been stepped
module _ (p : ReadingPlace) (P : Progress) (at k : ℕ) (ready : IsReadyAt P.table P.graph at) (Q : Progress) (past : IsStepping P.table.graph p P (take k (sources P.graph)) Q)
    (all : k ≡ length (sources P.graph)) (g : Graph) (layer : sources g ≡ targets Q.graph) (cells : g.cells ≡ Q.graph.cells) where
  every : IsStepping P.table.graph p P (sources P.graph) Q
  every = subst (λ done. IsStepping P.table.graph p P done Q) (ap (λ j. take j (sources P.graph)) all ∙ take-length (sources P.graph)) past

  pub turns_read : HasRead P.table.graph (p ∷ []) P (pass Q.table g Q.steps)
  turns_read = place_read P.table.graph p P Q every g layer cells

  pub turns_ready : (later : ℕ) → at ≤ later →
      ((x : Source) (e : Reach) (b : ℕ × ℕ) → Has (sources P.graph) x → Has (source_edges P.table.graph p P x) e → Has (mark_block p.at e.marks) b → b.0 < later) →
      (g.stepped ≡ 0) → (g.next ≡ []) → IsReadyAt Q.table g later
  turns_ready later le blocks stepped next =
      place_ready P.table.graph p P Q every g layer cells at later ready le blocks stepped next
