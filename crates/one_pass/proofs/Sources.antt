-- The loop over the sources of a layer, with what the graph shows of them.
use Rattle.std.proofs.Common.{◌≡◌, ℕ, ◌+◌, ◌<◌, ◌≤◌, [], ◌∷◌, length, take, inl, inr, refl, sym, ap, subst, arith, ◌∙◌}
use Rattle.std.specs.Prelude.{Some, slice_get}
use Rattle.std.proofs.Math.Seq.{take-length}
use Rattle.span_core.specs.Lists.{Has}
use Rattle.automaton_reading.specs.Reading.{Question, Reach, ended}
use Rattle.set_table.specs.Tabled.{IsRefusal, Tabled, look_up, once_asked}
use Rattle.set_table.specs.declared.fault.TableFault.{TableFault}
use Rattle.output_graph.specs.Graph.{AreApart, Graph, Source, sets_of, sources, targets}
use Rattle.one_pass.specs.declared.pass.Pass.{Pass}
use Rattle.one_pass.specs.declared.search.Search.{Search}
use Rattle.one_pass.specs.Going.{PassEnds, GivesUp, GivesUpEnd, GoesOn, PassReads, come}
use Rattle.one_pass.specs.Ahead.{KnowsWaiting}
use Rattle.one_pass.specs.Known.{Knows}
use Rattle.one_pass.specs.Layers.{source_at}
use Rattle.one_pass.specs.Passes.{HasRead, HasStoppedAt, Progress, pass, stop}
use Rattle.one_pass.specs.Places.{ReadingPlace, end_at}
use Rattle.output_graph.specs.Forward.{mark_block}
use Rattle.one_pass.specs.Turned.{HasNotTurned, HasTurned, HasTurnedEnd, IsTurned}
use Rattle.one_pass.proofs.Composing.{stopped_at}
use Rattle.one_pass.proofs.Ending.{IsEnding, all_ended, ending_none}
use Rattle.one_pass.proofs.GraphLaws.{no_cost, only_more, only_none, source_is, target_sets, turned_more, turned_none, whole_count, whole_set}
use Rattle.one_pass.proofs.KnownLaws.{known_read}
use Rattle.one_pass.proofs.Stepping.{IsSpending, IsStepping, source_edges, stepping_none}
use Rattle.one_pass.proofs.Turns.{place_cause, turn_cause, turn_ended, turn_given, turn_refused, turn_stepped, turn_stopped, turns_read, turns_ready}

-- ---- a source that is stepped or ended

module _ (t : Tabled) (p : Pass) (n : ℕ) (goes : GoesOn t p) where
  pub turned_first : IsTurned p.graph 0 p.at p.graph
  turned_first = turned_none goes.ready.fresh.0 goes.ready.past

  pub layer_count : length p.graph.layer ≡ length (sources p.graph)
  layer_count = whole_count p.graph goes.ready.fresh.0

  module _ (k : ℕ) (u : Tabled) (g : Graph) (m : ℕ) (turned : IsTurned p.graph k p.at g) (within : k < length p.graph.layer)
      (set : ℕ) (named : slice_get (sets_of g.layer) k ≡ Some set) where
    place_is : (k < length (sources p.graph)) × (set ≡ (source_at (sources p.graph) k).set)
    place_is = whole_set p.graph goes.ready.fresh.0 k set within (ap (λ l. slice_get (sets_of l) k) (sym turned.layer) ∙ named)

    -- it was given up
    given_up : (pl : ReadingPlace) → IsSpending t.graph pl (come t p n) (take k (sources p.graph)) (pass u g m) →
        (v : Tabled) (l : ℕ) → HasNotTurned u v set pl.ask m l → HasStoppedAt t.graph pl (come t p n) (stop v l)
    given_up pl past v l (inl r) = turn_refused pl (come t p n) p.at goes.ready k (pass u g m) past place_is.0 set place_is.1 v l r.0 r.1
    given_up pl past v l (inr r) =
        turn_stopped pl (come t p n) p.at goes.ready k (pass u g m) past place_is.0 set place_is.1 v l r
        (length (source_edges t.graph pl (come t p n) (source_at (sources p.graph) k))) g l refl (no_cost refl)

-- ---- the sources of a pass, stepped at a place

-- where the pass stands this is asked
abbrev pub place_of : Pass → Question → ReadingPlace
place_of p ask = record { at = p.at; ask = ask }

-- the first k of them have been
pub record IsSteppedTo (ask : Question) (t : Tabled) (p : Pass) (n k : ℕ) (u : Tabled) (q : Pass) (m : ℕ) : Type 0 where
  pub stepping : IsStepping t.graph (place_of p ask) (come t p n) (take k (sources p.graph)) (pass u q.graph m)
  pub turned : IsTurned p.graph k p.at q.graph
  pub known : q.known ≡ p.known
  pub search : q.search ≡ p.search

module _ {ask : Question} {t : Tabled} {p : Pass} {n : ℕ} (goes : GoesOn t p) where
  pub stepped_none : IsSteppedTo ask t p n 0 t p n
  stepped_none = record { stepping = stepping_none t.graph (place_of p ask) (come t p n) p.at goes.ready; turned = turned_first t p n goes; known = refl; search = refl }

  module _ {k : ℕ} {u : Tabled} {q : Pass} {m : ℕ} (past : IsSteppedTo ask t p n k u q m) where
    abbrev so_far : Progress
    so_far = pass u q.graph m

    module _ (within : k < length p.graph.layer) {set : ℕ} (named : slice_get (sets_of q.graph.layer) k ≡ Some set) where
      step_place : (k < length (sources p.graph)) × (set ≡ (source_at (sources p.graph) k).set)
      step_place = place_is t p n goes k u q.graph m past.turned within set named

      pub stepped_given : set < length u.sets
      stepped_given = turn_given (place_of p ask) (come t p n) p.at goes.ready k so_far past.stepping.spent step_place.0 set step_place.1

      -- it was given up
      pub stepped_gives_up : {v : Tabled} {l : ℕ} {e : TableFault} → HasNotTurned u v set ask m l → IsRefusal (once_asked u (look_up u set ask)) e →
          GivesUp (place_of p ask ∷ []) t p n v l e
      stepped_gives_up {v} {l} {e} refused why = record {
        stopped = stopped_at t.graph (place_of p ask) (come t p n) (stop v l) (given_up t p n goes k u q.graph m past.turned within set named (place_of p ask) past.stepping.spent v l refused);
        cause = place_cause (place_of p ask) (come t p n) e (turn_cause (place_of p ask) (come t p n) p.at goes.ready k so_far past.stepping.spent step_place.0 set step_place.1 e why);
      }

      -- one more has been stepped
      pub stepped_more : {v : Tabled} {H : Graph} {l : ℕ} → HasTurned u v set ask p.at q.graph H m l → AreApart (targets H) →
          IsSteppedTo ask t p n (k + 1) v (record { graph = H; known = q.known; search = q.search; at = q.at }) l
      stepped_more {v} {H} {l} h apart = record {
        stepping =
            turn_stepped (place_of p ask) (come t p n) p.at goes.ready k so_far past.stepping.spent step_place.0 set step_place.1 v h.middle h.made h.by h.edges
            past.stepping H l h.stepped (source_is past.turned step_place.0 h.stepped) (rw (target_sets H) at apart.distinct) h.cost;
        turned = turned_more past.turned step_place.0 h.stepped;
        known = past.known;
        search = past.search;
      }

    -- all have been stepped, and the graph has gone to the next layer
    module _ (full : k ≡ length p.graph.layer) (H : Graph) (sources_are : sources H ≡ targets q.graph) (cells : H.cells ≡ q.graph.cells) (begun : H.stepped ≡ 0) (none : H.next ≡ []) where
      all : k ≡ length (sources p.graph)
      all = full ∙ layer_count t p n goes

      read_here : HasRead t.graph (place_of p ask ∷ []) (come t p n) (pass u H m)
      read_here = turns_read (place_of p ask) (come t p n) p.at k goes.ready so_far past.stepping all H sources_are cells

      pub stepped_all : (to : ℕ) → p.at ≤ to →
          ((x : Source) (e : Reach) (b : ℕ × ℕ) → Has (sources p.graph) x → Has (source_edges t.graph (place_of p ask) (come t p n) x) e → Has (mark_block p.at e.marks) b → b.0 < to) →
          PassReads (place_of p ask ∷ []) t p n u (record { graph = H; known = q.known; search = q.search; at = to }) m
      stepped_all to later blocks = record {
        read = read_here;
        goes_on = record {
          ready = turns_ready (place_of p ask) (come t p n) p.at k goes.ready so_far past.stepping all H sources_are cells to later blocks begun none;
          known = subst (λ known. Knows u known) (sym past.known) (known_read _ _ _ _ _ _ _ read_here.table goes.known);
          waits = subst (λ (search : Search). KnowsWaiting u.graph.ways search.ahead.waiting) (sym past.search)
              (subst (λ A. KnowsWaiting A.ways p.search.ahead.waiting) (sym read_here.table.graph) goes.waits);
        };
      }

-- ---- or ended

-- the first k of them have been
pub record IsEndedTo (t : Tabled) (p : Pass) (n k : ℕ) (u : Tabled) (g : Graph) (m : ℕ) : Type 0 where
  pub ending : IsEnding t.graph p.at (come t p n) (take k (sources p.graph)) (pass u g m)
  pub turned : IsTurned p.graph k p.at g
  pub only : (s : ℕ) → Has (sets_of g.next) s → s ≡ 0

module _ {t : Tabled} {p : Pass} {n : ℕ} (goes : GoesOn t p) where
  pub ended_none : IsEndedTo t p n 0 t p.graph n
  ended_none = record {
    ending = ending_none t.graph p.at (come t p n) p.at goes.ready;
    turned = turned_first t p n goes;
    only = only_none p.graph goes.ready.fresh.1;
  }

  module _ {k : ℕ} {u : Tabled} {g : Graph} {m : ℕ} (past : IsEndedTo t p n k u g m) where
    pub ended_many : length g.layer ≡ length p.graph.layer
    ended_many = ap length past.turned.layer

    abbrev ended_so_far : Progress
    ended_so_far = pass u g m

    module _ (within : k < length p.graph.layer) {set : ℕ} (named : slice_get (sets_of g.layer) k ≡ Some set) where
      end_place : (k < length (sources p.graph)) × (set ≡ (source_at (sources p.graph) k).set)
      end_place = place_is t p n goes k u g m past.turned within set named

      pub ended_given : set < length u.sets
      ended_given = turn_given (end_at p.at) (come t p n) p.at goes.ready k ended_so_far past.ending.spent end_place.0 set end_place.1

      -- it was given up
      pub ended_gives_up : {v : Tabled} {l : ℕ} {e : TableFault} → HasNotTurned u v set ended m l → IsRefusal (once_asked u (look_up u set ended)) e → GivesUpEnd t p n v l e
      ended_gives_up {v} {l} {e} refused why = record {
        stopped = given_up t p n goes k u g m past.turned within set named (end_at p.at) past.ending.spent v l refused;
        cause = turn_cause (end_at p.at) (come t p n) p.at goes.ready k ended_so_far past.ending.spent end_place.0 set end_place.1 e why;
      }

      -- one more has been ended
      pub ended_more : {v : Tabled} {H : Graph} {l : ℕ} → HasTurnedEnd u v set p.at g H m l → IsEndedTo t p n (k + 1) v H l
      ended_more {v} {H} {l} h = record {
        ending =
            turn_ended p.at (come t p n) goes.ready k ended_so_far past.ending end_place.0 set end_place.1 v h.middle h.made h.by h.ends
            H l h.stepped (source_is past.turned end_place.0 h.stepped) h.cost;
        turned = turned_more past.turned end_place.0 h.stepped;
        only = only_more h.by past.only h.stepped;
      }

    -- all have been ended
    module _ (full : k ≡ length p.graph.layer) where
      all_ended_here : k ≡ length (sources p.graph)
      all_ended_here = full ∙ layer_count t p n goes

      pub ended_all : PassEnds t p n u g m
      ended_all =
          all_ended t.graph p.at (come t p n) ended_so_far
          (subst (λ done. IsEnding t.graph p.at (come t p n) done ended_so_far) (ap (λ j. take j (sources p.graph)) all_ended_here ∙ take-length (sources p.graph)) past.ending)
          (past.turned.stepped ∙ all_ended_here)

      pub ended_every : g.stepped ≡ length g.layer
      ended_every = omega (arith, ap length past.turned.layer, full, past.turned.stepped)
