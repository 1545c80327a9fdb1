-- All sources of a layer, by the actions of a plan.
use Rattle.std.proofs.Common.{◌≡◌, ℕ, zero, suc, ◌+◌, ◌<◌, ◌≤◌, List, [], ◌∷◌, map, take, drop, length, Some, inr, refl, sym, ap, ◌∙◌, subst, arith, slice_get, add-one}
use Rattle.node_arena.specs.Cells.{Holds, NamedLink}
use Rattle.output_graph.specs.declared.program.Action.{Action}
use Rattle.output_graph.specs.declared.program.Move.{Move}
use Rattle.output_graph.specs.declared.program.Plan.{Plan}
use Rattle.output_graph.specs.Forward.{Layer}
use Rattle.output_graph.specs.Source.{Edges, Descend}
use Rattle.output_graph.specs.Graph.{AreApart, Graph, IsCost, IsStepped, sets_of, source_of, targets}
use Rattle.output_graph.specs.Sound.{IsPlaceOf, IsSound, IsSpent, graph_of}
use Rattle.output_graph.specs.Plans.{IsPlan, Places, all_actions, all_places, nowhere, places_after, places_of}
use Rattle.output_graph.specs.Programs.{AllDescend, ArePlaced, AreCounted, AreStepped, IsNext, cut, edges_in, targets_from}
use Rattle.output_graph.specs.Running.{AreHeld, HasRun, Leads, Point, Runs, point}
use Rattle.output_graph.proofs.GraphLaws.{targets_apart}
use Rattle.output_graph.proofs.HeldLaws.{cell_there, held_once}
use Rattle.output_graph.proofs.LayerLaws.{layer_sound, next_is_layer}
use Rattle.output_graph.proofs.RunLaws.{made_none, source_leads}
use Rattle.output_graph.proofs.SteppedLaws.{can_step, is_cost, is_stepped, sound_after}
use Rattle.output_graph.proofs.ProgramLaws.{edges_drop, edges_take, placed_drop, placed_take, targets_split}
use Rattle.output_graph.proofs.PlanLaws.{nothing}

pub source_there : (sources : Layer) (k : ℕ) → k < length sources → (p : ℕ × ℕ) × (slice_get sources k ≡ Some p)
source_there [] k h = absurd (omega arith)
source_there (p ∷ sources) zero h = (p, refl)
source_there (p ∷ sources) (suc k) h = source_there sources k (omega arith)

spent_later : (edges old new before after k : ℕ) → IsSpent edges old new before after → IsSpent edges old new (before + k + 1) (after + (k + 1))
spent_later edges old new before after k s =
    let few = s.few in
    let more = s.more in
    let bound = s.bound in
    record { made = s.made; few = omega arith; more = omega arith; bound = omega arith }

-- the first k sources have been stepped; so many sources with these moves are left
pub record IsGoing (sources : Layer) (first : Graph) (at : ℕ) (groups : List Edges) (before : ℕ) (sets : List ℕ) (fin : Places) (every : ℕ)
    (counts : List ℕ) (left : List Move) (k : ℕ) (s : Places) (made : List ℕ) (cells : List NamedLink) (next : Layer) (holds : Holds) (now : ℕ) : Type 0 where
  pub last : ℕ
  pub onward : (h : Graph) (after : ℕ) → AreStepped (graph_of cells sources next k last) at (cut counts (edges_in left)) h (now + k) after → AreStepped first at groups h before after
  pub sound : IsSound (graph_of cells sources next k last) holds
  pub place : IsPlaceOf (graph_of cells sources next k last) at
  pub counted : AreCounted counts (edges_in left)
  pub descend : AllDescend (cut counts (edges_in left))
  pub placed : ArePlaced (sets_of next) left
  pub targets : targets_from (sets_of next) left ≡ sets
  pub held : AreHeld sources made s.held next
  pub count : s.made ≡ length made
  pub places : all_places k s counts left ≡ fin
  pub all_sources : k + length counts ≡ every
  pub within : every ≤ length sources

module _ (sources : Layer) (first : Graph) (at : ℕ) (groups : List Edges) (before : ℕ) (sets : List ℕ) (fin : Places) (every : ℕ) (Then : Point → Type 0)
    (ends : (last : ℕ) (made : List ℕ) (cells : List NamedLink) (next : Layer) (holds : Holds) (now : ℕ) → AreStepped first at groups (graph_of cells sources next every last) before (now + every) →
    IsSound (graph_of cells sources next every last) holds → AreHeld sources made fin.held next → sets_of next ≡ sets → Then (point made cells holds now)) where
  none_left : (left : List Move) (k : ℕ) (s : Places) (made : List ℕ) (cells : List NamedLink) (next : Layer) (holds : Holds) (now : ℕ) →
      IsGoing sources first at groups before sets fin every [] left k s made cells next holds now → Then (point made cells holds now)
  none_left left k s made cells next holds now going =
      let all : k ≡ every = (let e = going.all_sources in omega arith) in
      ends going.last made cells next holds now
      (subst (λ (n : ℕ). AreStepped first at groups (graph_of cells sources next n going.last) before (now + n)) all (going.onward (graph_of cells sources next k going.last) (now + k) (refl, refl)))
      (subst (λ (n : ℕ). IsSound (graph_of cells sources next n going.last) holds) all going.sound)
      (subst (λ (p : Places). AreHeld sources made p.held next) going.places going.held)
      (ap (λ (ms : List Move). targets_from (sets_of next) ms) (sym (nothing left going.counted)) ∙ going.targets)

  pub all_lead : (counts : List ℕ) (left : List Move) (k : ℕ) (s : Places) (made : List ℕ) (cells : List NamedLink) (next : Layer) (holds : Holds) (now : ℕ) →
      IsGoing sources first at groups before sets fin every counts left k s made cells next holds now → Leads sources at Then (all_actions k s counts left) (point made cells holds now)
  all_lead [] left k s made cells next holds now going = none_left left k s made cells next holds now going
  all_lead (n ∷ counts) left k s made cells next holds now going =
      let mine : List Move = take n left in
      let later : List Move = drop n left in
      let here : Graph = graph_of cells sources next k going.last in
      let is = source_there sources k (let a = going.all_sources in let b = going.within in omega arith) in
      let p : ℕ × ℕ = is.0 in
      let there : slice_get sources k ≡ Some p = is.1 in
      let falls : Descend (edges_in mine) = subst (λ (es : Edges). Descend es) (sym (edges_take left n)) going.descend.0 in
      source_leads sources at k p.1 Then (all_actions (suc k) (places_after k s mine) counts later) (cell_there sources k p there) cells next holds
      now (edges_in mine) (targets_from (sets_of next) mine) (places_after k s mine)
      (λ cells_after next_after holds_after made_after after ended spent more sets_after held_after count_after.
      let new : Graph = graph_of cells_after sources next_after (k + 1) at in
      let sound : IsSound new holds_after = sound_after going.sound there going.place (edges_in mine) falls ended in
      let step : IsStepped here at (edges_in mine) new = is_stepped going.sound there going.place (edges_in mine) falls ended in
      let cost : IsCost (length (edges_in mine)) (length cells) (length cells_after) (now + k) (after + (k + 1)) =
      is_cost (length (edges_in mine)) (length cells) (length cells_after) (now + k) (after + (k + 1)) (spent_later (length (edges_in mine)) (length cells) (length cells_after) now after k spent) in
      let apart : AreApart (targets new) = targets_apart new holds_after sound in
      all_lead counts later (suc k) (places_after k s mine) made_after cells_after next_after holds_after after
      (subst (λ (j : ℕ). IsGoing sources first at groups before sets fin every counts later j (places_after k s mine) made_after cells_after next_after holds_after after) (add-one k) (record {
        last = at;
        onward = λ h m stepped.
            going.onward h m
            (subst (λ (es : Edges). AreStepped here at (es ∷ cut counts (drop n (edges_in left))) h (now + k) m) (edges_take left n)
            (subst (λ (es : Edges). AreStepped here at (edges_in mine ∷ cut counts es) h (now + k) m) (edges_drop left n) (new, after + (k + 1), step, cost, apart, stepped)));
        sound = sound;
        place = inr (omega arith, refl);
        counted = subst (λ (es : Edges). AreCounted counts es) (sym (edges_drop left n)) going.counted.1;
        descend = subst (λ (es : Edges). AllDescend (cut counts es)) (sym (edges_drop left n)) going.descend.1;
        placed = subst (λ (ss : List ℕ). ArePlaced ss later) (sym sets_after) (placed_drop (sets_of next) left n going.placed);
        targets = ap (λ (ss : List ℕ). targets_from ss later) sets_after ∙ (targets_split (sets_of next) left n ∙ going.targets);
        held = held_after;
        count = count_after;
        places = ap (λ (j : ℕ). all_places j (places_after k s mine) counts later) (add-one k) ∙ going.places;
        all_sources = (let a = going.all_sources in omega arith);
        within = going.within;
      })))
      [] mine s made cells next holds now (record {
        split = refl;
        so_far = made_none at p.1 cells next holds;
        can = can_step going.sound there going.place (edges_in mine) falls;
        placed = placed_take (sets_of next) left n going.placed;
        targets = refl;
        held = going.held;
        count = going.count;
        places = refl;
        counted = omega arith;
      })

-- a plan may be run on the layer whose sources it has
pub plan_leads : (p : Plan) (sources : Layer) (at was before : ℕ) (cells : List NamedLink) (holds : Holds) → IsPlan p → IsSound (graph_of cells sources [] 0 was) holds →
    IsPlaceOf (graph_of cells sources [] 0 was) at → length p.counts.items ≡ length sources →
    Leads sources at (Runs (graph_of cells sources [] 0 was) at p before) p.actions.items (point [] cells holds before)
plan_leads p sources at was before cells holds is sound place every =
    let first : Graph = graph_of cells sources [] 0 was in
    subst (λ (xs : List Action). Leads sources at (Runs first at p before) xs (point [] cells holds before)) is.actions
    (all_lead sources first at (cut p.counts.items (edges_in p.moves.items)) before p.targets.items (places_of p.held.items p.made) (length p.counts.items) (Runs first at p before)
    (λ last made cells_after next holds_after now stepped sound_there held sets. record { next = next; last = last; stepped = stepped; sound = sound_there; held = held; sets = sets })
    p.counts.items p.moves.items 0 nowhere [] cells [] holds before (record {
      last = was;
      onward = λ h after stepped. subst (λ (n : ℕ). AreStepped first at (cut p.counts.items (edges_in p.moves.items)) h n after) (omega arith) stepped;
      sound = sound;
      place = place;
      counted = is.counted;
      descend = is.descend;
      placed = is.placed;
      targets = is.targets;
      held = tt;
      count = refl;
      places = is.places;
      all_sources = omega arith;
      within = omega arith;
    }))

drop_whole : (layer : Layer) → drop 0 layer ≡ layer
drop_whole [] = refl
drop_whole (p ∷ layer) = refl

pub next_is : (all new : Graph) → all.stepped ≡ length all.layer → new.cells ≡ all.cells → new.layer ≡ all.next → new.next ≡ [] → new.stepped ≡ 0 → IsNext all new
next_is all new every cells layer next stepped = record {
  every = every;
  cells = cells;
  layer = layer;
  next = next;
  stepped = stepped;
  sources =
      ap (λ (n : ℕ). map (source_of new.cells) (drop n new.layer)) stepped
      ∙ (ap (λ (l : Layer). map (source_of new.cells) l) (drop_whole new.layer ∙ layer)
      ∙ ap (λ (cs : List NamedLink). map (source_of cs) all.next) cells);
  targets = ap (λ (l : Layer). map (source_of new.cells) l) next;
}

-- a layer of which no source has been stepped
pub layer_begun : (cells : List NamedLink) (layer next : Layer) (k was : ℕ) (holds : Holds) → IsSound (graph_of cells layer next k was) holds → k ≡ 0 → IsSound (graph_of cells layer [] 0 was) holds
layer_begun cells layer next k was holds sound none =
    let begun : IsSound (graph_of cells layer next 0 was) holds = subst (λ (j : ℕ). IsSound (graph_of cells layer next j was) holds) none sound in
    subst (λ (l : Layer). IsSound (graph_of cells layer l 0 was) holds) (begun.fresh refl) begun

-- the layer has been stepped, and the next one stands in its place
module _ (first : Graph) (at : ℕ) (p : Plan) (before : ℕ) (made : List ℕ) (cells : List NamedLink) (holds : Holds) (after : ℕ) (run : HasRun first at p before made cells holds after)
    (layer : Layer) (held : AreHeld first.layer made p.held.items layer) (sets : sets_of layer ≡ p.targets.items) (every : length p.counts.items ≡ length first.layer) where
  abbrev pub all : Graph
  all = graph_of cells first.layer run.next (length p.counts.items) run.last

  pub layer_is : layer ≡ run.next
  layer_is = held_once first.layer made p.held.items layer run.next held run.held (sets ∙ sym run.sets)

  pub run_sound : (was : ℕ) → IsSound (graph_of cells layer [] 0 was) holds
  run_sound was = subst (λ (l : Layer). IsSound (graph_of cells l [] 0 was) holds) (sym layer_is) (layer_sound cells run.next was holds (next_is_layer all holds run.sound every))

  pub run_next : (was : ℕ) → IsNext all (graph_of cells layer [] 0 was)
  run_next was = next_is all (graph_of cells layer [] 0 was) every refl layer_is refl refl
