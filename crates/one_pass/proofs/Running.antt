-- A layer that is stepped by a program of its sets' edges has been read.
use Rattle.std.proofs.Common.{◌≡◌, ℕ, zero, suc, ◌+◌, ◌<◌, List, [], ◌∷◌, length, drop, Some, refl, sym, ap, subst, arith, ◌∙◌, add-one}
use Rattle.std.specs.Prelude.{slice_get}
use Rattle.std.proofs.lemmas.List.{length-map}
use Rattle.std.proofs.lemmas.Option.{slice_get_within}
use Rattle.span_core.specs.declared.edge.Edge.{Edge}
use Rattle.automaton_reading.specs.Reading.{byte_read}
use Rattle.set_table.specs.Tabled.{Tabled, look_up}
use Rattle.set_table.proofs.OnceLaws.{once_is_same}
use Rattle.output_graph.specs.Graph.{AreApart, Graph, IsCost, IsStepped, sets_of, targets}
use Rattle.output_graph.specs.Programs.{AreStepped, IsRun}
use Rattle.output_graph.specs.Source.{Edges}
use Rattle.one_pass.specs.declared.pass.Pass.{Pass}
use Rattle.one_pass.specs.Going.{GoesOn, PassReads, come}
use Rattle.one_pass.specs.Known.{AreLookUps, IsLookUp}
use Rattle.one_pass.specs.Passes.{AllStayOn}
use Rattle.one_pass.specs.Places.{byte_at}
use Rattle.one_pass.specs.Turned.{HasTurned}
use Rattle.one_pass.proofs.Faulting.{ready_later}
use Rattle.one_pass.proofs.PlaceLaws.{block_at, stays_read}
use Rattle.one_pass.proofs.Telling.{stays_tells}
use Rattle.one_pass.proofs.Sources.{IsSteppedTo, stepped_all, stepped_more, stepped_none}

drop_first : (xs : List ℕ) (k s : ℕ) (rest : List ℕ) → drop k xs ≡ s ∷ rest → slice_get xs k ≡ Some s
drop_first [] zero s rest e = cc
drop_first [] (suc k) s rest e = cc
drop_first (x ∷ xs) zero s rest e = ap Some (first x s xs rest e)
  where
    first : (x y : ℕ) (xs ys : List ℕ) → x ∷ xs ≡ y ∷ ys → x ≡ y
    first x y xs ys e = cc
drop_first (x ∷ xs) (suc k) s rest e = drop_first xs k s rest e

drop_rest : (xs : List ℕ) (k s : ℕ) (rest : List ℕ) → drop k xs ≡ s ∷ rest → drop (suc k) xs ≡ rest
drop_rest [] zero s rest e = cc
drop_rest [] (suc k) s rest e = cc
drop_rest (x ∷ xs) zero s rest e = later x s xs rest e
  where
    later : (x y : ℕ) (xs ys : List ℕ) → x ∷ xs ≡ y ∷ ys → xs ≡ ys
    later x y xs ys e = cc
drop_rest (x ∷ xs) (suc k) s rest e = drop_rest xs k s rest e

module _ (t : Tabled) (p : Pass) (n b : ℕ) (goes : GoesOn t p) where
  -- the first so many sources have been stepped
  abbrev SoFar : ℕ → Graph → ℕ → Type 0
  SoFar k G m = IsSteppedTo (byte_read b) t p n k t (record { graph = G; known = p.known; search = p.search; at = p.at }) m

  one_more : (k s : ℕ) (group : Edges) (G H : Graph) (m l : ℕ) → slice_get (sets_of p.graph.layer) k ≡ Some s → IsLookUp t b s group → SoFar k G m →
      IsStepped G p.at group H → IsCost (length group) (length G.cells) (length H.cells) m l → AreApart (targets H) → SoFar (k + 1) H l
  one_more k s group G H m l is asked past stepped cost apart =
      let w : k < length (sets_of p.graph.layer) = slice_get_within (sets_of p.graph.layer) k s is in
      let c : length (sets_of p.graph.layer) ≡ length p.graph.layer = length-map p.graph.layer (λ (x : ℕ × ℕ). x.0) in
      let turned : HasTurned t t s (byte_read b) p.at G H m l = record {
        middle = m;
        made = record { is = once_is_same t (look_up t s (byte_read b)) asked.asked; tabled = goes.ready.sound; steps = omega arith };
        by = asked.by;
        edges = asked.edges;
        stepped = subst (λ (es : Edges). IsStepped G p.at es H) (sym asked.are) stepped;
        cost = subst (λ j. IsCost j (length G.cells) (length H.cells) m l) (ap length (sym asked.are) ∙ length-map asked.by (λ (e : Edge). (e.marks, e.to))) cost;
      } in
      stepped_more goes past (omega arith) (ap (λ l. slice_get (sets_of l) k) past.turned.layer ∙ is) turned apart

  going : (groups : List Edges) (sets : List ℕ) (k : ℕ) (G H : Graph) (m l : ℕ) → drop k (sets_of p.graph.layer) ≡ sets → AreLookUps t b sets groups → SoFar k G m → AreStepped G p.at groups H m l →
      (j : ℕ) × SoFar j H l
  going [] sets k G H m l is look_ups past (same, count) = (k, subst (λ j. SoFar k H j) count (subst (λ (X : Graph). SoFar k X m) same past))
  going (group ∷ groups) [] k G H m l is look_ups past run = absurd look_ups
  going (group ∷ groups) (s ∷ sets) k G H m l is look_ups past (M, middle, stepped, cost, apart, later) =
      going groups sets (k + 1) M H middle l (ap (λ j. drop j (sets_of p.graph.layer)) (add-one k) ∙ drop_rest (sets_of p.graph.layer) k s sets is) look_ups.1
      (one_more k s group G M m middle (drop_first (sets_of p.graph.layer) k s sets is) look_ups.0 past stepped cost apart) later

-- ---- a pass that has run, or passed over a byte

module _ {t : Tabled} {p : Pass} {n b : ℕ} (goes : GoesOn t p) where
  pub run_reads : (groups : List Edges) {H : Graph} {m : ℕ} → AreLookUps t b (sets_of p.graph.layer) groups → IsRun p.graph p.at groups H n m →
      PassReads (byte_at p.at b ∷ []) t p n t (record { graph = H; known = p.known; search = p.search; at = p.at + 1 }) m
  run_reads groups {H} {m} look_ups run =
      let all : (j : ℕ) × SoFar t p n b goes j run.0 m = going t p n b goes groups (sets_of p.graph.layer) 0 p.graph run.0 n m refl look_ups (stepped_none goes) run.1 in
      let full : all.0 ≡ length p.graph.layer = omega (arith, all.1.turned.stepped, run.2.every, ap length all.1.turned.layer) in
      stepped_all goes all.1 full H run.2.sources run.2.cells run.2.stepped run.2.next (p.at + 1) (omega arith)
      (λ x e c h k w. (let same = block_at p.at e.marks c w in omega (arith, same)))

  pub stay_reads : AllStayOn t p.graph b → PassReads (byte_at p.at b ∷ []) t p n t (record { graph = p.graph; known = p.known; search = p.search; at = p.at + 1 }) n
  stay_reads stay = record {
    read = stays_read t.graph (byte_at p.at b) (come t p n) (λ x h. (stays_tells t x.set b (goes.ready.given x h) (stay x h), stay x h));
    goes_on = record { ready = ready_later (p.at + 1) goes.ready (omega arith); known = goes.known; waits = goes.waits };
  }
