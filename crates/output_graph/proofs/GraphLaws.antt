-- What is always true of an output graph.
use Rattle.std.proofs.Common.{◌≡◌, ◌↔◌, ℕ, zero, suc, ◌<◌, List, [], ◌∷◌, map, drop, inl, inr, refl, sym, ap, ◌∙◌, subst, arith}
use Rattle.span_core.specs.Lists.{Has, AreDistinct}
use Rattle.node_arena.specs.Words.{Word}
use Rattle.node_arena.specs.Cells.{NamedLink, HasCell, Holds, hold, IsLive, held, named}
use Rattle.output_graph.specs.Forward.{Layer}
use Rattle.output_graph.specs.Graph.{Graph, Source, source_of, sources, targets, sets_of, AreApart, IsReached, by_source, by_target, by_cell}
use Rattle.output_graph.specs.Sound.{IsReady, IsSound, left_cells}
use Rattle.span_core.proofs.HasLaws.{Has-map_cases}
use Rattle.output_graph.proofs.StepLaws.{sets_are_apart}
use Rattle.output_graph.proofs.LayerLaws.{cells_of, cell_of_pair, pair_of_cell, some_place}
use Rattle.output_graph.proofs.SteppedLaws.{word_in, has_cell}

set_names : (cells : List NamedLink) (layer : Layer) → map (λ (x : Source). x.set) (map (source_of cells) layer) ≡ sets_of layer
set_names cells [] = refl
set_names cells (p ∷ layer) = ap (λ (xs : List ℕ). p.0 ∷ xs) (set_names cells layer)

distinct_drop : (k : ℕ) (layer : Layer) → AreDistinct (sets_of layer) → AreDistinct (sets_of (drop k layer))
distinct_drop zero layer d = d
distinct_drop (suc k) [] d = tt
distinct_drop (suc k) (p ∷ layer) d = distinct_drop k layer d.1

pub same_pair : (layer : Layer) (p q : ℕ × ℕ) → AreDistinct (cells_of layer) → Has layer p → Has layer q → p.1 ≡ q.1 → p ≡ q
same_pair [] p q d hp hq e = absurd hp
same_pair (x ∷ layer) p q d (inl a) (inl b) e = sym a ∙ b
same_pair (x ∷ layer) p q d (inl a) (inr b) e = absurd (d.0 (subst (λ n. Has (cells_of layer) n) (sym e ∙ ap (λ (y : ℕ × ℕ). y.1) (sym a)) (has_cell layer q b)))
same_pair (x ∷ layer) p q d (inr a) (inl b) e = absurd (d.0 (subst (λ n. Has (cells_of layer) n) (e ∙ ap (λ (y : ℕ × ℕ). y.1) (sym b)) (has_cell layer p a)))
same_pair (x ∷ layer) p q d (inr a) (inr b) e = same_pair layer p q d.1 a b e

module _ (g : Graph) (holds : Holds) (sound : IsSound g holds) where
  ready : IsReady (some_place g).0 g.cells (left_cells g) g.next holds
  ready = sound.ready (some_place g).0 (some_place g).1

  abbrev left : Layer
  left = drop g.stepped g.layer

  pub sources_apart : AreApart (sources g)
  sources_apart = record {
    distinct = subst (λ (xs : List ℕ). AreDistinct xs) (sym (set_names g.cells left)) (distinct_drop g.stepped g.layer sound.sets);
    one_path = λ x h.
        let p = Has-map_cases (source_of g.cells) left x h in
        let c = has_cell left p.0 p.1 in
        subst (λ (y : Source). AreDistinct y.words) p.2
        (subst (λ (ws : List Word). AreDistinct ws) (sym (ready.among.between.stepping.source_words p.0.1 c)) (ready.among.apart.one_path p.0.1 (ready.are_sources p.0.1 c)));
    apart = λ s r w hs hr.
        let p = Has-map_cases (source_of g.cells) left hs.0 hs.1 in
        let q = Has-map_cases (source_of g.cells) left hr.0 hr.1 in
        let cp = has_cell left p.0 p.1 in
        let cq = has_cell left q.0 q.1 in
        let step = ready.among.between.stepping in
        let in_p : Has (ready.W p.0.1) w = subst (λ ws. Has ws w) (step.source_words p.0.1 cp) (subst (λ (y : Source). Has y.words w) (sym p.2) hs.3) in
        let in_q : Has (ready.W q.0.1) w = subst (λ ws. Has ws w) (step.source_words q.0.1 cq) (subst (λ (y : Source). Has y.words w) (sym q.2) hr.3) in
        let cell = ready.among.apart.apart p.0.1 q.0.1 w (ready.are_sources p.0.1 cp) (ready.are_sources q.0.1 cq) in_p in_q in
        let pair = same_pair left p.0 q.0 ready.distinct p.1 q.1 cell in
        sym hs.2 ∙ (ap (λ (y : Source). y.set) (sym p.2) ∙ (ap (λ (y : ℕ × ℕ). y.0) pair ∙ (ap (λ (y : Source). y.set) q.2 ∙ hr.2)));
  }

  pub targets_apart : AreApart (targets g)
  targets_apart = record {
    distinct = subst (λ (xs : List ℕ). AreDistinct xs) (sym (set_names g.cells g.next)) ready.among.sets;
    one_path = λ x h.
        let p = Has-map_cases (source_of g.cells) g.next x h in
        subst (λ (y : Source). AreDistinct y.words) p.2 (ready.among.between.stepping.one_path p.0.0 p.0.1 (cell_of_pair g.next p.0 ready.among.sets p.1));
    apart = λ s r w hs hr.
        let a = word_in g.cells g.next s w ready.among.sets hs in
        let b = word_in g.cells g.next r w ready.among.sets hr in
        sets_are_apart ready.sources (left_cells g) ready.W (some_place g).0 ready.done g.cells g.next ready.among.apart ready.among.between.stepping ready.among.told s r a.0 b.0 w a.1 b.1 a.2 b.2;
  }

  reached_held : (c : ℕ) → 0 < hold holds c → IsReached g c
  reached_held c h = elim (ready.among.held.only c h) as (λ _. IsReached g c) [
    | inl a ↦ let p = Has-map_cases (λ (x : ℕ × ℕ). x.1) left c a in by_source p.0 p.1 p.2
    | inr b ↦ by_target (b.0, c) (pair_of_cell g.next b.0 c b.1) refl
  ]

  reached_live : {c : ℕ} → IsLive holds g.cells c → IsReached g c
  reached_live {c = c} (held h) = reached_held c h
  reached_live {c = c} (named l has n live) = by_cell l has n (reached_live live)

  live_reached : {c : ℕ} → IsReached g c → IsLive holds g.cells c
  live_reached {c = c} (by_source p h e) =
      held (subst (λ n. 0 < hold holds n) e (let one = ready.among.held.at_left p.1 (has_cell left p h) in omega arith))
  live_reached {c = c} (by_target p h e) =
      held (subst (λ n. 0 < hold holds n) e (let one = ready.among.held.at_next p.0 p.1 (cell_of_pair g.next p ready.among.sets h) in omega arith))
  live_reached {c = c} (by_cell l has n r) = named l has n (live_reached r)

  pub reached : ((c : ℕ) → HasCell g.cells c ↔ IsLive holds g.cells c) → (c : ℕ) → HasCell g.cells c ↔ IsReached g c
  reached live c = ((λ h. reached_live ((live c).0 h)), (λ r. (live c).1 (live_reached r)))
