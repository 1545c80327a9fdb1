-- Where one cell is live nothing in the graph speaks of a position.
use Rattle.std.proofs.Common.{◌≡◌, ℕ, ◌≤◌, Bool, true, false, List, [], ◌∷◌, ◌++◌, length, Option, Some, None, inl, inr, refl, sym, subst, arith}
use Rattle.std.specs.Prelude.{◌↔◌, IsTrue, drop, if◌then◌else◌, nat_eq}
use Rattle.span_core.specs.Lists.{Has}
use Rattle.span_core.proofs.HasLaws.{Has-append_cases, Has-map_cases}
use Rattle.node_arena.specs.Cells.{NamedLink}
use Rattle.node_arena.specs.Words.{Word, block_of, words, words_also, words_from}
use Rattle.output_graph.specs.Graph.{Graph, Source, source_of, sources}
use Rattle.set_table.specs.Tabled.{Tabled}
use Rattle.one_pass.specs.declared.pass.Pass.{Pass}
use Rattle.one_pass.specs.Ahead.{KnowsWaiting}
use Rattle.one_pass.specs.Going.{GoesOn}
use Rattle.one_pass.specs.Known.{Knows}
use Rattle.one_pass.specs.Passes.{IsReadyAt}
use Rattle.one_pass.specs.Readings.{so_far}
use Rattle.one_pass.specs.Settling.{HasRebased}
use Rattle.one_pass.specs.SoFar.{SoFar}

lone_from : (block : Word) (from : Option ℕ) (w : Word) → Has (words_from (words []) block from) w → w ≡ []
lone_from block None w (inl e) = sym e
lone_from block None w (inr n) = absurd n
lone_from block (Some c) w n = absurd n

lone_also : (also : Option ℕ) (w : Word) → Has (words_also (words []) also) w → w ≡ []
lone_also None w n = absurd n
lone_also (Some c) w n = absurd n

lone : (l : NamedLink) (c : ℕ) (w : Word) → Has (words (l ∷ []) c) w → w ≡ []
lone l c w h = go (nat_eq l.name c) h
  where
    go : (b : Bool) → Has (if b then words_from (words []) (block_of l) l.from ++ words_also (words []) l.also else words [] c) w → w ≡ []
    go true h = elim (Has-append_cases (words_from (words []) (block_of l) l.from) (words_also (words []) l.also) w h) as (λ _. w ≡ []) [
      | inl k ↦ lone_from (block_of l) l.from w k
      | inr k ↦ lone_also l.also w k
    ]
    go false n = absurd n

empty_words : (cells : List NamedLink) (c : ℕ) (w : Word) → length cells ≤ 1 → Has (words cells c) w → w ≡ []
empty_words [] c w few h = absurd h
empty_words (l ∷ []) c w few h = lone l c w h
empty_words (l ∷ m ∷ rest) c w few h = absurd (omega (arith, few))

-- so no source has a word with a position
pub lone_words : (g : Graph) → length g.cells ≤ 1 → (x : Source) (w : Word) → Has (sources g) x → Has x.words w → w ≡ []
lone_words g few x w there has =
    let p = Has-map_cases (source_of g.cells) (drop g.stepped g.layer) x there in
    empty_words g.cells p.0.1 w few (subst (λ (y : Source). Has y.words w) (sym p.2) has)

-- a reading that may go on at a position may go on at 0
pub ready_at_start : (t : Tabled) (g : Graph) (at : ℕ) → IsReadyAt t g at → length g.cells ≤ 1 → IsReadyAt t g 0
ready_at_start t g at ready few = record {
  sound = ready.sound;
  given = ready.given;
  apart = ready.apart;
  fresh = ready.fresh;
  past = λ s w b h k. absurd (subst (λ (u : Word). Has u b) (lone_words g few h.0 w h.1 h.3) k);
}

-- ---- the reading

module _ {t : Tabled} (p q : Pass) (g : GoesOn t p) (graph : q.graph ≡ p.graph) where
  ready_again : length p.graph.cells ≤ 1 → q.at ≡ 0 → IsReadyAt t q.graph q.at
  ready_again few at =
      subst (λ (h : Graph). IsReadyAt t h q.at) (sym graph) (subst (IsReadyAt t p.graph) (sym at) (ready_at_start t p.graph p.at g.ready few))

  pub rebased_goes_on : q.known ≡ p.known → q.search.ahead.waiting ≡ p.search.ahead.waiting → (b : Bool) → IsTrue b ↔ length p.graph.cells ≤ 1 →
      (b ≡ true → q.at ≡ 0) → (b ≡ false → q ≡ p) → GoesOn t q
  rebased_goes_on known waits true value at same = record {
    ready = ready_again (value.0 refl) (at refl);
    known = subst (Knows t) (sym known) g.known;
    waits = subst (KnowsWaiting t.graph.ways) (sym waits) g.waits;
  }
  rebased_goes_on known waits false value at same = subst (GoesOn t) (sym (same refl)) g

  pub rebased_here : {r : SoFar} → so_far t p ≡ r → length p.graph.cells ≤ 1 → q.at ≡ 0 → HasRebased r (so_far t q)
  rebased_here is few at = subst (λ (x : SoFar). HasRebased x (so_far t q)) is (record {
    table = refl;
    graph = graph;
    at = at;
    ready = ready_again few at;
    empty = λ set w h. lone_words p.graph few h.0 w h.1 h.3;
  })
