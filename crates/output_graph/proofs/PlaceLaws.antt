-- A position past all words of the layer is past all blocks of the cells: each cell is reached from the layer, so its block stands in a word.
use Rattle.std.proofs.Common.{◌≡◌, ◌↔◌, ℕ, ◌+◌, ◌<◌, ◌≤◌, max, Bool, true, false, List, [], ◌∷◌, ◌++◌, drop, slice_get, Option, Some, None, inl, inr, refl, sym, ap, ◌∙◌, subst, arith, if◌then◌else◌, nat_eq, eq-eqb}
use Rattle.std.proofs.lemmas.Bool.{cases_eq}
use Rattle.span_core.specs.Lists.{Has}
use Rattle.node_arena.specs.Words.{Word, words, words_from, words_also, block_of}
use Rattle.node_arena.specs.Cells.{NamedLink, HasCell, Holds, hold, Names, IsLive, held, named}
use Rattle.output_graph.specs.Grown.{past, AreGrown}
use Rattle.output_graph.specs.Forward.{Layer, cell_of}
use Rattle.output_graph.specs.Graph.{Graph, sources, source_of, IsPast, IsPlace, IsStepped}
use Rattle.output_graph.specs.Source.{Edges, Descend}
use Rattle.output_graph.specs.Sound.{CanEnd, HasEnded, IsPlaceOf, IsSound, graph_of}
use Rattle.span_core.proofs.HasLaws.{Has-append_left, Has-append_right, Has-map_cases}
use Rattle.output_graph.proofs.WordLemmas.{words_here, words_other, other_name}
use Rattle.output_graph.proofs.WordCases.{word_by_also, word_by_from, block_some}
use Rattle.output_graph.proofs.SteppedLaws.{can_step, has_source, is_stepped, sound_after}

-- what a cell names is there
pub named_there : (cells : List NamedLink) (l : NamedLink) (k : ℕ) → AreGrown cells → Has cells l → Names l k → HasCell cells k
named_there [] l k g h n = absurd h
named_there (m ∷ older) l k g (inl e) n =
    elim (subst (λ (x : NamedLink). Names x k) (sym e) n) as (λ _. HasCell (m ∷ older) k) [
      | inl a ↦ let r = g.0.from_there k a in (r.0, inr r.1, r.2)
      | inr a ↦ let r = g.0.also_there k a in (r.0, inr r.1, r.2)
    ]
named_there (m ∷ older) l k g (inr h) n = let r = named_there older l k g.1 h n in (r.0, inr r.1, r.2)

unmarked_in : (cells : List NamedLink) (l : NamedLink) → AreGrown cells → Has cells l → l.from ≡ None → l.marks ≡ 0
unmarked_in [] l g h is = absurd h
unmarked_in (m ∷ older) l g (inl e) is = ap (λ (x : NamedLink). x.marks) (sym e) ∙ g.0.unmarked (ap (λ (x : NamedLink). x.from) e ∙ is)
unmarked_in (m ∷ older) l g (inr h) is = unmarked_in older l g.1 h is

-- the words of a cell stand in those of the cells that name it
pub in_from : (cells : List NamedLink) (l : NamedLink) (c : ℕ) (u : Word) → AreGrown cells → Has cells l → l.from ≡ Some c → Has (words cells c) u → Has (words cells l.name) (u ++ block_of l)
in_from [] l c u g h is hu = absurd h
in_from (m ∷ older) l c u g (inl e) is hu =
    let is' : m.from ≡ Some c = ap (λ (x : NamedLink). x.from) e ∙ is in
    let ne = other_name older m c g.0.fresh (g.0.from_there c is') in
    let hu' : Has (words older c) u = subst (λ ws. Has ws u) (words_other m older c ne) hu in
    subst (λ (x : NamedLink). Has (words (m ∷ older) x.name) (u ++ block_of x)) e (word_by_from m older c u is' hu')
in_from (m ∷ older) l c u g (inr h) is hu =
    let ne = other_name older m c g.0.fresh (named_there older l c g.1 h (inl is)) in
    let ne_l = other_name older m l.name g.0.fresh (l, h, refl) in
    let hu' : Has (words older c) u = subst (λ ws. Has ws u) (words_other m older c ne) hu in
    subst (λ ws. Has ws (u ++ block_of l)) (sym (words_other m older l.name ne_l)) (in_from older l c u g.1 h is hu')

pub in_also : (cells : List NamedLink) (l : NamedLink) (c : ℕ) (u : Word) → AreGrown cells → Has cells l → l.also ≡ Some c → Has (words cells c) u → Has (words cells l.name) u
in_also [] l c u g h is hu = absurd h
in_also (m ∷ older) l c u g (inl e) is hu =
    let is' : m.also ≡ Some c = ap (λ (x : NamedLink). x.also) e ∙ is in
    let ne = other_name older m c g.0.fresh (g.0.also_there c is') in
    let hu' : Has (words older c) u = subst (λ ws. Has ws u) (words_other m older c ne) hu in
    subst (λ (x : NamedLink). Has (words (m ∷ older) x.name) u) e (word_by_also m older c u is' hu')
in_also (m ∷ older) l c u g (inr h) is hu =
    let ne = other_name older m c g.0.fresh (named_there older l c g.1 h (inr is)) in
    let ne_l = other_name older m l.name g.0.fresh (l, h, refl) in
    let hu' : Has (words older c) u = subst (λ ws. Has ws u) (words_other m older c ne) hu in
    subst (λ ws. Has ws u) (sym (words_other m older l.name ne_l)) (in_also older l c u g.1 h is hu')

word_here : (m : NamedLink) (older : List NamedLink) → AreGrown (m ∷ older) → (o : Option ℕ) → m.from ≡ o → ((d : ℕ) → HasCell older d → (u : Word) × Has (words older d) u) →
    (u : Word) × Has (words (m ∷ older) m.name) u
word_here m older g None is f = (
  [],
  subst (λ ws. Has ws []) (sym (words_here m older))
      (Has-append_left (words_from (words older) (block_of m) m.from) (words_also (words older) m.also) [] (subst (λ o. Has (words_from (words older) (block_of m) o) []) (sym is) (inl refl))),
)
word_here m older g (Some d) is f = let r = f d (g.0.from_there d is) in (r.0 ++ block_of m, word_by_from m older d r.0 is r.1)

-- each cell has a word
pub has_word : (cells : List NamedLink) (c : ℕ) → AreGrown cells → HasCell cells c → (u : Word) × Has (words cells c) u
has_word [] c g there = absurd there.1
has_word (m ∷ older) c g (l, inl e, is) =
    let r = word_here m older g m.from refl (λ d h. has_word older d g.1 h) in
    let name : m.name ≡ c = ap (λ (x : NamedLink). x.name) e ∙ is in
    (r.0, subst (λ n. Has (words (m ∷ older) n) r.0) name r.1)
has_word (m ∷ older) c g (l, inr h, is) =
    let r = has_word older c g.1 (l, h, is) in
    let ne = other_name older m c g.0.fresh (l, h, is) in
    (r.0, subst (λ ws. Has ws r.0) (sym (words_other m older c ne)) r.1)

-- a word of a live cell begins a word of a held one, or is part of it
live_word : (cells : List NamedLink) (holds : Holds) → AreGrown cells → {c : ℕ} → IsLive holds cells c → (u : Word) → Has (words cells c) u →
    (d : ℕ) × (w : Word) × (0 < hold holds d) × Has (words cells d) w × ((x : ℕ × ℕ) → Has u x → Has w x)
live_word cells holds g {c = c} (held h) u hu = (c, u, h, hu, λ x hx. hx)
live_word cells holds g {c = c} (named l hl (inl is) live) u hu =
    let r = live_word cells holds g live (u ++ block_of l) (in_from cells l c u g hl is hu) in
    (r.0, r.1, r.2, r.3, λ x hx. r.4 x (Has-append_left u (block_of l) x hx))
live_word cells holds g {c = c} (named l hl (inr is) live) u hu = live_word cells holds g live u (in_also cells l c u g hl is hu)

past_by : (b : Bool) (m n at : ℕ) → nat_eq m 0 ≡ b → n ≤ at → (0 < m → (k : ℕ) → k < at → k + 1 ≤ at) → (l : ℕ) → (0 < m → l < at) → (if b then n else max n (l + 1)) ≤ at
past_by true m n at e le up l lt = le
past_by false m n at e le up l lt =
    let some : 0 < m = elim (cases_eq m 0) as (λ _. 0 < m) [ inl z ↦ (let clash : true ≡ false = sym (eq-eqb m 0 z) ∙ e in cc) | inr ne ↦ grind arith ] in
    let h = lt some in omega arith

pub past_le : (cells : List NamedLink) (at : ℕ) → ((l : NamedLink) → Has cells l → 0 < l.marks → l.at < at) → past cells ≤ at
past_le [] at f = omega arith
past_le (l ∷ older) at f = past_by (nat_eq l.marks 0) l.marks (past older) at refl (past_le older at (λ m h. f m (inr h))) (λ some k h. omega arith) l.at (f l (inl refl))

module _ (g : Graph) (holds : Holds) (sound : IsSound g holds) (live : (c : ℕ) → HasCell g.cells c ↔ IsLive holds g.cells c) (at : ℕ) where
  first_marked : (new : g.stepped ≡ 0) → IsPast (sources g) at → (l : NamedLink) → Has g.cells l → 0 < l.marks → (o : Option ℕ) → l.from ≡ o → l.at < at
  first_marked new past l hl some None is =
      let r = sound.ready (Rattle.output_graph.specs.Grown.past g.cells) (inl (new, omega arith)) in
      let z = unmarked_in g.cells l r.among.between.growing.grown hl is in
      absurd (omega arith)
  first_marked new past l hl some (Some c) is =
      let r = sound.ready (Rattle.output_graph.specs.Grown.past g.cells) (inl (new, omega arith)) in
      let grown = r.among.between.growing.grown in
      let v = has_word g.cells c grown (named_there g.cells l c grown hl (inl is)) in
      let w = live_word g.cells holds grown ((live l.name).0 (l, hl, refl)) (v.0 ++ block_of l) (in_from g.cells l c v.0 grown hl is v.1) in
      let here : Has (v.0 ++ block_of l) (l.at, l.marks) =
      Has-append_right v.0 (block_of l) (l.at, l.marks) (subst (λ (b : Word). Has b (l.at, l.marks)) (sym (block_some l g.cells some)) (inl refl)) in
      elim (r.among.held.only w.0 w.2) as (λ _. l.at < at) [
        | inl h ↦
            let p = Has-map_cases (λ (x : ℕ × ℕ). x.1) (drop g.stepped g.layer) w.0 h in
            past p.0.0 w.1 (l.at, l.marks)
            (source_of g.cells p.0, has_source g.cells (drop g.stepped g.layer) p.0 p.1, refl, subst (λ n. Has (words g.cells n) w.1) (sym p.2) w.3)
            (w.4 (l.at, l.marks) here)
        | inr b ↦ (let clash : None ≡ Some w.0 = subst (λ (n : Layer). cell_of n b.0 ≡ Some w.0) (sound.fresh new) b.1 in cc)
      ]

  pub place_of : IsPlace g at → IsPlaceOf g at
  place_of (inl a) = inl (a.0, past_le g.cells at (λ l hl some. first_marked a.0 a.1 l hl some l.from refl))
  place_of (inr b) = inr b

-- source k of a graph that is seen as t, the first that is left
module _ {g t : Graph} {holds : Holds} (sound : IsSound g holds) (seen : g ≡ t) (live : (c : ℕ) → HasCell g.cells c ↔ IsLive holds g.cells c) {k : ℕ} (source : k ≡ t.stepped)
    {p : ℕ × ℕ} (there : slice_get g.layer k ≡ Some p) {at : ℕ} (place : IsPlace t at) (edges : Edges) (descend : Descend edges) where
  same : k ≡ g.stepped
  same = source ∙ sym (ap (λ (x : Graph). x.stepped) seen)

  first : slice_get g.layer g.stepped ≡ Some p
  first = rw same at there

  here : IsPlaceOf g at
  here = place_of g holds sound live at (subst (λ (x : Graph). IsPlace x at) (sym seen) place)

  -- its edges may be made
  pub source_can : CanEnd at p.1 edges g.cells g.next holds
  source_can = can_step sound first here edges descend

  module _ {cells : List NamedLink} {next : Layer} {holds_after : Holds} (ended : HasEnded at p.1 edges g.cells g.next holds cells next holds_after) where
    -- once they are made, the graph is sound
    pub source_sound : IsSound (graph_of cells g.layer next (k + 1) at) holds_after
    source_sound = rw same (sound_after sound first here edges descend ended)

    -- and has been stepped
    pub source_stepped : IsStepped t at edges (graph_of cells g.layer next (k + 1) at)
    source_stepped = rw (← seen, same) (is_stepped sound first here edges descend ended)
