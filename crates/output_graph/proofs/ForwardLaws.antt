-- The step of one edge.
use Rattle.std.proofs.Common.{◌≡◌, ◌⊎◌, ℕ, List, [], ◌∷◌, ◌++◌, map, Option, Some, None, inl, inr, refl, sym, ap, ◌∙◌, subst, if◌then◌else◌, nat_eq, eq-eqb, ne_eqb}
use Rattle.std.proofs.lemmas.Bool.{cases_eq, cond-true, cond-false}
use Rattle.std.proofs.lemmas.Option.{same_Some}
use Rattle.span_core.specs.Lists.{Has, AreDistinct}
use Rattle.node_arena.specs.Words.{Word, words, words_also}
use Rattle.node_arena.specs.Cells.{NamedLink, HasCell, new_link}
use Rattle.output_graph.specs.Forward.{Layer, cell_of, set_cell, mark_block, Choice, Chosen, InLayer, AreSources, Stepping}
use Rattle.span_core.proofs.HasLaws.{Has-map_cases, distinct_append}
use Rattle.output_graph.proofs.WordLemmas.{words_here, words_other, other_name}
use Rattle.output_graph.proofs.WordCases.{word_by_also, word_by_from, word_cases}
use Rattle.output_graph.proofs.Decode.{decode, distinct_map}

pub cell_of_set : (layer : Layer) (s c : ℕ) → cell_of (set_cell layer s c) s ≡ Some c
cell_of_set [] s c = cond-true (nat_eq s s) (Some c) None (eq-eqb s s refl)
cell_of_set (p ∷ layer) s c = elim (cases_eq p.0 s) as (λ _. cell_of (set_cell (p ∷ layer) s c) s ≡ Some c) [
  | inl e ↦
      let is = cond-true (nat_eq p.0 s) ((s, c) ∷ layer) (p ∷ set_cell layer s c) (eq-eqb p.0 s e) in
      ap (λ y. cell_of y s) is ∙ cond-true (nat_eq s s) (Some c) (cell_of layer s) (eq-eqb s s refl)
  | inr ne ↦
      let is = cond-false (nat_eq p.0 s) ((s, c) ∷ layer) (p ∷ set_cell layer s c) (ne_eqb p.0 s ne) in
      ap (λ y. cell_of y s) is ∙ (cond-false (nat_eq p.0 s) (Some p.1) (cell_of (set_cell layer s c) s) (ne_eqb p.0 s ne) ∙ cell_of_set layer s c)
]

pub cell_of_other : (layer : Layer) (s r c : ℕ) → (s ≡ r → ⊥) → cell_of (set_cell layer s c) r ≡ cell_of layer r
cell_of_other [] s r c ne = cond-false (nat_eq s r) (Some c) None (ne_eqb s r ne)
cell_of_other (p ∷ layer) s r c ne = elim (cases_eq p.0 s) as (λ _. cell_of (set_cell (p ∷ layer) s c) r ≡ cell_of (p ∷ layer) r) [
  | inl e ↦
      let is = cond-true (nat_eq p.0 s) ((s, c) ∷ layer) (p ∷ set_cell layer s c) (eq-eqb p.0 s e) in
      let a : cell_of ((s, c) ∷ layer) r ≡ cell_of layer r = cond-false (nat_eq s r) (Some c) (cell_of layer r) (ne_eqb s r ne) in
      let b : cell_of (p ∷ layer) r ≡ cell_of layer r = cond-false (nat_eq p.0 r) (Some p.1) (cell_of layer r) (ne_eqb p.0 r (λ q. ne (sym e ∙ q))) in
      ap (λ y. cell_of y r) is ∙ (a ∙ sym b)
  | inr other ↦
      let is = cond-false (nat_eq p.0 s) ((s, c) ∷ layer) (p ∷ set_cell layer s c) (ne_eqb p.0 s other) in
      ap (λ y. cell_of y r) is ∙ ap (λ (o : Option ℕ). if nat_eq p.0 r then Some p.1 else o) (cell_of_other layer s r c ne)
]

module _ (sources left : List ℕ) (W : ℕ → List Word) (at : ℕ) (done : List Choice) (cells : List NamedLink) (next : Layer)
    (apart : AreSources sources W at) (so_far : Stepping sources left W at done cells next) where
  -- two choices of one word are one
  pub choice_told : (d e : Choice) (u v : Word) → Has sources d.cell → Has sources e.cell → Has (W d.cell) u → Has (W e.cell) v →
      u ++ mark_block at d.marks ≡ v ++ mark_block at e.marks → (d.cell ≡ e.cell) × (d.marks ≡ e.marks)
  choice_told d e u v hd he hu hv is =
      let r = decode at d.marks e.marks u v (λ x hx. apart.below d.cell u x hd hu hx) (λ x hx. apart.below e.cell v x he hv hx) is in
      (apart.apart d.cell e.cell u hd he hu (subst (λ y. Has (W e.cell) y) (sym r.0) hv), r.1)

  module _ (e : Choice) (name : ℕ) (is_source : Has sources e.cell) (is_left : Has left e.cell) (fresh : HasCell cells name → ⊥)
      (new : (d : Choice) → Has done d → d.cell ≡ e.cell → d.marks ≡ e.marks → ⊥) where
    abbrev link : NamedLink
    link = new_link name at e.marks e.cell (cell_of next e.to)

    keeps_words : (c : ℕ) → HasCell cells c → words (link ∷ cells) c ≡ words cells c
    keeps_words c there = words_other link cells c (other_name cells link c fresh there)

    new_word : (w : Word) → Has (words (link ∷ cells) name) w → Chosen W at (e ∷ done) e.to w
    new_word w h = elim (word_cases link cells w (λ (none : link.from ≡ None). cc) h) as (λ _. Chosen W at (e ∷ done) e.to w) [
      | inl a ↦ let r = so_far.sound e.to a.0 w a.1 a.2 in (r.0, r.1, inr r.2, r.3, r.4, r.5)
      | inr b ↦
          let is : e.cell ≡ b.0 = same_Some e.cell b.0 b.2 in
          (e, b.1, inl refl, refl, subst (λ xs. Has xs b.1) (so_far.source_words e.cell is_left) (subst (λ n. Has (words cells n) b.1) (sym is) b.3), b.4)
    ]

    also_distinct : (o : Option ℕ) → ((c : ℕ) → o ≡ Some c → AreDistinct (words cells c)) → AreDistinct (words_also (words cells) o)
    also_distinct None f = tt
    also_distinct (Some c) f = f c refl

    also_chosen : (o : Option ℕ) (w : Word) → ((c : ℕ) → o ≡ Some c → Has (words cells c) w → Chosen W at done e.to w) →
        Has (words_also (words cells) o) w → Chosen W at done e.to w
    also_chosen None w f h = absurd h
    also_chosen (Some c) w f h = f c refl h

    new_distinct : AreDistinct (words (link ∷ cells) name)
    new_distinct =
        let w_is = so_far.source_words e.cell is_left in
        let front : AreDistinct (map (λ w. w ++ mark_block at e.marks) (words cells e.cell)) =
        subst (λ ws. AreDistinct (map (λ (w : Word). w ++ mark_block at e.marks) ws)) (sym w_is)
        (distinct_map at e.marks (W e.cell) (λ u x hu hx. apart.below e.cell u x is_source hu hx) (apart.one_path e.cell is_source)) in
        let back : AreDistinct (words_also (words cells) (cell_of next e.to)) =
        also_distinct (cell_of next e.to) (λ c is. so_far.one_path e.to c is) in
        subst AreDistinct (sym (words_here link cells))
        (distinct_append (map (λ w. w ++ mark_block at e.marks) (words cells e.cell)) (words_also (words cells) (cell_of next e.to)) front back
        (λ w hf hb.
        let a = Has-map_cases (λ (w : Word). w ++ mark_block at e.marks) (words cells e.cell) w hf in
        let b = also_chosen (cell_of next e.to) w (λ c is h. so_far.sound e.to c w is h) hb in
        let told = choice_told b.0 e b.1 a.0 (so_far.by_sources b.0 b.2) is_source b.4 (subst (λ ws. Has ws a.0) w_is a.1) (b.5 ∙ sym a.2) in
        new b.0 b.2 told.0 told.1))

    abbrev next_after : Layer
    next_after = set_cell next e.to name

    -- what the next layer has at s
    after_cases : (s c : ℕ) → cell_of next_after s ≡ Some c → ((e.to ≡ s) × (name ≡ c)) ⊎ ((e.to ≡ s → ⊥) × (cell_of next s ≡ Some c))
    after_cases s c is = elim (cases_eq e.to s) as (λ _. ((e.to ≡ s) × (name ≡ c)) ⊎ ((e.to ≡ s → ⊥) × (cell_of next s ≡ Some c))) [
      | inl p ↦ inl (p, same_Some name c (sym (cell_of_set next e.to name) ∙ (ap (λ n. cell_of next_after n) p ∙ is)))
      | inr ne ↦ inr (ne, sym (cell_of_other next e.to s name ne) ∙ is)
    ]

    whole_after : (s : ℕ) (w : Word) → Chosen W at (e ∷ done) s w → InLayer (link ∷ cells) next_after s w
    whole_after s w (d, u, inl is, to, hu, ew) =
        let there : Has (words cells e.cell) u = subst (λ xs. Has xs u) (sym (so_far.source_words e.cell is_left)) (subst (λ (x : Choice). Has (W x.cell) u) (sym is) hu) in
        let made = word_by_from link cells e.cell u refl there in
        let w_is : u ++ mark_block at e.marks ≡ w = ap (λ (x : Choice). u ++ mark_block at x.marks) is ∙ ew in
        (name, ap (λ n. cell_of next_after n) (sym to ∙ sym (ap (λ (x : Choice). x.to) is)) ∙ cell_of_set next e.to name, subst (λ x. Has (words (link ∷ cells) name) x) w_is made)
    whole_after s w (d, u, inr there, to, hu, ew) =
        let r = so_far.whole s w (d, u, there, to, hu, ew) in
        elim (cases_eq e.to s) as (λ _. InLayer (link ∷ cells) next_after s w) [
          | inl p ↦ (
            name,
            ap (λ n. cell_of next_after n) (sym p) ∙ cell_of_set next e.to name,
            word_by_also link cells r.0 w (ap (λ n. cell_of next n) p ∙ r.1) r.2,
          )
          | inr ne ↦ (
            r.0,
            cell_of_other next e.to s name ne ∙ r.1,
            subst (λ xs. Has xs w) (sym (keeps_words r.0 (so_far.there s r.0 r.1))) r.2,
          )
        ]

    pub edge_step : Stepping sources left W at (e ∷ done) (link ∷ cells) next_after
    edge_step = record {
      sound = λ s c w is h. elim (after_cases s c is) as (λ _. Chosen W at (e ∷ done) s w) [
        | inl a ↦ subst (λ n. Chosen W at (e ∷ done) n w) a.0 (new_word w (subst (λ n. Has (words (link ∷ cells) n) w) (sym a.1) h))
        | inr b ↦
            let r = so_far.sound s c w b.1 (subst (λ xs. Has xs w) (keeps_words c (so_far.there s c b.1)) h) in
            (r.0, r.1, inr r.2, r.3, r.4, r.5)
      ];
      whole = whole_after;
      there = λ s c is. elim (after_cases s c is) as (λ _. HasCell (link ∷ cells) c) [
        | inl a ↦ (link, inl refl, a.1)
        | inr b ↦ let r = so_far.there s c b.1 in (r.0, inr r.1, r.2)
      ];
      one_path = λ s c is. elim (after_cases s c is) as (λ _. AreDistinct (words (link ∷ cells) c)) [
        | inl a ↦ subst (λ n. AreDistinct (words (link ∷ cells) n)) a.1 new_distinct
        | inr b ↦ subst AreDistinct (sym (keeps_words c (so_far.there s c b.1))) (so_far.one_path s c b.1)
      ];
      source_there = λ c h. let r = so_far.source_there c h in (r.0, inr r.1, r.2);
      source_words = λ c h. keeps_words c (so_far.source_there c h) ∙ so_far.source_words c h;
      by_sources = λ d h. elim h as (λ _. Has sources d.cell) [
        | inl is ↦ subst (λ (x : Choice). Has sources x.cell) is is_source
        | inr there ↦ so_far.by_sources d there
      ];
    }
