-- The beginning and the end of a step, and an edge whose source hands its cell on.
use Rattle.std.proofs.Common.{◌≡◌, ◌⊎◌, ℕ, List, [], ◌∷◌, ◌++◌, Some, None, inl, inr, refl, sym, ap, ◌∙◌, subst, arith, nat_eq, append-nil, eq-eqb}
use Rattle.std.proofs.lemmas.Bool.{cases_eq, cond-true}
use Rattle.std.proofs.lemmas.Option.{same_Some}
use Rattle.span_core.specs.Lists.{Has, AreDistinct}
use Rattle.node_arena.specs.Words.{Word, words}
use Rattle.node_arena.specs.Cells.{NamedLink, HasCell, without, IsUnnamed}
use Rattle.node_arena.proofs.Without.{without_less, without_keeps}
use Rattle.output_graph.specs.Forward.{Layer, cell_of, set_cell, mark_block, Choice, Chosen, InLayer, AreSources, Stepping, SetsAreApart, Growing}
use Rattle.output_graph.proofs.ReleaseLaws.{words_without, grown_without, past_at_without}
use Rattle.output_graph.proofs.ForwardLaws.{cell_of_set, cell_of_other, choice_told}

-- before the first edge
pub step_begins : (sources : List ℕ) (at : ℕ) (cells : List NamedLink) → ((c : ℕ) → Has sources c → HasCell cells c) → Stepping sources sources (words cells) at [] cells []
step_begins sources at cells there = record {
  sound = λ s c w (is : None ≡ Some c) h. cc;
  whole = λ s w chosen. absurd chosen.2;
  there = λ s c (is : None ≡ Some c). cc;
  one_path = λ s c (is : None ≡ Some c). cc;
  source_there = there;
  source_words = λ c h. refl;
  by_sources = λ e h. absurd h;
}

no_block : (at m : ℕ) → m ≡ 0 → mark_block at m ≡ []
no_block at m e = cond-true (nat_eq m 0) [] ((at, m) ∷ []) (eq-eqb m 0 e)

-- the target has no cell yet, and takes the source's
module _ (sources left : List ℕ) (W : ℕ → List Word) (at : ℕ) (done : List Choice) (cells : List NamedLink) (next : Layer)
    (apart : AreSources sources W at) (so_far : Stepping sources left W at done cells next)
    (e : Choice) (is_source : Has sources e.cell) (is_left : Has left e.cell) (none : e.marks ≡ 0) (empty : cell_of next e.to ≡ None) where
  moved_cases : (s b : ℕ) → cell_of (set_cell next e.to e.cell) s ≡ Some b → ((e.to ≡ s) × (e.cell ≡ b)) ⊎ ((e.to ≡ s → ⊥) × (cell_of next s ≡ Some b))
  moved_cases s b is = elim (cases_eq e.to s) as (λ _. ((e.to ≡ s) × (e.cell ≡ b)) ⊎ ((e.to ≡ s → ⊥) × (cell_of next s ≡ Some b))) [
    | inl p ↦ inl (p, same_Some e.cell b (sym (cell_of_set next e.to e.cell) ∙ (ap (λ n. cell_of (set_cell next e.to e.cell) n) p ∙ is)))
    | inr ne ↦ inr (ne, sym (cell_of_other next e.to s e.cell ne) ∙ is)
  ]

  moved_whole : (s : ℕ) (w : Word) → Chosen W at (e ∷ done) s w → InLayer cells (set_cell next e.to e.cell) s w
  moved_whole s w (d, u, inl is, to, hu, ew) =
      let there : Has (words cells e.cell) u = subst (λ xs. Has xs u) (sym (so_far.source_words e.cell is_left)) (subst (λ (x : Choice). Has (W x.cell) u) (sym is) hu) in
      let m : d.marks ≡ 0 = ap (λ (x : Choice). x.marks) (sym is) ∙ none in
      let w_is : u ≡ w = sym (append-nil u) ∙ (ap (λ x. u ++ x) (sym (no_block at d.marks m)) ∙ ew) in
      (e.cell, ap (λ n. cell_of (set_cell next e.to e.cell) n) (sym to ∙ sym (ap (λ (x : Choice). x.to) is)) ∙ cell_of_set next e.to e.cell, subst (λ x. Has (words cells e.cell) x) w_is there)
  moved_whole s w (d, u, inr there, to, hu, ew) =
      let r = so_far.whole s w (d, u, there, to, hu, ew) in
      elim (cases_eq e.to s) as (λ _. InLayer cells (set_cell next e.to e.cell) s w) [
        | inl p ↦ (let clash : None ≡ Some r.0 = sym empty ∙ (ap (λ n. cell_of next n) p ∙ r.1) in cc)
        | inr ne ↦ (r.0, cell_of_other next e.to s e.cell ne ∙ r.1, r.2)
      ]

  pub move_step : Stepping sources left W at (e ∷ done) cells (set_cell next e.to e.cell)
  move_step = record {
    sound = λ s c w is h. elim (moved_cases s c is) as (λ _. Chosen W at (e ∷ done) s w) [
      | inl a ↦ (
        e,
        w,
        inl refl,
        a.0,
        subst (λ xs. Has xs w) (so_far.source_words e.cell is_left) (subst (λ n. Has (words cells n) w) (sym a.1) h),
        ap (λ x. w ++ x) (no_block at e.marks none) ∙ append-nil w,
      )
      | inr b ↦ let r = so_far.sound s c w b.1 h in (r.0, r.1, inr r.2, r.3, r.4, r.5)
    ];
    whole = moved_whole;
    there = λ s c is. elim (moved_cases s c is) as (λ _. HasCell cells c) [
      | inl a ↦ subst (λ n. HasCell cells n) a.1 (so_far.source_there e.cell is_left)
      | inr b ↦ so_far.there s c b.1
    ];
    one_path = λ s c is. elim (moved_cases s c is) as (λ _. AreDistinct (words cells c)) [
      | inl a ↦ subst (λ n. AreDistinct (words cells n)) a.1 (subst AreDistinct (sym (so_far.source_words e.cell is_left)) (apart.one_path e.cell is_source))
      | inr b ↦ so_far.one_path s c b.1
    ];
    source_there = so_far.source_there;
    source_words = so_far.source_words;
    by_sources = λ d h. elim h as (λ _. Has sources d.cell) [
      | inl is ↦ subst (λ (x : Choice). Has sources x.cell) is is_source
      | inr there ↦ so_far.by_sources d there
    ];
  }

-- words of different sets differ, where a source and its marks tell the target
pub sets_are_apart : (sources left : List ℕ) (W : ℕ → List Word) (at : ℕ) (done : List Choice) (cells : List NamedLink) (next : Layer) →
    AreSources sources W at → Stepping sources left W at done cells next →
    ((d e : Choice) → Has done d → Has done e → d.cell ≡ e.cell → d.marks ≡ e.marks → d.to ≡ e.to) → SetsAreApart cells next
sets_are_apart sources left W at done cells next apart so_far one_target s r c b w is ir hs hr =
    let d = so_far.sound s c w is hs in
    let e = so_far.sound r b w ir hr in
    let told = choice_told sources left W at done cells next apart so_far d.0 e.0 d.1 e.1 (so_far.by_sources d.0 d.2) (so_far.by_sources e.0 e.2) d.4 e.4 (d.5 ∙ sym e.5) in
    sym d.3 ∙ (one_target d.0 e.0 d.2 e.2 told.0 told.1 ∙ e.3)

-- a source is done, and a cell that nothing names is given back
pub step_without : (sources left after : List ℕ) (W : ℕ → List Word) (at : ℕ) (done : List Choice) (cells : List NamedLink) (next : Layer) (k : ℕ) →
    Stepping sources left W at done cells next → IsUnnamed cells k → ((s : ℕ) → cell_of next s ≡ Some k → ⊥) →
    ((c : ℕ) → Has after c → Has left c) → (Has after k → ⊥) → Stepping sources after W at done (without k cells) next
step_without sources left after W at done cells next k so_far un not_next fewer gone =
    let not_k : (s c : ℕ) → cell_of next s ≡ Some c → c ≡ k → ⊥ = λ s c is e. not_next s (is ∙ ap Some e) in
    let left_not : (c : ℕ) → Has after c → c ≡ k → ⊥ = λ c h e. gone (subst (λ n. Has after n) e h) in
    record {
      sound = λ s c w is h. so_far.sound s c w is (subst (λ xs. Has xs w) (words_without k cells c un (not_k s c is)) h);
      whole = λ s w chosen. let r = so_far.whole s w chosen in (r.0, r.1, subst (λ xs. Has xs w) (sym (words_without k cells r.0 un (not_k s r.0 r.1))) r.2);
      there = λ s c is. without_keeps k cells c (not_k s c is) (so_far.there s c is);
      one_path = λ s c is. subst AreDistinct (sym (words_without k cells c un (not_k s c is))) (so_far.one_path s c is);
      source_there = λ c h. without_keeps k cells c (left_not c h) (so_far.source_there c (fewer c h));
      source_words = λ c h. words_without k cells c un (left_not c h) ∙ so_far.source_words c (fewer c h);
      by_sources = so_far.by_sources;
    }

pub growing_without : (left after : List ℕ) (at : ℕ) (cells : List NamedLink) (next : Layer) (k : ℕ) →
    Growing left at cells next → IsUnnamed cells k → ((s : ℕ) → cell_of next s ≡ Some k → ⊥) →
    ((c : ℕ) → Has after c → Has left c) → (Has after k → ⊥) → Growing after at (without k cells) next
growing_without left after at cells next k g un not_next fewer gone =
    let not_k : (s c : ℕ) → cell_of next s ≡ Some c → c ≡ k → ⊥ = λ s c is e. not_next s (is ∙ ap Some e) in
    let left_not : (c : ℕ) → Has after c → c ≡ k → ⊥ = λ c h e. gone (subst (λ n. Has after n) e h) in
    record {
      grown = grown_without k cells g.grown un;
      left_there = λ c h. without_keeps k cells c (left_not c h) (g.left_there c (fewer c h));
      left_open = λ c h d hd. g.left_open c (fewer c h) d (without_less k cells d hd);
      left_later = λ c h. let a = g.left_later c (fewer c h) in let b = past_at_without k cells c (left_not c h) in omega arith;
      next_there = λ s c is. without_keeps k cells c (not_k s c is) (g.next_there s c is);
      next_open = λ s c is d hd. g.next_open s c is d (without_less k cells d hd);
      next_apart = λ s c is h. g.next_apart s c is (fewer c h);
      next_once = g.next_once;
    }
