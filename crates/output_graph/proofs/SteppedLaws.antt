-- What stepping a source does to the graph.
use Rattle.std.proofs.Common.{◌≡◌, ◌⊎◌, ◌↔◌, ℕ, zero, suc, ◌+◌, ◌-◌, List, [], ◌∷◌, ◌++◌, map, drop, slice_get, Some, inl, inr, refl, sym, ap, ap₂, ◌∙◌, subst, arith, add-one}
use Rattle.std.proofs.lemmas.Option.{slice_get_within, same_Some}
use Rattle.span_core.specs.Lists.{Has, AreDistinct}
use Rattle.node_arena.specs.Words.{Word, words}
use Rattle.node_arena.specs.Cells.{NamedLink, Holds}
use Rattle.output_graph.specs.Forward.{Layer, cell_of, Choice, InLayer, Stepping, mark_block}
use Rattle.output_graph.specs.Source.{Edges, Descend, with_choices}
use Rattle.output_graph.specs.Graph.{Graph, Source, source_of, sources, targets, sets_of, HasWord, Brings, IsStepped, IsCost}
use Rattle.output_graph.specs.Sound.{Among, Amid, IsReady, IsPlaceOf, IsSound, CanEnd, HasEnded, IsSpent, left_cells}
use Rattle.span_core.proofs.HasLaws.{Has-map_cases}
use Rattle.output_graph.proofs.SourceLaws.{source_begins}
use Rattle.output_graph.proofs.LayerLaws.{cells_of, cell_of_pair, pair_of_cell}

pub drop_at : (layer : Layer) (k : ℕ) (p : ℕ × ℕ) → slice_get layer k ≡ Some p → drop k layer ≡ p ∷ drop (suc k) layer
drop_at [] k p e = cc
drop_at (q ∷ layer) zero p e = ap (λ (x : ℕ × ℕ). x ∷ layer) (same_Some q p e)
drop_at (q ∷ layer) (suc k) p e = drop_at layer k p e

-- the words of a layer, by its sets and by its cells
pub word_in : (cells : List NamedLink) (layer : Layer) (s : ℕ) (w : Word) → AreDistinct (sets_of layer) → HasWord (map (source_of cells) layer) s w → InLayer cells layer s w
word_in cells layer s w d (x, has, is, hw) =
    let r = Has-map_cases (source_of cells) layer x has in
    let set : r.0.0 ≡ s = ap (λ (y : Source). y.set) r.2 ∙ is in
    (r.0.1, subst (λ n. cell_of layer n ≡ Some r.0.1) set (cell_of_pair layer r.0 d r.1), subst (λ (y : Source). Has y.words w) (sym r.2) hw)

pub has_source : (cells : List NamedLink) (layer : Layer) (p : ℕ × ℕ) → Has layer p → Has (map (source_of cells) layer) (source_of cells p)
has_source cells [] p h = absurd h
has_source cells (q ∷ layer) p (inl e) = inl (ap (source_of cells) e)
has_source cells (q ∷ layer) p (inr h) = inr (has_source cells layer p h)

pub word_out : (cells : List NamedLink) (layer : Layer) (s : ℕ) (w : Word) → InLayer cells layer s w → HasWord (map (source_of cells) layer) s w
word_out cells layer s w (c, at_s, hw) = (source_of cells (s, c), has_source cells layer (s, c) (pair_of_cell layer s c at_s), refl, hw)

-- the choices of a source's edges
pub choice_cases : (c : ℕ) (edges : Edges) (done : List Choice) (d : Choice) → Has (with_choices c edges done) d →
    Has done d ⊎ ((e : ℕ × ℕ) × Has edges e × (d ≡ record { cell = c; marks = e.0; to = e.1 }))
choice_cases c [] done d h = inl h
choice_cases c (e ∷ edges) done d h =
    elim (choice_cases c edges (record { cell = c; marks = e.0; to = e.1 } ∷ done) d h)
    as (λ _. Has done d ⊎ ((f : ℕ × ℕ) × Has (e ∷ edges) f × (d ≡ record { cell = c; marks = f.0; to = f.1 }))) [
      | inl (inl is) ↦ inr (e, inl refl, sym is)
      | inl (inr a) ↦ inl a
      | inr b ↦ inr (b.0, inr b.1, b.2)
    ]

pub choice_old : (c : ℕ) (edges : Edges) (done : List Choice) (d : Choice) → Has done d → Has (with_choices c edges done) d
choice_old c [] done d h = h
choice_old c (e ∷ edges) done d h = choice_old c edges (record { cell = c; marks = e.0; to = e.1 } ∷ done) d (inr h)

pub choice_new : (c : ℕ) (edges : Edges) (done : List Choice) (e : ℕ × ℕ) → Has edges e → Has (with_choices c edges done) (record { cell = c; marks = e.0; to = e.1 })
choice_new c [] done e h = absurd h
choice_new c (f ∷ edges) done e (inl is) =
    choice_old c edges (record { cell = c; marks = f.0; to = f.1 } ∷ done) (record { cell = c; marks = e.0; to = e.1 })
    (inl (ap (λ (x : ℕ × ℕ). let y : Choice = record { cell = c; marks = x.0; to = x.1 } in y) is))
choice_new c (f ∷ edges) done e (inr h) = choice_new c edges (record { cell = c; marks = f.0; to = f.1 } ∷ done) e h

module _ (S left after : List ℕ) (W : ℕ → List Word) (at c : ℕ) (edges : Edges) (done : List Choice) (cells cells_after : List NamedLink) (next next_after : Layer)
    (is_left : Has left c) (before : Stepping S left W at done cells next) (later : Stepping S after W at (with_choices c edges done) cells_after next_after) where
  pub gained : (s : ℕ) (w : Word) → InLayer cells_after next_after s w → InLayer cells next s w ⊎ Brings (words cells c) at edges s w
  gained s w (b, at_s, hw) =
      let (d, u, has, to, hu, ew) = later.sound s b w at_s hw in
      elim (choice_cases c edges done d has) as (λ _. InLayer cells next s w ⊎ Brings (words cells c) at edges s w) [
        | inl old ↦ inl (before.whole s w (d, u, old, to, hu, ew))
        | inr (e, he, is) ↦ inr (
          e,
          u,
          he,
          ap (λ (x : Choice). x.to) (sym is) ∙ to,
          subst (λ ws. Has ws u) (sym (before.source_words c is_left)) (subst (λ (x : Choice). Has (W x.cell) u) is hu),
          ap (λ (x : Choice). u ++ mark_block at x.marks) (sym is) ∙ ew,
        )
      ]

  pub kept : (s : ℕ) (w : Word) → InLayer cells next s w → InLayer cells_after next_after s w
  kept s w (b, at_s, hw) =
      let (d, u, has, to, hu, ew) = before.sound s b w at_s hw in
      later.whole s w (d, u, choice_old c edges done d has, to, hu, ew)

  pub brought : (s : ℕ) (w : Word) → Brings (words cells c) at edges s w → InLayer cells_after next_after s w
  brought s w (e, u, he, to, hu, ew) =
      later.whole s w (record { cell = c; marks = e.0; to = e.1 }, u, choice_new c edges done e he, to, subst (λ ws. Has ws u) (before.source_words c is_left) hu, ew)

same_map : (f g : ℕ × ℕ → Source) (xs : Layer) → ((x : ℕ × ℕ) → Has xs x → f x ≡ g x) → map f xs ≡ map g xs
same_map f g [] e = refl
same_map f g (x ∷ xs) e = ap₂ (λ y ys. y ∷ ys) (e x (inl refl)) (same_map f g xs (λ y h. e y (inr h)))

pub has_cell : (layer : Layer) (x : ℕ × ℕ) → Has layer x → Has (cells_of layer) x.1
has_cell [] x h = absurd h
has_cell (y ∷ layer) x (inl e) = inl (ap (λ (p : ℕ × ℕ). p.1) e)
has_cell (y ∷ layer) x (inr h) = inr (has_cell layer x h)

amid_of : (S left after : List ℕ) (W : ℕ → List Word) (at c : ℕ) (edges : Edges) (done : List Choice) (cells : List NamedLink) (next : Layer) (holds : Holds) → left ≡ c ∷ after →
    Among S left W at done cells next holds → ((b : ℕ) → Has left b → Has S b) → AreDistinct left → Descend edges → Amid S after W at c edges done cells next holds
amid_of S left after W at c edges done cells next holds is among are distinct descend =
    let a : Among S (c ∷ after) W at done cells next holds = subst (λ (xs : List ℕ). Among S xs W at done cells next holds) is among in
    let d : AreDistinct (c ∷ after) = subst (λ (xs : List ℕ). AreDistinct xs) is distinct in
    let here : Has S c = are c (subst (λ (xs : List ℕ). Has xs c) (sym is) (inl refl)) in
    record {
      apart = a.apart;
      inside = source_begins S after W at c a.apart edges done cells next a.between here d.0 descend;
      held = a.held;
      told = a.told;
      sets = a.sets;
    }

-- source k, the first that is left
module _ {g : Graph} {holds : Holds} (sound : IsSound g holds) {p : ℕ × ℕ} (there : slice_get g.layer g.stepped ≡ Some p) {at : ℕ}
    (place : IsPlaceOf g at) (edges : Edges) (descend : Descend edges) where
  abbrev c : ℕ
  c = p.1

  abbrev rest : Layer
  rest = drop (suc g.stepped) g.layer

  left_is : left_cells g ≡ c ∷ cells_of rest
  left_is = ap (λ (l : Layer). cells_of l) (drop_at g.layer g.stepped p there)

  ready : IsReady at g.cells (left_cells g) g.next holds
  ready = sound.ready at place

  amid : Amid ready.sources (cells_of rest) ready.W at c edges ready.done g.cells g.next holds
  amid = amid_of ready.sources (left_cells g) (cells_of rest) ready.W at c edges ready.done g.cells g.next holds left_is ready.among ready.are_sources ready.distinct descend

  pub can_step : CanEnd at c edges g.cells g.next holds
  can_step = (ready.sources, cells_of rest, ready.W, ready.done, amid)

  module _ {cells : List NamedLink} {next : Layer} {holds_after : Holds} (ended : HasEnded at c edges g.cells g.next holds cells next holds_after) where
    abbrev new : Graph
    new = record { cells = cells; layer = g.layer; next = next; stepped = g.stepped + 1; at = at }

    after : Among ready.sources (cells_of rest) ready.W at (with_choices c edges ready.done) cells next holds_after
    after = ended.ends ready.sources (cells_of rest) ready.W ready.done amid

    rest_is : drop (g.stepped + 1) g.layer ≡ rest
    rest_is = ap (λ n. drop n g.layer) (add-one g.stepped)

    pub sound_after : IsSound new holds_after
    sound_after = record {
      few = (let lt = slice_get_within g.layer g.stepped p there in omega arith);
      fresh = λ e. absurd (omega arith);
      ready = λ now is. elim is as (λ _. IsReady now cells (left_cells new) next holds_after) [
        | inl a ↦ absurd (omega arith)
        | inr b ↦ subst (λ n. IsReady n cells (left_cells new) next holds_after) b.1
            (subst (λ (l : Layer). IsReady at cells (cells_of l) next holds_after) (sym rest_is) (record {
              sources = ready.sources;
              W = ready.W;
              done = with_choices c edges ready.done;
              among = after;
              are_sources = λ b h. ready.are_sources b (subst (λ (xs : List ℕ). Has xs b) (sym left_is) (inr h));
              distinct = (subst (λ (xs : List ℕ). AreDistinct xs) left_is ready.distinct).1;
            }))
      ];
      sets = sound.sets;
    }

    words_stay : (b : ℕ) → Has (cells_of rest) b → words g.cells b ≡ words cells b
    words_stay b h = amid.inside.stepping.source_words b (inr h) ∙ sym (after.between.stepping.source_words b h)

    left_after : sources g ≡ source_of g.cells p ∷ sources new
    left_after =
        ap (λ (l : Layer). map (source_of g.cells) l) (drop_at g.layer g.stepped p there)
        ∙ (ap (λ (xs : List Source). source_of g.cells p ∷ xs)
        (same_map (source_of g.cells) (source_of cells) rest (λ x h i. record { set = x.0; words = words_stay x.1 (has_cell rest x h) i }))
        ∙ ap (λ (l : Layer). source_of g.cells p ∷ map (source_of cells) l) (sym rest_is))

    grows : (s : ℕ) (w : Word) → HasWord (targets new) s w ↔ (HasWord (targets g) s w ⊎ Brings (words g.cells c) at edges s w)
    grows s w = (
      (λ h. elim (gained ready.sources (c ∷ cells_of rest) (cells_of rest) ready.W at c edges ready.done g.cells cells g.next next (inl refl) amid.inside.stepping after.between.stepping s w
          (word_in cells next s w after.sets h)) as (λ _. HasWord (targets g) s w ⊎ Brings (words g.cells c) at edges s w) [
            | inl a ↦ inl (word_out g.cells g.next s w a)
            | inr b ↦ inr b
          ]),
      (λ h. elim h as (λ _. HasWord (targets new) s w) [
        | inl a ↦ word_out cells next s w
            (kept ready.sources (c ∷ cells_of rest) (cells_of rest) ready.W at c edges ready.done g.cells cells g.next next (inl refl) amid.inside.stepping after.between.stepping s w
            (word_in g.cells g.next s w amid.sets a))
        | inr b ↦ word_out cells next s w
            (brought ready.sources (c ∷ cells_of rest) (cells_of rest) ready.W at c edges ready.done g.cells cells g.next next (inl refl) amid.inside.stepping after.between.stepping s w b)
      ]),
    )

    pub is_stepped : IsStepped g at edges new
    is_stepped = record {
      layer = refl;
      stepped = refl;
      place = refl;
      left = (source_of g.cells p, left_after, grows);
      reached = ended.reached;
      few = ended.few;
      hands_on = ended.hands_on;
    }

-- the cost, with the step of the call
pub is_cost : (edges old new before after : ℕ) → IsSpent edges old new (before + 1) after → IsCost edges old new before after
is_cost edges old new before after s =
    let few = s.few in
    let more = s.more in
    let bound = s.bound in
    record { made = s.made; freed = (old + s.made) - new; few = few; balance = omega arith; bound = omega arith }
