-- Laws of a graph between two places, and of one among whose sources some have been stepped.
use Rattle.std.proofs.Common.{◌≡◌, ℕ, zero, suc, ◌+◌, ◌<◌, Bool, true, false, List, [], ◌∷◌, ◌++◌, length, drop, map, Some, inl, inr, refl, sym, ap, subst, arith, ◌∙◌, nat_eq, if◌then◌else◌}
use Rattle.std.specs.Prelude.{◌↔◌, slice_get}
use Rattle.std.specs.Option.{unwrap_or}
use Rattle.std.proofs.Math.Seq.{drop-cons}
use Rattle.std.proofs.lemmas.Bool.{eqb-true, eq-eqb, false≢true}
use Rattle.std.proofs.lemmas.List.{length-map}
use Rattle.span_core.specs.Lists.{Has, IsInOrder}
use Rattle.span_core.proofs.HasLaws.{Has-append_left, Has-append_right, Has-append_cases, Has-map, Has-map_cases}
use Rattle.span_core.specs.declared.edge.Edge.{Edge}
use Rattle.span_core.proofs.ListLaws.{all_has}
use Rattle.node_arena.specs.Words.{Word}
use Rattle.output_graph.specs.Cells.{NamedLink}
use Rattle.output_graph.specs.Forward.{Layer}
use Rattle.output_graph.specs.Source.{Descend, Edges}
use Rattle.output_graph.specs.Graph.{Graph, HasWord, IsCost, IsPast, IsStepped, Source, source_of, sources, targets, sets_of}
use Rattle.output_graph.specs.Sound.{edges_of, edges_of_ends}
use Rattle.one_pass.specs.Layers.{no_source, source_at}
use Rattle.one_pass.specs.Seen.{words_to}
use Rattle.one_pass.specs.Turned.{IsTurned}

-- ---- sets and their words

sets_are : (cells : List NamedLink) (layer : Layer) → map (λ (x : Source). x.set) (map (source_of cells) layer) ≡ sets_of layer
sets_are cells [] = refl
sets_are cells (p ∷ layer) = ap (λ xs. p.0 ∷ xs) (sets_are cells layer)

pub word_number : (cells : List NamedLink) (layer : Layer) (s : ℕ) (w : Word) → HasWord (map (source_of cells) layer) s w → Has (sets_of layer) s
word_number cells layer s w h =
    subst (λ xs. Has xs s) (sets_are cells layer) (subst (Has (map (λ (x : Source). x.set) (map (source_of cells) layer))) h.2 (Has-map (λ (x : Source). x.set) (map (source_of cells) layer) h.0 h.1))

-- the sets of the next layer are those of its sources
pub target_sets : (g : Graph) → map (λ (x : Source). x.set) (targets g) ≡ sets_of g.next
target_sets g = sets_are g.cells g.next

-- a graph none of whose sources has been stepped shows its whole layer
pub whole_sets : (g : Graph) → g.stepped ≡ 0 → map (λ (x : Source). x.set) (sources g) ≡ sets_of g.layer
whole_sets g none = sets_are g.cells (drop g.stepped g.layer) ∙ ap (λ n. sets_of (drop n g.layer)) none

pub whole_count : (g : Graph) → g.stepped ≡ 0 → length g.layer ≡ length (sources g)
whole_count g none =
    sym (length-map g.layer (λ (p : ℕ × ℕ). p.0)) ∙ (ap length (sym (whole_sets g none)) ∙ length-map (sources g) (λ (x : Source). x.set))

get_there : (layer : List Source) (k s : ℕ) → k < length layer → slice_get (map (λ (x : Source). x.set) layer) k ≡ Some s → s ≡ (source_at layer k).set
get_there [] k s h e = absurd (omega arith)
get_there (x ∷ layer) zero s h e = sym (ap (λ o. unwrap_or o 0) e)
get_there (x ∷ layer) (suc k) s h e = get_there layer k s (omega arith) e

pub whole_set : (g : Graph) → g.stepped ≡ 0 → (j s : ℕ) → j < length g.layer → slice_get (sets_of g.layer) j ≡ Some s → (j < length (sources g)) × (s ≡ (source_at (sources g) j).set)
whole_set g none j s h e =
    let c = whole_count g none in
    let within : j < length (sources g) = omega (arith, c, h) in
    (within, get_there (sources g) j s within (ap (λ xs. slice_get xs j) (whole_sets g none) ∙ e))

-- ---- blocks descend

pub descend_edges : (es : List Edge) → IsInOrder (λ (e f : Edge). f.marks < e.marks) es → Descend (edges_of es)
descend_edges [] h = tt
descend_edges (e ∷ es) h = (
  λ f k.
      let g = Has-map_cases (λ (e : Edge). (e.marks, e.to)) es f k in
      subst (λ (p : ℕ × ℕ). p.0 < e.marks) g.2 (all_has (λ (f : Edge). f.marks < e.marks) es g.0 h.0 g.1),
  descend_edges es h.1,
)

pub descend_ends : (ms : List ℕ) → IsInOrder (λ (m n : ℕ). n < m) ms → Descend (edges_of_ends ms)
descend_ends [] h = tt
descend_ends (m ∷ ms) h = (
  λ f k.
      let g = Has-map_cases (λ (m : ℕ). let p : ℕ × ℕ = (m, 0) in p) ms f k in
      subst (λ (p : ℕ × ℕ). p.0 < m) g.2 (all_has (λ (n : ℕ). n < m) ms g.0 h.0 g.1),
  descend_ends ms h.1,
)

-- ---- costs

pub no_cost : {edges live before after : ℕ} → after ≡ before → IsCost edges live live before after
no_cost e = record { made = 0; freed = 0; few = omega arith; balance = refl; bound = omega (arith, e) }

-- ---- one source after another

pub turned_none : {g : Graph} {at : ℕ} → g.stepped ≡ 0 → IsPast (sources g) at → IsTurned g 0 at g
turned_none none past = record { layer = refl; left = refl; stepped = none; place = inl (none, past) }

module _ {first g h : Graph} {k at : ℕ} {es : Edges} (t : IsTurned first k at g) (within : k < length (sources first)) (step : IsStepped g at es h) where
  head_is : source_at (sources first) k ∷ drop (suc k) (sources first) ≡ step.left.0 ∷ sources h
  head_is = sym (drop-cons (sources first) k no_source within) ∙ (sym t.left ∙ step.left.1)

  -- it is the source of that place
  pub source_is : step.left.0 ≡ source_at (sources first) k
  source_is = cc head_is

  pub turned_more : IsTurned first (k + 1) at h
  turned_more = record {
    layer = step.layer ∙ t.layer;
    left = (let e : suc k ≡ k + 1 = omega arith in let rest : sources h ≡ drop (suc k) (sources first) = cc head_is in rest ∙ ap (λ j. drop j (sources first)) e);
    stepped = step.stepped ∙ ap (λ n. n + 1) t.stepped;
    place = inr (omega (arith, step.stepped), step.place);
  }

-- ends lead to the set 0 alone
pub only_none : (g : Graph) → g.next ≡ [] → (s : ℕ) → Has (sets_of g.next) s → s ≡ 0
only_none g none s h = absurd (subst (λ xs. Has (sets_of xs) s) none h)

pub only_more : {at : ℕ} {g h : Graph} (ms : List ℕ) → ((s : ℕ) → Has (sets_of g.next) s → s ≡ 0) → IsStepped g at (edges_of_ends ms) h →
    (s : ℕ) → Has (sets_of h.next) s → s ≡ 0
only_more ms only step s x = elim ((step.reached s).0 x) as (λ _. s ≡ 0) [
  | inl o ↦ only s o
  | inr e ↦ (
      let m = Has-map_cases (λ (m : ℕ). let p : ℕ × ℕ = (m, 0) in p) ms e.0 e.1 in
      sym (ap (λ (p : ℕ × ℕ). p.1) m.2 ∙ e.2))
]

-- ---- the words that are accepted

words_there : (s : ℕ) (xs : List Source) (w : Word) → Has (words_to s xs) w → HasWord xs s w
words_there s [] w h = absurd h
words_there s (x ∷ xs) w h = by (words_there s xs w) (nat_eq x.set s) refl h
  where
    by : (Has (words_to s xs) w → HasWord xs s w) → (b : Bool) → nat_eq x.set s ≡ b → Has (if b then x.words ++ words_to s xs else words_to s xs) w → HasWord (x ∷ xs) s w
    by rest true at h = elim (Has-append_cases x.words (words_to s xs) w h) as (λ _. HasWord (x ∷ xs) s w) [
      | inl k ↦ (x, inl refl, eqb-true x.set s at, k)
      | inr k ↦ (let r = rest k in (r.0, inr r.1, r.2, r.3))
    ]
    by rest false at h = let r = rest h in (r.0, inr r.1, r.2, r.3)

words_here : (s : ℕ) (xs : List Source) (w : Word) → HasWord xs s w → Has (words_to s xs) w
words_here s [] w h = absurd h.1
words_here s (x ∷ xs) w h = by (words_here s xs w) (nat_eq x.set s) refl h.1
  where
    by : (HasWord xs s w → Has (words_to s xs) w) → (b : Bool) → nat_eq x.set s ≡ b → Has (x ∷ xs) h.0 → Has (if b then x.words ++ words_to s xs else words_to s xs) w
    by rest true at (inl e) = Has-append_left x.words (words_to s xs) w (subst (λ (y : Source). Has y.words w) (sym e) h.3)
    by rest true at (inr k) = Has-append_right x.words (words_to s xs) w (rest (h.0, k, h.2, h.3))
    by rest false at (inl e) = absurd (false≢true (sym at ∙ eq-eqb x.set s (ap (λ (y : Source). y.set) e ∙ h.2)))
    by rest false at (inr k) = rest (h.0, k, h.2, h.3)

pub words_have : (s : ℕ) (xs : List Source) (w : Word) → Has (words_to s xs) w ↔ HasWord xs s w
words_have s xs w = (words_there s xs w, words_here s xs w)

-- the rows of the turned graph are the accepted words
pub accepted_listed : (g : Graph) (ws : List Word) → ((w : Word) → Has ws w ↔ HasWord (targets g) 0 w) → (w : Word) → Has ws w ↔ Has (words_to 0 (targets g)) w
accepted_listed g ws exact w = (
  λ h. (words_have 0 (targets g) w).1 ((exact w).0 h),
  λ h. (exact w).1 ((words_have 0 (targets g) w).0 h),
)
