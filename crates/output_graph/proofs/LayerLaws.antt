-- A layer from which the next step begins.
use Rattle.std.proofs.Common.{◌≡◌, ℕ, zero, suc, ◌<◌, ◌≤◌, Bool, true, false, List, [], ◌∷◌, ◌++◌, map, drop, length, Option, Some, None, inl, inr, refl, sym, ap, ◌∙◌, subst, arith, if◌then◌else◌, nat_eq, eq-eqb, ne_eqb}
use Rattle.std.proofs.lemmas.Bool.{cases_eq, cond-true, cond-false}
use Rattle.std.proofs.lemmas.Option.{same_Some}
use Rattle.span_core.specs.Lists.{Has, AreDistinct}
use Rattle.node_arena.specs.Words.{Word, words, words_from, words_also, block_of}
use Rattle.node_arena.specs.Cells.{NamedLink, HasCell, Holds, hold, with_hold, root_link}
use Rattle.output_graph.specs.Grown.{past, IsOpen, AreGrown}
use Rattle.output_graph.specs.Forward.{Layer, cell_of, AreSources, SetsAreApart}
use Rattle.output_graph.specs.Graph.{Graph, sets_of}
use Rattle.output_graph.specs.Sound.{IsReady, IsPlaceOf, IsSound, left_cells}
use Rattle.span_core.proofs.HasLaws.{Has-append_cases, Has-map_cases}
use Rattle.node_arena.proofs.Holds.{hold_here, hold_other}
use Rattle.output_graph.proofs.WordLemmas.{words_here, words_other, past_more, past_marked}
use Rattle.output_graph.proofs.StepLaws.{sets_are_apart}
use Rattle.output_graph.proofs.SourceLaws.{between_begins}

abbrev pub cells_of : Layer → List ℕ
cells_of layer = map (λ (p : ℕ × ℕ). p.1) layer

pub has_set_of : (layer : Layer) (s c : ℕ) → cell_of layer s ≡ Some c → Has (sets_of layer) s
has_set_of [] s c e = cc
has_set_of (p ∷ layer) s c e = elim (cases_eq p.0 s) as (λ _. Has (sets_of (p ∷ layer)) s) [
  | inl is ↦ inl is
  | inr ne ↦ inr (has_set_of layer s c (sym (cond-false (nat_eq p.0 s) (Some p.1) (cell_of layer s) (ne_eqb p.0 s ne)) ∙ e))
]

pub has_cell_of : (layer : Layer) (s c : ℕ) → cell_of layer s ≡ Some c → Has (cells_of layer) c
has_cell_of [] s c e = cc
has_cell_of (p ∷ layer) s c e = elim (cases_eq p.0 s) as (λ _. Has (cells_of (p ∷ layer)) c) [
  | inl is ↦ inl (same_Some p.1 c (sym (cond-true (nat_eq p.0 s) (Some p.1) (cell_of layer s) (eq-eqb p.0 s is)) ∙ e))
  | inr ne ↦ inr (has_cell_of layer s c (sym (cond-false (nat_eq p.0 s) (Some p.1) (cell_of layer s) (ne_eqb p.0 s ne)) ∙ e))
]

-- where sets are distinct, each stands for its cell
pub cell_of_pair : (layer : Layer) (p : ℕ × ℕ) → AreDistinct (sets_of layer) → Has layer p → cell_of layer p.0 ≡ Some p.1
cell_of_pair [] p d h = absurd h
cell_of_pair (q ∷ layer) p d (inl e) =
    cond-true (nat_eq q.0 p.0) (Some q.1) (cell_of layer p.0) (eq-eqb q.0 p.0 (ap (λ (x : ℕ × ℕ). x.0) e)) ∙ ap (λ (x : ℕ × ℕ). Some x.1) e
cell_of_pair (q ∷ layer) p d (inr h) = elim (cases_eq q.0 p.0) as (λ _. cell_of (q ∷ layer) p.0 ≡ Some p.1) [
  | inl e ↦ absurd (d.0 (subst (λ n. Has (sets_of layer) n) (sym e) (has_set_of layer p.0 p.1 (cell_of_pair layer p d.1 h))))
  | inr ne ↦ cond-false (nat_eq q.0 p.0) (Some q.1) (cell_of layer p.0) (ne_eqb q.0 p.0 ne) ∙ cell_of_pair layer p d.1 h
]

pub pair_of_cell : (layer : Layer) (s c : ℕ) → cell_of layer s ≡ Some c → Has layer (s, c)
pair_of_cell [] s c e = cc
pair_of_cell (p ∷ layer) s c e = elim (cases_eq p.0 s) as (λ _. Has (p ∷ layer) (s, c)) [
  | inl is ↦
      let cell : p.1 ≡ c = same_Some p.1 c (sym (cond-true (nat_eq p.0 s) (Some p.1) (cell_of layer s) (eq-eqb p.0 s is)) ∙ e) in
      inl (λ i. (is i, cell i))
  | inr ne ↦ inr (pair_of_cell layer s c (sym (cond-false (nat_eq p.0 s) (Some p.1) (cell_of layer s) (ne_eqb p.0 s ne)) ∙ e))
]

pub set_of_cell : (layer : Layer) (c : ℕ) → AreDistinct (sets_of layer) → Has (cells_of layer) c → (s : ℕ) × (cell_of layer s ≡ Some c)
set_of_cell layer c d h =
    let r = Has-map_cases (λ (p : ℕ × ℕ). p.1) layer c h in
    (r.0.0, cell_of_pair layer r.0 d r.1 ∙ ap Some r.2)

-- a cell stands at one set
pub distinct_cells : (layer : Layer) → AreDistinct (sets_of layer) → ((s r c : ℕ) → cell_of layer s ≡ Some c → cell_of layer r ≡ Some c → s ≡ r) → AreDistinct (cells_of layer)
distinct_cells [] d once = tt
distinct_cells (p ∷ layer) d once =
    let here : cell_of (p ∷ layer) p.0 ≡ Some p.1 = cell_of_pair (p ∷ layer) p d (inl refl) in
    let later : (s c : ℕ) → cell_of layer s ≡ Some c → cell_of (p ∷ layer) s ≡ Some c =
    λ s c at_s. cond-false (nat_eq p.0 s) (Some p.1) (cell_of layer s) (ne_eqb p.0 s (λ e. d.0 (subst (λ n. Has (sets_of layer) n) (sym e) (has_set_of layer s c at_s)))) ∙ at_s in (
      (λ h.
          let r = set_of_cell layer p.1 d.1 h in
          let same : p.0 ≡ r.0 = once p.0 r.0 p.1 here (later r.0 p.1 r.1) in
          d.0 (subst (λ n. Has (sets_of layer) n) (sym same) (has_set_of layer r.0 p.1 r.1))),
      distinct_cells layer d.1 (λ s r c at_s at_r. once s r c (later s c at_s) (later r c at_r)),
    )

-- positions of words are below `past`
block_below : (l : NamedLink) (older : List NamedLink) (b : Bool) → nat_eq l.marks 0 ≡ b → (x : ℕ × ℕ) → Has (if b then [] else (l.at, l.marks) ∷ []) x → x.0 < past (l ∷ older)
block_below l older true e x h = absurd h
block_below l older false e x (inl is) =
    let some : 0 < l.marks = elim (cases_eq l.marks 0) as (λ _. 0 < l.marks) [ inl z ↦ (let clash : true ≡ false = sym (eq-eqb l.marks 0 z) ∙ e in cc) | inr ne ↦ grind arith ] in
    let lt = past_marked l older some in
    let at : l.at ≡ x.0 = ap (λ (y : ℕ × ℕ). y.0) is in
    omega arith
block_below l older false e x (inr none) = absurd none

module _ (l : NamedLink) (older : List NamedLink) (below : (c : ℕ) (u : Word) (x : ℕ × ℕ) → Has (words older c) u → Has u x → x.0 < past older) where
  from_below : (o : Option ℕ) (u : Word) (x : ℕ × ℕ) → Has (words_from (words older) (block_of l) o) u → Has u x → x.0 < past (l ∷ older)
  from_below None u x (inl e) h = absurd (subst (λ (w : Word). Has w x) (sym e) h)
  from_below None u x (inr none) h = absurd none
  from_below (Some c) u x hu h =
      let r = Has-map_cases (λ (w : Word). w ++ block_of l) (words older c) u hu in
      elim (Has-append_cases r.0 (block_of l) x (subst (λ (w : Word). Has w x) (sym r.2) h)) as (λ _. x.0 < past (l ∷ older)) [
        | inl a ↦ let p = below c r.0 x r.1 a in let q = past_more l older in omega arith
        | inr b ↦ block_below l older (nat_eq l.marks 0) refl x b
      ]

  also_below : (o : Option ℕ) (u : Word) (x : ℕ × ℕ) → Has (words_also (words older) o) u → Has u x → x.0 < past (l ∷ older)
  also_below None u x hu h = absurd hu
  also_below (Some c) u x hu h = let p = below c u x hu h in let q = past_more l older in omega arith

pub word_below : (cells : List NamedLink) (c : ℕ) (u : Word) (x : ℕ × ℕ) → Has (words cells c) u → Has u x → x.0 < past cells
word_below [] c u x hu h = absurd hu
word_below (l ∷ older) c u x hu h = elim (cases_eq l.name c) as (λ _. x.0 < past (l ∷ older)) [
  | inl e ↦
      let hu' : Has (words (l ∷ older) l.name) u = subst (λ n. Has (words (l ∷ older) n) u) (sym e) hu in
      elim (Has-append_cases (words_from (words older) (block_of l) l.from) (words_also (words older) l.also) u (subst (λ ws. Has ws u) (words_here l older) hu')) as (λ _. x.0 < past (l ∷ older)) [
        | inl a ↦ from_below l older (word_below older) l.from u x a h
        | inr b ↦ also_below l older (word_below older) l.also u x b h
      ]
  | inr ne ↦ let p = word_below older c u x (subst (λ ws. Has ws u) (words_other l older c ne) hu) h in let q = past_more l older in omega arith
]

-- the cells of a layer, ready for the next step
pub record IsLayer (cells : List NamedLink) (layer : Layer) (holds : Holds) : Type 0 where
  pub grown : AreGrown cells
  pub there : (s c : ℕ) → cell_of layer s ≡ Some c → HasCell cells c
  pub is_open : (s c : ℕ) → cell_of layer s ≡ Some c → IsOpen cells c
  pub one_path : (s c : ℕ) → cell_of layer s ≡ Some c → AreDistinct (words cells c)
  pub apart : SetsAreApart cells layer
  pub once : (s r c : ℕ) → cell_of layer s ≡ Some c → cell_of layer r ≡ Some c → s ≡ r
  pub held : (s c : ℕ) → cell_of layer s ≡ Some c → hold holds c ≡ 1
  pub only : (c : ℕ) → 0 < hold holds c → (s : ℕ) × (cell_of layer s ≡ Some c)
  pub sets : AreDistinct (sets_of layer)

pub layer_sources : (cells : List NamedLink) (layer : Layer) (holds : Holds) → IsLayer cells layer holds → (at : ℕ) → past cells ≤ at → AreSources (cells_of layer) (words cells) at
layer_sources cells layer holds i at le = record {
  below = λ c u x hc hu hx. let p = word_below cells c u x hu hx in omega arith;
  one_path = λ c hc. let r = set_of_cell layer c i.sets hc in i.one_path r.0 c r.1;
  apart = λ c b u hc hb hu hv.
      let r = set_of_cell layer c i.sets hc in
      let q = set_of_cell layer b i.sets hb in
      let same : r.0 ≡ q.0 = i.apart r.0 q.0 c b u r.1 q.1 hu hv in
      same_Some c b (sym r.1 ∙ (ap (λ n. cell_of layer n) same ∙ q.1));
}

pub layer_ready : (cells : List NamedLink) (layer : Layer) (holds : Holds) → IsLayer cells layer holds → (at : ℕ) → past cells ≤ at → IsReady at cells (cells_of layer) [] holds
layer_ready cells layer holds i at le = record {
  sources = cells_of layer;
  W = words cells;
  done = [];
  among = record {
    apart = layer_sources cells layer holds i at le;
    between = between_begins (cells_of layer) at cells i.grown (λ c h. let r = set_of_cell layer c i.sets h in i.there r.0 c r.1)
        (λ c h. let r = set_of_cell layer c i.sets h in i.is_open r.0 c r.1) le;
    held = record {
      at_left = λ c h. let r = set_of_cell layer c i.sets h in i.held r.0 c r.1;
      at_next = λ s c (is : None ≡ Some c). cc;
      only = λ c h. let r = i.only c h in inl (has_cell_of layer r.0 c r.1);
    };
    told = λ d e hd. absurd hd;
    sets = tt;
  };
  are_sources = λ c h. h;
  distinct = distinct_cells layer i.sets i.once;
}

pub layer_sound : (cells : List NamedLink) (layer : Layer) (at : ℕ) (holds : Holds) → IsLayer cells layer holds →
    IsSound (record { cells = cells; layer = layer; next = []; stepped = 0; at = at }) holds
layer_sound cells layer at holds i = record {
  few = omega arith;
  fresh = λ e. refl;
  ready = λ at place. elim place as (λ _. IsReady at cells (cells_of layer) [] holds) [
    | inl a ↦ layer_ready cells layer holds i at a.1
    | inr b ↦ absurd (omega arith)
  ];
  sets = i.sets;
}

-- some position may be that of the step
pub some_place : (g : Graph) → (at : ℕ) × IsPlaceOf g at
some_place g = elim (cases_eq g.stepped 0) as (λ _. (at : ℕ) × IsPlaceOf g at) [
  | inl e ↦ (past g.cells, inl (e, omega arith))
  | inr ne ↦ (g.at, inr (grind arith, refl))
]

no_more : (layer : Layer) (n : ℕ) → n ≡ length layer → drop n layer ≡ []
no_more [] zero e = refl
no_more [] (suc n) e = refl
no_more (p ∷ layer) zero e = absurd (omega arith)
no_more (p ∷ layer) (suc n) e = no_more layer n (omega arith)

-- where all sources are stepped, the next layer is one
pub next_is_layer : (g : Graph) (holds : Holds) → IsSound g holds → g.stepped ≡ length g.layer → IsLayer g.cells g.next holds
next_is_layer g holds sound all =
    let place = some_place g in
    let r = sound.ready place.0 place.1 in
    let none : left_cells g ≡ [] = ap (λ (l : Layer). cells_of l) (no_more g.layer g.stepped all) in
    let a = r.among in
    record {
      grown = a.between.growing.grown;
      there = a.between.growing.next_there;
      is_open = a.between.growing.next_open;
      one_path = a.between.stepping.one_path;
      apart = sets_are_apart r.sources (left_cells g) r.W place.0 r.done g.cells g.next a.apart a.between.stepping a.told;
      once = a.between.growing.next_once;
      held = a.held.at_next;
      only = λ c h. elim (a.held.only c h) as (λ _. (s : ℕ) × (cell_of g.next s ≡ Some c)) [
        | inl x ↦ absurd (subst (λ (xs : List ℕ). Has xs c) none x)
        | inr y ↦ y
      ];
      sets = a.sets;
    }

-- the root alone
root_grown : (root : ℕ) → AreGrown (root_link root ∷ [])
root_grown root = (
  record {
    fresh = λ h. absurd h.1;
    first_is_root = λ e. refl;
    unmarked = λ e. refl;
    from_there = λ c (e : None ≡ Some c). cc;
    also_there = λ c (e : None ≡ Some c). cc;
    apart = λ c (e : None ≡ Some c) (f : None ≡ Some c). cc;
    from_open = λ c (e : None ≡ Some c). cc;
    also_open = λ c (e : None ≡ Some c). cc;
    later = λ c (e : None ≡ Some c) h. cc;
    descends = λ c d (e : None ≡ Some c) h. cc;
  },
  tt,
)

only_one : (set root s c : ℕ) → cell_of ((set, root) ∷ []) s ≡ Some c → (set ≡ s) × (root ≡ c)
only_one set root s c e = elim (cases_eq set s) as (λ _. (set ≡ s) × (root ≡ c)) [
  | inl is ↦ (is, same_Some root c (sym (cond-true (nat_eq set s) (Some root) None (eq-eqb set s is)) ∙ e))
  | inr ne ↦ (let clash : None ≡ Some c = sym (cond-false (nat_eq set s) (Some root) None (ne_eqb set s ne)) ∙ e in cc)
]

pub root_words : (root : ℕ) → words (root_link root ∷ []) root ≡ [] ∷ []
root_words root = words_here (root_link root) []

pub root_is_layer : (set root : ℕ) (holds : Holds) → ((c : ℕ) → hold holds c ≡ 0) → IsLayer (root_link root ∷ []) ((set, root) ∷ []) (with_hold holds root 1)
root_is_layer set root holds none = record {
  grown = root_grown root;
  there = λ s c is. (root_link root, inl refl, (only_one set root s c is).1);
  is_open = λ s c is l hl closes. elim hl as (λ _. ⊥) [
    | inl e ↦ elim closes as (λ _. ⊥) [
      | inl a ↦ (let clash : None ≡ Some c = ap (λ (x : NamedLink). x.from) e ∙ a.1 in cc)
      | inr b ↦ (let clash : None ≡ Some c = ap (λ (x : NamedLink). x.also) e ∙ b in cc)
    ]
    | inr n ↦ absurd n
  ];
  one_path = λ s c is. subst (λ n. AreDistinct (words (root_link root ∷ []) n)) (only_one set root s c is).1 (subst AreDistinct (sym (root_words root)) ((λ h. h), tt));
  apart = λ s r c b w is ir hs hr. sym (only_one set root s c is).0 ∙ (only_one set root r b ir).0;
  once = λ s r c is ir. sym (only_one set root s c is).0 ∙ (only_one set root r c ir).0;
  held = λ s c is. subst (λ n. hold (with_hold holds root 1) n ≡ 1) (only_one set root s c is).1 (hold_here holds root 1);
  only = λ c h. elim (cases_eq c root) as (λ _. (s : ℕ) × (cell_of ((set, root) ∷ []) s ≡ Some c)) [
    | inl e ↦ (set, cond-true (nat_eq set set) (Some root) None (eq-eqb set set refl) ∙ ap Some (sym e))
    | inr ne ↦ (let same = hold_other holds root 1 c ne in let z = none c in absurd (omega arith))
  ];
  sets = ((λ h. h), tt);
}
