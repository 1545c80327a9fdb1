-- Layers by other names: what a step does, it does under any names; and handing each cell on is giving other names.
use Rattle.std.proofs.Common.{◌≡◌, ◌⊎◌, ℕ, zero, suc, ◌+◌, ◌≤◌, List, [], ◌∷◌, ◌++◌, map, take, drop, set, slice_get, Some, length, inl, inr, refl, sym, ap, subst, arith, ◌∙◌, append_assoc, length-append}
use Rattle.std.proofs.lemmas.List.{append-nil, drop_all, length-drop}
use Rattle.std.proofs.lemmas.Option.{same_Some}
use Rattle.span_core.specs.Lists.{Has, AreDistinct}
use Rattle.span_core.proofs.HasLaws.{Has-append_left, Has-append_right, Has-append_cases, Has-map, Has-map_cases}
use Rattle.node_arena.specs.Cells.{Holds, NamedLink}
use Rattle.node_arena.specs.Words.{Word, words}
use Rattle.output_graph.specs.Forward.{Layer, mark_block}
use Rattle.output_graph.specs.Graph.{AreApart, Brings, Graph, HasWord, IsPast, IsStepped, LeadsTo, Source, sets_of, source_of, sources, targets}
use Rattle.output_graph.specs.Named.{handing, handing_to, named, renamed}
use Rattle.output_graph.specs.Programs.{AreStepped, IsRun}
use Rattle.output_graph.specs.Source.{Edges}
use Rattle.output_graph.specs.Sets.{cells_in}
use Rattle.output_graph.specs.Sound.{IsReady, IsSound, left_cells}
use Rattle.output_graph.proofs.SetLaws.{take_all}

-- ---- names

pub named_length : (sets : List ℕ) (layer : Layer) → length sets ≡ length layer → length (named sets layer) ≡ length layer
named_length [] [] e = refl
named_length [] (p ∷ layer) e = absurd (omega (arith, e))
named_length (s ∷ sets) [] e = refl
named_length (s ∷ sets) (p ∷ layer) e = ap suc (named_length sets layer (omega (arith, e)))

pub named_sets : (sets : List ℕ) (layer : Layer) → length sets ≡ length layer → sets_of (named sets layer) ≡ sets
named_sets [] [] e = refl
named_sets [] (p ∷ layer) e = refl
named_sets (s ∷ sets) [] e = absurd (omega (arith, e))
named_sets (s ∷ sets) (p ∷ layer) e = ap (λ xs. s ∷ xs) (named_sets sets layer (omega (arith, e)))

-- the names before do not matter
pub named_again : (sets again : List ℕ) (layer : Layer) → length sets ≡ length layer → named again (named sets layer) ≡ named again layer
named_again [] again [] e = refl
named_again [] again (p ∷ layer) e = absurd (omega (arith, e))
named_again (s ∷ sets) again [] e = refl
named_again (s ∷ sets) [] (p ∷ layer) e = refl
named_again (s ∷ sets) (a ∷ again) (p ∷ layer) e = ap (λ (l : Layer). (a, p.1) ∷ l) (named_again sets again layer (omega (arith, e)))

pub renamed_again : (sets again : List ℕ) (g : Graph) → length sets ≡ length g.layer → renamed again (renamed sets g) ≡ renamed again g
renamed_again sets again g e =
    ap (λ (l : Layer). let h : Graph = record { cells = g.cells; layer = l; next = g.next; stepped = g.stepped; at = g.at } in h) (named_again sets again g.layer e)

-- its own names change nothing
pub named_own : (layer : Layer) → named (sets_of layer) layer ≡ layer
named_own [] = refl
named_own (p ∷ layer) = ap (λ (l : Layer). p ∷ l) (named_own layer)

pub named_cells : (sets : List ℕ) (layer : Layer) → length sets ≡ length layer → cells_in (named sets layer) ≡ cells_in layer
named_cells [] [] e = refl
named_cells [] (p ∷ layer) e = absurd (omega (arith, e))
named_cells (s ∷ sets) [] e = refl
named_cells (s ∷ sets) (p ∷ layer) e = ap (λ xs. p.1 ∷ xs) (named_cells sets layer (omega (arith, e)))

named_drop : (k : ℕ) (sets : List ℕ) (layer : Layer) → length sets ≡ length layer → drop k (named sets layer) ≡ named (drop k sets) (drop k layer)
named_drop zero sets layer e = refl
named_drop (suc k) [] [] e = refl
named_drop (suc k) [] (p ∷ layer) e = absurd (omega (arith, e))
named_drop (suc k) (s ∷ sets) [] e = absurd (omega (arith, e))
named_drop (suc k) (s ∷ sets) (p ∷ layer) e = named_drop k sets layer (omega (arith, e))

-- ---- lists

drop_rest : {X : Type 0} (xs : List X) (k : ℕ) (x : X) (rest : List X) → drop k xs ≡ x ∷ rest → drop (suc k) xs ≡ rest
drop_rest [] zero x rest e = cc
drop_rest [] (suc k) x rest e = cc
drop_rest (y ∷ xs) zero x rest e = later y x xs rest e
  where
    later : {X : Type 0} (y x : X) (ys xs : List X) → y ∷ ys ≡ x ∷ xs → ys ≡ xs
    later y x ys xs e = cc
drop_rest (y ∷ xs) (suc k) x rest e = drop_rest xs k x rest e

first_is : (x y : Source) (xs ys : List Source) → x ∷ xs ≡ y ∷ ys → x ≡ y
first_is x y xs ys e = cc

rest_is : (x y : Source) (xs ys : List Source) → x ∷ xs ≡ y ∷ ys → xs ≡ ys
rest_is x y xs ys e = cc

distinct_left : (xs ys : List ℕ) → AreDistinct (xs ++ ys) → AreDistinct xs
distinct_left [] ys d = tt
distinct_left (x ∷ xs) ys d = (λ h. d.0 (Has-append_left xs ys x h), distinct_left xs ys d.1)

-- ---- a step under other names

same_words : (A B : List NamedLink) (names : List ℕ) (ps : Layer) → map (source_of A) ps ≡ map (source_of B) ps → map (source_of A) (named names ps) ≡ map (source_of B) (named names ps)
same_words A B [] ps e = refl
same_words A B (n ∷ names) [] e = refl
same_words A B (n ∷ names) (p ∷ ps) e =
    let words_same : words A p.1 ≡ words B p.1 = ap (λ (x : Source). x.words) (first_is (source_of A p) (source_of B p) (map (source_of A) ps) (map (source_of B) ps) e) in
    let later = same_words A B names ps (rest_is (source_of A p) (source_of B p) (map (source_of A) ps) (map (source_of B) ps) e) in
    ap (λ (ws : List Word). record { set = n; words = ws } ∷ map (source_of A) (named names ps)) words_same ∙ ap (λ (xs : List Source). record { set = n; words = words B p.1 } ∷ xs) later

module _ (sets : List ℕ) {g m : Graph} {at : ℕ} {es : Edges} (many : length sets ≡ length g.layer) (s : IsStepped g at es m) where
  many_left : length (drop g.stepped sets) ≡ length (drop g.stepped g.layer)
  many_left = omega (arith, length-drop g.stepped sets, length-drop g.stepped g.layer, many)

  -- the first source that is left, by its new name
  abbrev First : Type 0
  First = (x : Source) × (sources (renamed sets g) ≡ x ∷ sources (renamed sets m)) × (x.words ≡ s.left.0.words)

  first_named : (names : List ℕ) (left : Layer) → drop g.stepped sets ≡ names → drop g.stepped g.layer ≡ left → First
  first_named names [] ns ls = absurd (none (s.left.0) (sources m) (ap (map (source_of g.cells)) (sym ls) ∙ s.left.1))
    where
      none : (x : Source) (xs : List Source) → [] ≡ x ∷ xs → ⊥
      none x xs e = cc
  first_named [] (p ∷ left) ns ls = absurd (omega (arith, many_left, ap length ns, ap length ls))
  first_named (n ∷ names) (p ∷ left) ns ls =
      let next : m.stepped ≡ suc g.stepped = omega (arith, s.stepped) in
      let names_later : drop (suc g.stepped) sets ≡ names = drop_rest sets g.stepped n names ns in
      let left_later : drop (suc g.stepped) g.layer ≡ left = drop_rest g.layer g.stepped p left ls in
      let later : sources m ≡ map (source_of m.cells) left = ap (λ (l : Layer). map (source_of m.cells) (drop m.stepped l)) s.layer ∙
      (ap (λ k. map (source_of m.cells) (drop k g.layer)) next ∙ ap (map (source_of m.cells)) left_later) in
      let both : source_of g.cells p ∷ map (source_of g.cells) left ≡ s.left.0 ∷ map (source_of m.cells) left =
      ap (map (source_of g.cells)) (sym ls) ∙ (s.left.1 ∙ ap (λ (xs : List Source). s.left.0 ∷ xs) later) in
      let here = first_is (source_of g.cells p) s.left.0 (map (source_of g.cells) left) (map (source_of m.cells) left) both in
      let rest = rest_is (source_of g.cells p) s.left.0 (map (source_of g.cells) left) (map (source_of m.cells) left) both in
      let old : sources (renamed sets g) ≡ record { set = n; words = words g.cells p.1 } ∷ map (source_of g.cells) (named names left) =
      ap (map (source_of g.cells)) (named_drop g.stepped sets g.layer many ∙ (ap (λ xs. named xs (drop g.stepped g.layer)) ns ∙ ap (named (n ∷ names)) ls)) in
      let new : sources (renamed sets m) ≡ map (source_of m.cells) (named names left) =
      ap (λ (l : Layer). map (source_of m.cells) (drop m.stepped (named sets l))) s.layer
      ∙ (ap (λ k. map (source_of m.cells) (drop k (named sets g.layer))) next
      ∙ ap (map (source_of m.cells)) (named_drop (suc g.stepped) sets g.layer many ∙ (ap (λ xs. named xs (drop (suc g.stepped) g.layer)) names_later ∙ ap (named names) left_later))) in (
        record { set = n; words = words g.cells p.1 },
        old ∙ ap (λ (xs : List Source). record { set = n; words = words g.cells p.1 } ∷ xs) (same_words g.cells m.cells names left rest ∙ sym new),
        ap (λ (x : Source). x.words) here,
      )

  pub step_named : IsStepped (renamed sets g) at es (renamed sets m)
  step_named =
      let first = first_named (drop g.stepped sets) (drop g.stepped g.layer) refl refl in
      record {
        layer = ap (named sets) s.layer;
        stepped = s.stepped;
        place = s.place;
        left = (
          first.0,
          first.1,
          subst (λ (ws : List Word). (r : ℕ) (w : Word) →
              ((HasWord (targets m) r w → HasWord (targets g) r w ⊎ Brings ws at es r w) × (HasWord (targets g) r w ⊎ Brings ws at es r w → HasWord (targets m) r w))) (sym first.2) s.left.2,
        );
        reached = s.reached;
        few = s.few;
        hands_on = s.hands_on;
      }

stepped_layer : (groups : List Edges) (g h : Graph) (at n m : ℕ) → AreStepped g at groups h n m → h.layer ≡ g.layer
stepped_layer [] g h at n m (same, count) = ap (λ (x : Graph). x.layer) (sym same)
stepped_layer (es ∷ groups) g h at n m (mid, middle, stepped, cost, apart, later) = stepped_layer groups mid h at middle m later ∙ stepped.layer

steps_named : (sets : List ℕ) (groups : List Edges) (g h : Graph) (at n m : ℕ) → length sets ≡ length g.layer → AreStepped g at groups h n m →
    AreStepped (renamed sets g) at groups (renamed sets h) n m
steps_named sets [] g h at n m many (same, count) = (ap (renamed sets) same, count)
steps_named sets (es ∷ groups) g h at n m many (mid, middle, stepped, cost, apart, later) = (
  renamed sets mid,
  middle,
  step_named sets many stepped,
  cost,
  apart,
  steps_named sets groups mid h at middle m (many ∙ ap length (sym stepped.layer)) later,
)

-- what a program does, it does under any names of the sources
pub run_named : (sets : List ℕ) (groups : List Edges) (g h : Graph) (at n m : ℕ) → length sets ≡ length g.layer → IsRun g at groups h n m → IsRun (renamed sets g) at groups h n m
run_named sets groups g h at n m many (all, steps, next) =
    let same = stepped_layer groups g all at n m steps in (
      renamed sets all,
      steps_named sets groups g all at n m many steps,
      record {
        every = next.every ∙ sym (named_length sets all.layer (many ∙ ap length (sym same)));
        cells = next.cells;
        layer = next.layer;
        next = next.next;
        stepped = next.stepped;
        sources = next.sources;
        targets = next.targets;
      },
    )

-- ---- what is past the words is so under any names

named_back : (names : List ℕ) (layer : Layer) (p : ℕ × ℕ) → Has (named names layer) p → (q : ℕ × ℕ) × Has layer q × (q.1 ≡ p.1)
named_back [] layer p h = absurd h
named_back (n ∷ names) [] p h = absurd h
named_back (n ∷ names) (q ∷ layer) p (inl e) = (q, inl refl, ap (λ (x : ℕ × ℕ). x.1) e)
named_back (n ∷ names) (q ∷ layer) p (inr h) = let r = named_back names layer p h in (r.0, inr r.1, r.2)

named_word : (cells : List NamedLink) (names : List ℕ) (layer : Layer) (s : ℕ) (w : Word) → HasWord (map (source_of cells) (named names layer)) s w →
    (r : ℕ) × HasWord (map (source_of cells) layer) r w
named_word cells names layer s w h =
    let p = Has-map_cases (source_of cells) (named names layer) h.0 h.1 in
    let q = named_back names layer p.0 p.1 in (
      q.0.0,
      (source_of cells q.0, Has-map (source_of cells) layer q.0 q.1, refl, subst (λ c. Has (words cells c) w) (sym q.2) (subst (λ (x : Source). Has x.words w) (sym p.2) h.3)),
    )

pub past_named : (names : List ℕ) (g : Graph) (at : ℕ) → g.stepped ≡ 0 → IsPast (sources g) at → IsPast (sources (renamed names g)) at
past_named names g at none past s w x h b =
    let here = subst (λ k. HasWord (map (source_of g.cells) (drop k (named names g.layer))) s w) none h in
    let r = named_word g.cells names g.layer s w here in
    past r.0 w x (subst (λ k. HasWord (map (source_of g.cells) (drop k g.layer)) r.0 w) (sym none) r.1) b

-- ---- words of different sets differ under any distinct names

module _ (cells : List NamedLink) where
  abbrev all_of : Layer → List Source
  all_of layer = map (source_of cells) layer

  sets_are : (layer : Layer) → map (λ (x : Source). x.set) (all_of layer) ≡ sets_of layer
  sets_are [] = refl
  sets_are (p ∷ layer) = ap (λ xs. p.0 ∷ xs) (sets_are layer)

  apart_rest : (p : ℕ × ℕ) (layer : Layer) → AreApart (all_of (p ∷ layer)) → AreApart (all_of layer)
  apart_rest p layer a = record {
    distinct = a.distinct.1;
    one_path = λ x h. a.one_path x (inr h);
    apart = λ s r w hs hr. a.apart s r w (hs.0, inr hs.1, hs.2, hs.3) (hr.0, inr hr.1, hr.2, hr.3);
  }

  -- a word of the first is of no other
  first_apart : (p : ℕ × ℕ) (layer : Layer) (w : Word) → AreApart (all_of (p ∷ layer)) → Has (words cells p.1) w → (r : ℕ) → HasWord (all_of layer) r w → ⊥
  first_apart p layer w a here r h =
      let same : p.0 ≡ r = a.apart p.0 r w (source_of cells p, inl refl, refl, here) (h.0, inr h.1, h.2, h.3) in
      a.distinct.0 (subst (Has (map (λ (x : Source). x.set) (all_of layer))) (h.2 ∙ sym same) (Has-map (λ (x : Source). x.set) (all_of layer) h.0 h.1))

  one_path_named : (names : List ℕ) (layer : Layer) → AreApart (all_of layer) → (x : Source) → Has (all_of (named names layer)) x → AreDistinct x.words
  one_path_named names layer a x h =
      let p = Has-map_cases (source_of cells) (named names layer) x h in
      let q = named_back names layer p.0 p.1 in
      subst (λ (y : Source). AreDistinct y.words) p.2 (subst (λ c. AreDistinct (words cells c)) q.2 (a.one_path (source_of cells q.0) (Has-map (source_of cells) layer q.0 q.1)))

  apart_by : (names : List ℕ) (layer : Layer) → AreApart (all_of layer) → (s r : ℕ) (w : Word) → HasWord (all_of (named names layer)) s w → HasWord (all_of (named names layer)) r w → s ≡ r
  apart_by [] layer a s r w hs hr = absurd hs.1
  apart_by (n ∷ names) [] a s r w hs hr = absurd hs.1
  apart_by (n ∷ names) (p ∷ layer) a s r w (x, inl ex, sx, wx) (y, inl ey, sy, wy) = sym sx ∙ (ap (λ (z : Source). z.set) (sym ex ∙ ey) ∙ sy)
  apart_by (n ∷ names) (p ∷ layer) a s r w (x, inl ex, sx, wx) (y, inr hy, sy, wy) =
      let later = named_word cells names layer r w (y, hy, sy, wy) in
      absurd (first_apart p layer w a (subst (λ (z : Source). Has z.words w) (sym ex) wx) later.0 later.1)
  apart_by (n ∷ names) (p ∷ layer) a s r w (x, inr hx, sx, wx) (y, inl ey, sy, wy) =
      let later = named_word cells names layer s w (x, hx, sx, wx) in
      absurd (first_apart p layer w a (subst (λ (z : Source). Has z.words w) (sym ey) wy) later.0 later.1)
  apart_by (n ∷ names) (p ∷ layer) a s r w (x, inr hx, sx, wx) (y, inr hy, sy, wy) =
      apart_by names layer (apart_rest p layer a) s r w (x, hx, sx, wx) (y, hy, sy, wy)

  distinct_named : (names : List ℕ) (layer : Layer) → AreDistinct names → AreDistinct (map (λ (x : Source). x.set) (all_of (named names layer)))
  distinct_named [] layer d = tt
  distinct_named (n ∷ names) [] d = tt
  distinct_named (n ∷ names) (p ∷ layer) d = (λ h. d.0 (there names layer h), distinct_named names layer d.1)
    where
      there : (names : List ℕ) (layer : Layer) → Has (map (λ (x : Source). x.set) (all_of (named names layer))) n → Has names n
      there [] layer h = absurd h
      there (k ∷ names) [] h = absurd h
      there (k ∷ names) (q ∷ layer) (inl e) = inl e
      there (k ∷ names) (q ∷ layer) (inr h) = inr (there names layer h)

  pub apart_named : (names : List ℕ) (layer : Layer) → AreDistinct names → AreApart (all_of layer) → AreApart (all_of (named names layer))
  apart_named names layer d a = record { distinct = distinct_named names layer d; one_path = one_path_named names layer a; apart = apart_by names layer a }

-- ---- where each source hands its cell on, the layer gets other names

named_snoc : (done : List ℕ) (k : ℕ) (layer : Layer) (p : ℕ × ℕ) (rest : Layer) → drop (length done) layer ≡ p ∷ rest → named (done ++ k ∷ []) layer ≡ named done layer ++ (k, p.1) ∷ []
named_snoc [] k [] p rest e = cc
named_snoc [] k (q ∷ layer) p rest e = ap (λ (x : ℕ × ℕ). (k, x.1) ∷ []) (first q p layer rest e)
  where
    first : (x y : ℕ × ℕ) (xs ys : Layer) → x ∷ xs ≡ y ∷ ys → x ≡ y
    first x y xs ys e = cc
named_snoc (d ∷ done) k [] p rest e = cc
named_snoc (d ∷ done) k (q ∷ layer) p rest e = ap (λ (l : Layer). (d, q.1) ∷ l) (named_snoc done k layer p rest e)

module _ (g : Graph) (at : ℕ) (apart : AreApart (map (source_of g.cells) g.layer)) where
  -- the first so many sources have handed their cells on to these sets
  abbrev handed : List ℕ → ℕ → Graph
  handed done was = record { cells = g.cells; layer = g.layer; next = named done g.layer; stepped = length done; at = was }

  module _ (done : List ℕ) (k was : ℕ) (p : ℕ × ℕ) (rest : Layer) (left : drop (length done) g.layer ≡ p ∷ rest) where
    abbrev Before : Graph
    Before = handed done was

    abbrev After : Graph
    After = handed (done ++ k ∷ []) at

    longer : length (done ++ k ∷ []) ≡ suc (length done)
    longer = omega (arith, length-append done (k ∷ []))

    next_is : After.next ≡ Before.next ++ (k, p.1) ∷ []
    next_is = named_snoc done k g.layer p rest left

    targets_are : targets After ≡ targets Before ++ record { set = k; words = words g.cells p.1 } ∷ []
    targets_are = ap (map (source_of g.cells)) next_is ∙ snoc Before.next
      where
        snoc : (l : Layer) → map (source_of g.cells) (l ++ (k, p.1) ∷ []) ≡ map (source_of g.cells) l ++ record { set = k; words = words g.cells p.1 } ∷ []
        snoc [] = refl
        snoc (q ∷ l) = ap (λ (xs : List Source). source_of g.cells q ∷ xs) (snoc l)

    sets_are_of : sets_of After.next ≡ sets_of Before.next ++ k ∷ []
    sets_are_of = ap sets_of next_is ∙ snoc Before.next
      where
        snoc : (l : Layer) → sets_of (l ++ (k, p.1) ∷ []) ≡ sets_of l ++ k ∷ []
        snoc [] = refl
        snoc (q ∷ l) = ap (λ xs. q.0 ∷ xs) (snoc l)

    word_there : (s : ℕ) (w : Word) → HasWord (targets After) s w → HasWord (targets Before) s w ⊎ Brings (words g.cells p.1) at (handing_to k) s w
    word_there s w h =
        elim (Has-append_cases (targets Before) (record { set = k; words = words g.cells p.1 } ∷ []) h.0
        (subst (λ (xs : List Source). Has xs h.0) targets_are h.1)) as (λ _. HasWord (targets Before) s w ⊎ Brings (words g.cells p.1) at (handing_to k) s w) [
          | inl old ↦ inl (h.0, old, h.2, h.3)
          | inr (inl e) ↦ inr ((0, k), w, inl refl, ap (λ (x : Source). x.set) e ∙ h.2, subst (λ (x : Source). Has x.words w) (sym e) h.3, append-nil w)
          | inr (inr none) ↦ absurd none
        ]

    word_back : (s : ℕ) (w : Word) → HasWord (targets Before) s w ⊎ Brings (words g.cells p.1) at (handing_to k) s w → HasWord (targets After) s w
    word_back s w (inl h) = (h.0, subst (λ (xs : List Source). Has xs h.0) (sym targets_are) (Has-append_left (targets Before) _ h.0 h.1), h.2, h.3)
    word_back s w (inr (e, u, inr none, to, hu, eq)) = absurd none
    word_back s w (inr (e, u, inl is, to, hu, eq)) =
        let one : Source = record { set = k; words = words g.cells p.1 } in (
          one,
          subst (λ (xs : List Source). Has xs one) (sym targets_are) (Has-append_right (targets Before) (one ∷ []) one (inl refl)),
          ap (λ (x : ℕ × ℕ). x.1) is ∙ to,
          subst (Has (words g.cells p.1)) (sym (append-nil u) ∙ (ap (λ (x : ℕ × ℕ). u ++ mark_block at x.0) is ∙ eq)) hu,
        )

    reached_there : (s : ℕ) → Has (sets_of After.next) s → Has (sets_of Before.next) s ⊎ LeadsTo (handing_to k) s
    reached_there s h = elim (Has-append_cases (sets_of Before.next) (k ∷ []) s (subst (λ xs. Has xs s) sets_are_of h)) as (λ _. Has (sets_of Before.next) s ⊎ LeadsTo (handing_to k) s) [
      | inl old ↦ inl old
      | inr (inl e) ↦ inr ((0, k), inl refl, e)
      | inr (inr none) ↦ absurd none
    ]

    reached_back : (s : ℕ) → Has (sets_of Before.next) s ⊎ LeadsTo (handing_to k) s → Has (sets_of After.next) s
    reached_back s (inl old) = subst (λ xs. Has xs s) (sym sets_are_of) (Has-append_left (sets_of Before.next) (k ∷ []) s old)
    reached_back s (inr (e, inr none, to)) = absurd none
    reached_back s (inr (e, inl is, to)) =
        subst (λ xs. Has xs s) (sym sets_are_of) (Has-append_right (sets_of Before.next) (k ∷ []) s (inl (ap (λ (x : ℕ × ℕ). x.1) is ∙ to)))

    handed_step : IsStepped Before at (handing_to k) After
    handed_step = record {
      layer = refl;
      stepped = omega (arith, longer);
      place = refl;
      left = (
        source_of g.cells p,
        ap (map (source_of g.cells)) left ∙
            ap (λ (l : Layer). source_of g.cells p ∷ map (source_of g.cells) l) (sym (drop_rest g.layer (length done) p rest left) ∙ ap (λ n. drop n g.layer) (sym longer)),
        λ s w. (word_there s w, word_back s w),
      );
      reached = λ s. (reached_there s, reached_back s);
      few = omega (arith, ap length next_is, length-append (named done g.layer) ((k, p.1) ∷ []));
      hands_on = λ to is new. omega arith;
    }

  abbrev Walked : List ℕ → List ℕ → ℕ → ℕ → Type 0
  Walked done left was n = (last : ℕ) × AreStepped (handed done was) at (handing left) (handed (done ++ left) last) n n

  walk : (left done : List ℕ) (was n : ℕ) → length (done ++ left) ≡ length g.layer → AreDistinct (done ++ left) → Walked done left was n
  walk [] done was n many distinct = (was, (ap (λ xs. handed xs was) (sym (append-nil done)), refl))
  walk (k ∷ left) done was n many distinct = by (drop (length done) g.layer) refl (walk left (done ++ k ∷ []) at n (ap length assoc ∙ many) (subst AreDistinct (sym assoc) distinct))
    where
      assoc : (done ++ k ∷ []) ++ left ≡ done ++ k ∷ left
      assoc = append_assoc done (k ∷ []) left

      long : length (done ++ k ∷ left) ≡ length done + suc (length left)
      long = length-append done (k ∷ left)

      by : (rest : Layer) → drop (length done) g.layer ≡ rest → Walked (done ++ k ∷ []) left at n → Walked done (k ∷ left) was n
      by [] is later = absurd (omega (arith, length-drop (length done) g.layer, ap length is, many, long))
      by (p ∷ rest) is later =
          let names : AreDistinct (done ++ k ∷ []) = distinct_left (done ++ k ∷ []) left (subst AreDistinct (sym assoc) distinct) in (
            later.0,
            (
              handed (done ++ k ∷ []) at,
              n,
              handed_step done k was p rest is,
              record { made = 0; freed = 0; few = omega arith; balance = refl; bound = omega arith },
              apart_named g.cells (done ++ k ∷ []) g.layer names apart,
              subst (λ xs. AreStepped (handed (done ++ k ∷ []) at) at (handing left) (handed xs later.0) n n) assoc later.1,
            ),
          )

-- it takes no step
pub hand_run : (g : Graph) (to : List ℕ) (at n : ℕ) → g.stepped ≡ 0 → g.next ≡ [] → AreApart (sources g) → AreDistinct to → length to ≡ length g.layer → IsRun g at (handing to) (renamed to g) n n
hand_run g to at n none next apart distinct many =
    let all_apart : AreApart (map (source_of g.cells) g.layer) = subst (λ k. AreApart (map (source_of g.cells) (drop k g.layer))) none apart in
    let walked = walk g at all_apart to [] g.at n many distinct in
    let first : handed g at all_apart [] g.at ≡ g = λ i. record { cells = g.cells; layer = g.layer; next = sym next i; stepped = sym none i; at = g.at } in
    let all : Graph = handed g at all_apart to walked.0 in (
      all,
      subst (λ (x : Graph). AreStepped x at (handing to) all n n) first walked.1,
      record {
        every = many;
        cells = refl;
        layer = refl;
        next = next;
        stepped = none;
        sources = ap (λ k. map (source_of g.cells) (drop k (named to g.layer))) none;
        targets = ap (map (source_of g.cells)) next;
      },
    )

-- ---- a sound graph is so under any distinct names

pub sound_named : (sets : List ℕ) (g : Graph) (holds : Holds) → AreDistinct sets → length sets ≡ length g.layer → IsSound g holds → IsSound (renamed sets g) holds
sound_named sets g holds distinct many sound = record {
  few = omega (arith, sound.few, named_length sets g.layer many);
  fresh = sound.fresh;
  ready = λ at place. subst (λ left. IsReady at g.cells left g.next holds) (sym left_same) (sound.ready at place);
  sets = subst AreDistinct (sym (named_sets sets g.layer many)) distinct;
}
  where
    left_many : length (drop g.stepped sets) ≡ length (drop g.stepped g.layer)
    left_many = omega (arith, length-drop g.stepped sets, length-drop g.stepped g.layer, many)

    left_same : left_cells (renamed sets g) ≡ left_cells g
    left_same = ap (map (λ (p : ℕ × ℕ). p.1)) (named_drop g.stepped sets g.layer many) ∙ named_cells (drop g.stepped sets) (drop g.stepped g.layer) left_many

-- ---- names, written one after another

-- the first so many have other names
abbrev pub named_first : ℕ → List ℕ → Layer → Layer
named_first k sets layer = named (take k sets) layer ++ drop k layer

pub named_at : (k : ℕ) (sets : List ℕ) (layer : Layer) → length sets ≡ length layer → slice_get (named_first k sets layer) k ≡ slice_get layer k
named_at zero sets layer e = refl
named_at (suc k) [] [] e = refl
named_at (suc k) [] (p ∷ layer) e = absurd (omega (arith, e))
named_at (suc k) (s ∷ sets) [] e = absurd (omega (arith, e))
named_at (suc k) (s ∷ sets) (p ∷ layer) e = named_at k sets layer (omega (arith, e))

pub named_more : (k : ℕ) (sets : List ℕ) (layer : Layer) (s : ℕ) (p : ℕ × ℕ) → slice_get sets k ≡ Some s → slice_get layer k ≡ Some p →
    set (named_first k sets layer) k (s, p.1) ≡ named_first (suc k) sets layer
named_more zero [] layer s p has there = cc
named_more zero (n ∷ sets) [] s p has there = cc
named_more zero (n ∷ sets) (q ∷ layer) s p has there = ap (λ (x : ℕ × ℕ). (s, x.1) ∷ layer) (sym (same_Some q p there)) ∙ ap (λ m. (m, q.1) ∷ layer) (sym (same_Some n s has))
named_more (suc k) [] layer s p has there = cc
named_more (suc k) (n ∷ sets) [] s p has there = cc
named_more (suc k) (n ∷ sets) (q ∷ layer) s p has there = ap (λ (l : Layer). (n, q.1) ∷ l) (named_more k sets layer s p has there)

pub named_all : (k : ℕ) (sets : List ℕ) (layer : Layer) → length sets ≤ k → length layer ≤ k → named_first k sets layer ≡ named sets layer
named_all k sets layer few all = ap (λ xs. named xs layer ++ drop k layer) (take_all sets k few) ∙ (ap (λ (l : Layer). named sets layer ++ l) (drop_all k layer all) ∙ append-nil (named sets layer))
