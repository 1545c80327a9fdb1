-- A layer under other names of its cells.
use Rattle.std.proofs.Common.{◌≡◌, ℕ, zero, suc, ◌+◌, ◌<◌, ◌≤◌, ◌⊎◌, max, List, [], ◌∷◌, ◌++◌, map, drop, take, length, get_or, Option, Some, None, inl, inr, refl, sym, ap, ap₂, ◌∙◌, subst, arith, add-one, if◌then◌else◌, nat_eq, eq-eqb, ne_eqb}
use Rattle.std.proofs.lemmas.Bool.{cases_eq, cond-true, cond-false}
use Rattle.std.proofs.Math.Seq.{take-length}
use Rattle.std.proofs.lemmas.List.{length-map}
use Rattle.std.proofs.lemmas.Option.{same_Some, none-some}
use Rattle.span_core.specs.Lists.{Has, AreDistinct}
use Rattle.span_core.proofs.HasLaws.{Has-map_cases}
use Rattle.node_arena.specs.Words.{Word, words, words_from, words_also, block_of}
use Rattle.node_arena.specs.Cells.{NamedLink, Cells, HasCell, Holds, hold, AreLinked, IsArena}
use Rattle.node_arena.specs.Copies.{renamed, renamed_one, IsOneToOne, IsCopy}
use Rattle.node_arena.proofs.CopyLaws.{copy_there, copy_of, some_renamed}
use Rattle.output_graph.specs.Grown.{past, past_at, Closes, IsOpen, IsEarlier, AreGrown}
use Rattle.output_graph.specs.Forward.{Layer, cell_of}
use Rattle.output_graph.specs.Graph.{Graph, Source, source_of, sources, sets_of}
use Rattle.output_graph.specs.Sound.{IsSound, left_cells}
use Rattle.output_graph.specs.Sets.{paired, cells_in}
use Rattle.output_graph.proofs.WordLemmas.{words_here, words_other, past_at_here, past_at_other}
use Rattle.output_graph.proofs.LayerLaws.{IsLayer, layer_sound, cells_of, has_cell_of, cell_of_pair, pair_of_cell, set_of_cell}
use Rattle.output_graph.proofs.GraphLaws.{same_pair}

-- before a source is stepped, the layer is one from which the next step begins
pub now_is_layer : (g : Graph) (holds : Holds) → IsSound g holds → g.stepped ≡ 0 → IsLayer g.cells g.layer holds
now_is_layer g holds sound start =
    let r = sound.ready (past g.cells) (inl (start, omega arith)) in
    let all : left_cells g ≡ cells_of g.layer = ap (λ n. cells_of (drop n g.layer)) start in
    let empty : g.next ≡ [] = sound.fresh start in
    let left : (s c : ℕ) → cell_of g.layer s ≡ Some c → Has (left_cells g) c = λ s c is. subst (λ (xs : List ℕ). Has xs c) (sym all) (has_cell_of g.layer s c is) in
    let distinct : AreDistinct (cells_of g.layer) = subst (λ (xs : List ℕ). AreDistinct xs) all r.distinct in
    let a = r.among in
    let told : (c : ℕ) → Has (left_cells g) c → words g.cells c ≡ r.W c = a.between.stepping.source_words in
    let once : (s t c : ℕ) → cell_of g.layer s ≡ Some c → cell_of g.layer t ≡ Some c → s ≡ t = λ s t c is it.
    ap (λ (x : ℕ × ℕ). x.0) (same_pair g.layer (s, c) (t, c) distinct (pair_of_cell g.layer s c is) (pair_of_cell g.layer t c it) refl) in
    record {
      grown = a.between.growing.grown;
      there = λ s c is. a.between.growing.left_there c (left s c is);
      is_open = λ s c is. a.between.growing.left_open c (left s c is);
      one_path = λ s c is. subst (λ (ws : List Word). AreDistinct ws) (sym (told c (left s c is))) (a.apart.one_path c (r.are_sources c (left s c is)));
      apart = λ s t c b w is it hc hb.
          let same : c ≡ b = a.apart.apart c b w (r.are_sources c (left s c is)) (r.are_sources b (left t b it)) (subst (λ (ws : List Word). Has ws w) (told c (left s c is)) hc)
          (subst (λ (ws : List Word). Has ws w) (told b (left t b it)) hb) in
          once s t b (is ∙ ap Some same) it;
      once = once;
      held = λ s c is. a.held.at_left c (left s c is);
      only = λ c some. elim (a.held.only c some) as (λ _. (s : ℕ) × (cell_of g.layer s ≡ Some c)) [
        | inl h ↦ set_of_cell g.layer c sound.sets (subst (λ (xs : List ℕ). Has xs c) all h)
        | inr h ↦ absurd (none-some c (ap (λ (l : Layer). cell_of l h.0) (sym empty) ∙ h.1))
      ];
      sets = sound.sets;
    }

abbrev pub copied_pair : (ℕ → ℕ) → ℕ × ℕ → ℕ × ℕ
copied_pair copy p = (p.0, copy p.1)

module _ (copy : ℕ → ℕ) where
  one_older : (l : NamedLink) (older : List NamedLink) → IsOneToOne copy (l ∷ older) → IsOneToOne copy older
  one_older l older one c d hc hd e = one c d (hc.0, inr hc.1, hc.2) (hd.0, inr hd.1, hd.2) e

  from_renamed : (cells copies : List NamedLink) (block : Word) (o : Option ℕ) → ((d : ℕ) → o ≡ Some d → words copies (copy d) ≡ words cells d) →
      words_from (words copies) block (renamed_one copy o) ≡ words_from (words cells) block o
  from_renamed cells copies block None same = refl
  from_renamed cells copies block (Some d) same = ap (λ (ws : List Word). map (λ (w : Word). w ++ block) ws) (same d refl)

  also_renamed : (cells copies : List NamedLink) (o : Option ℕ) → ((d : ℕ) → o ≡ Some d → words copies (copy d) ≡ words cells d) →
      words_also (words copies) (renamed_one copy o) ≡ words_also (words cells) o
  also_renamed cells copies None same = refl
  also_renamed cells copies (Some d) same = same d refl

  -- a copy has the words of the cell
  pub words_renamed : (cells : List NamedLink) (c : ℕ) → IsOneToOne copy cells → AreGrown cells → HasCell cells c → words (map (renamed copy) cells) (copy c) ≡ words cells c
  words_renamed [] c one grown h = absurd h.1
  words_renamed (l ∷ older) c one grown h =
      let copies : List NamedLink = map (renamed copy) older in
      let same : (d : ℕ) → HasCell older d → words copies (copy d) ≡ words older d = λ d hd. words_renamed older d (one_older l older one) grown.1 hd in
      elim (cases_eq l.name c) as (λ _. words (map (renamed copy) (l ∷ older)) (copy c) ≡ words (l ∷ older) c) [
        | inl is ↦ subst (λ k. words (renamed copy l ∷ copies) (copy k) ≡ words (l ∷ older) k) is
            (words_here (renamed copy l) copies
            ∙ (ap₂ (λ (xs ys : List Word). xs ++ ys) (from_renamed older copies (block_of l) l.from (λ d e. same d (grown.0.from_there d e)))
            (also_renamed older copies l.also (λ d e. same d (grown.0.also_there d e)))
            ∙ sym (words_here l older)))
        | inr ne ↦
            let there : HasCell older c = elim h.1 as (λ _. HasCell older c) [
              | inl e ↦ absurd (ne (ap (λ (x : NamedLink). x.name) e ∙ h.2))
              | inr hd ↦ (h.0, hd, h.2)
            ] in
            words_other (renamed copy l) copies (copy c) (λ e. ne (one l.name c (l, inl refl, refl) h e)) ∙ (same c there ∙ sym (words_other l older c ne))
      ]

  past_renamed : (cells : List NamedLink) → past (map (renamed copy) cells) ≡ past cells
  past_renamed [] = refl
  past_renamed (l ∷ older) = ap (λ n. if nat_eq l.marks 0 then n else max n (l.at + 1)) (past_renamed older)

  past_at_renamed : (cells : List NamedLink) (c : ℕ) → IsOneToOne copy cells → HasCell cells c → past_at (map (renamed copy) cells) (copy c) ≡ past_at cells c
  past_at_renamed [] c one h = absurd h.1
  past_at_renamed (l ∷ older) c one h = elim (cases_eq l.name c) as (λ _. past_at (map (renamed copy) (l ∷ older)) (copy c) ≡ past_at (l ∷ older) c) [
    | inl is ↦ subst (λ k. past_at (map (renamed copy) (l ∷ older)) (copy k) ≡ past_at (l ∷ older) k) is
        (past_at_here (renamed copy l) (map (renamed copy) older) ∙ (past_renamed (l ∷ older) ∙ sym (past_at_here l older)))
    | inr ne ↦
        let there : HasCell older c = elim h.1 as (λ _. HasCell older c) [
          | inl e ↦ absurd (ne (ap (λ (x : NamedLink). x.name) e ∙ h.2))
          | inr hd ↦ (h.0, hd, h.2)
        ] in
        past_at_other (renamed copy l) (map (renamed copy) older) (copy c) (λ e. ne (one l.name c (l, inl refl, refl) h e))
        ∙ (past_at_renamed older c (one_older l older one) there ∙ sym (past_at_other l older c ne))
  ]

  -- what the links of grown cells name are cells
  from_is_cell : (cells : List NamedLink) → AreGrown cells → (m : NamedLink) (c : ℕ) → Has cells m → (m.from ≡ Some c) ⊎ (m.also ≡ Some c) → HasCell cells c
  from_is_cell [] grown m c h n = absurd h
  from_is_cell (l ∷ older) grown m c h n = elim h as (λ _. HasCell (l ∷ older) c) [
    | inl e ↦ elim (subst (λ (x : NamedLink). (x.from ≡ Some c) ⊎ (x.also ≡ Some c)) (sym e) n) as (λ _. HasCell (l ∷ older) c) [
      | inl f ↦ let r = grown.0.from_there c f in (r.0, inr r.1, r.2)
      | inr f ↦ let r = grown.0.also_there c f in (r.0, inr r.1, r.2)
    ]
    | inr there ↦ let r = from_is_cell older grown.1 m c there n in (r.0, inr r.1, r.2)
  ]

  -- who names a copy, names the cell
  same_name : (cells : List NamedLink) → IsOneToOne copy cells → (o : Option ℕ) (c : ℕ) → HasCell cells c → ((d : ℕ) → o ≡ Some d → HasCell cells d) → renamed_one copy o ≡ Some (copy c) → o ≡ Some c
  same_name cells one o c h there e = let r = some_renamed copy o (copy c) e in r.1 ∙ ap Some (one r.0 c (there r.0 r.1) h r.2)

  open_renamed : (cells : List NamedLink) (c : ℕ) → IsOneToOne copy cells → AreGrown cells → HasCell cells c → IsOpen cells c → IsOpen (map (renamed copy) cells) (copy c)
  open_renamed cells c one grown h is_open k hk closes =
      let r = Has-map_cases (renamed copy) cells k hk in
      let m : NamedLink = r.0 in
      elim (subst (λ (x : NamedLink). Closes x (copy c)) (sym r.2) closes) as (λ _. ⊥) [
        | inl a ↦ is_open m r.1 (inl (a.0, same_name cells one m.from c h (λ d e. from_is_cell cells grown m d r.1 (inl e)) a.1))
        | inr b ↦ is_open m r.1 (inr (same_name cells one m.also c h (λ d e. from_is_cell cells grown m d r.1 (inr e)) b))
      ]

  no_from : (o : Option ℕ) → renamed_one copy o ≡ None → o ≡ None
  no_from None e = refl
  no_from (Some d) e = absurd (none-some (copy d) (sym e))

  -- copies grow as the cells do
  pub grown_renamed : (cells : List NamedLink) → IsOneToOne copy cells → AreGrown cells → AreLinked (map (renamed copy) cells) → AreGrown (map (renamed copy) cells)
  grown_renamed [] one grown linked = tt
  grown_renamed (l ∷ older) one grown linked =
      let one' = one_older l older one in
      let copies : List NamedLink = map (renamed copy) older in (
        record {
          fresh = linked.0.fresh;
          first_is_root = λ e. ap (λ (xs : List NamedLink). map (renamed copy) xs) (grown.0.first_is_root (no_from l.from e));
          unmarked = λ e. grown.0.unmarked (no_from l.from e);
          from_there = linked.0.from_there;
          also_there = linked.0.also_there;
          apart = linked.0.apart;
          from_open = λ c e.
              let r = some_renamed copy l.from c e in
              subst (λ k. IsOpen copies k) r.2 (open_renamed older r.0 one' grown.1 (grown.0.from_there r.0 r.1) (grown.0.from_open r.0 r.1));
          also_open = λ c e.
              let r = some_renamed copy l.also c e in
              subst (λ k. IsOpen copies k) r.2 (open_renamed older r.0 one' grown.1 (grown.0.also_there r.0 r.1) (grown.0.also_open r.0 r.1));
          later = λ c e some.
              let r = some_renamed copy l.from c e in
              let le = grown.0.later r.0 r.1 some in
              let same = past_at_renamed older r.0 one' (grown.0.from_there r.0 r.1) in
              subst (λ k. past_at copies k ≤ l.at) r.2 (subst (λ n. n ≤ l.at) (sym same) le);
          descends = λ c d e some hd ed md.
              let r = some_renamed copy l.from c e in
              let k = Has-map_cases (renamed copy) older d hd in
              let m : NamedLink = k.0 in
              let em : renamed_one copy m.from ≡ Some (copy r.0) = ap (λ (x : NamedLink). x.from) k.2 ∙ (ed ∙ ap Some (sym r.2)) in
              let mine = same_name older one' m.from r.0 (grown.0.from_there r.0 r.1) (λ b f. from_is_cell older grown.1 m b k.1 (inl f)) em in
              let marked : 0 < m.marks = subst (λ (x : NamedLink). 0 < x.marks) (sym k.2) md in
              subst (λ (x : NamedLink). IsEarlier x (renamed copy l)) k.2 (grown.0.descends r.0 m r.1 some k.1 mine marked);
        },
        grown_renamed older one' grown.1 linked.1,
      )

  cell_of_copied : (layer : Layer) (s c : ℕ) → cell_of layer s ≡ Some c → cell_of (map (copied_pair copy) layer) s ≡ Some (copy c)
  cell_of_copied [] s c e = absurd (none-some c e)
  cell_of_copied (p ∷ layer) s c e = elim (cases_eq p.0 s) as (λ _. cell_of (map (copied_pair copy) (p ∷ layer)) s ≡ Some (copy c)) [
    | inl is ↦ cond-true (nat_eq p.0 s) (Some (copy p.1)) (cell_of (map (copied_pair copy) layer) s) (eq-eqb p.0 s is)
        ∙ ap (λ k. Some (copy k)) (same_Some p.1 c (sym (cond-true (nat_eq p.0 s) (Some p.1) (cell_of layer s) (eq-eqb p.0 s is)) ∙ e))
    | inr ne ↦ cond-false (nat_eq p.0 s) (Some (copy p.1)) (cell_of (map (copied_pair copy) layer) s) (ne_eqb p.0 s ne)
        ∙ cell_of_copied layer s c (sym (cond-false (nat_eq p.0 s) (Some p.1) (cell_of layer s) (ne_eqb p.0 s ne)) ∙ e)
  ]

  copied_cell_of : (layer : Layer) (s q : ℕ) → cell_of (map (copied_pair copy) layer) s ≡ Some q → (c : ℕ) × (cell_of layer s ≡ Some c) × (copy c ≡ q)
  copied_cell_of [] s q e = absurd (none-some q e)
  copied_cell_of (p ∷ layer) s q e = elim (cases_eq p.0 s) as (λ _. (c : ℕ) × (cell_of (p ∷ layer) s ≡ Some c) × (copy c ≡ q)) [
    | inl is ↦ (
      p.1,
      cond-true (nat_eq p.0 s) (Some p.1) (cell_of layer s) (eq-eqb p.0 s is),
      same_Some (copy p.1) q (sym (cond-true (nat_eq p.0 s) (Some (copy p.1)) (cell_of (map (copied_pair copy) layer) s) (eq-eqb p.0 s is)) ∙ e),
    )
    | inr ne ↦
        let r = copied_cell_of layer s q (sym (cond-false (nat_eq p.0 s) (Some (copy p.1)) (cell_of (map (copied_pair copy) layer) s) (ne_eqb p.0 s ne)) ∙ e) in
        (r.0, cond-false (nat_eq p.0 s) (Some p.1) (cell_of layer s) (ne_eqb p.0 s ne) ∙ r.1, r.2)
  ]

  sets_copied : (layer : Layer) → sets_of (map (copied_pair copy) layer) ≡ sets_of layer
  sets_copied [] = refl
  sets_copied (p ∷ layer) = ap (λ (xs : List ℕ). p.0 ∷ xs) (sets_copied layer)

  -- a copied layer is one from which the next step begins
  pub copied_is_layer : (cells : List NamedLink) (layer : Layer) (holds after : Holds) → IsLayer cells layer holds → IsOneToOne copy cells → AreLinked (map (renamed copy) cells) →
      ((c : ℕ) → HasCell cells c → hold after (copy c) ≡ hold holds c) → ((q : ℕ) → 0 < hold after q → HasCell (map (renamed copy) cells) q) →
      IsLayer (map (renamed copy) cells) (map (copied_pair copy) layer) after
  copied_is_layer cells layer holds after i one linked same only = record {
    grown = grown_renamed cells one i.grown linked;
    there = λ s q is. let r = copied_cell_of layer s q is in subst (λ k. HasCell (map (renamed copy) cells) k) r.2 (copy_there copy cells r.0 (i.there s r.0 r.1));
    is_open = λ s q is.
        let r = copied_cell_of layer s q is in
        subst (λ k. IsOpen (map (renamed copy) cells) k) r.2 (open_renamed cells r.0 one i.grown (i.there s r.0 r.1) (i.is_open s r.0 r.1));
    one_path = λ s q is.
        let r = copied_cell_of layer s q is in
        subst (λ k. AreDistinct (words (map (renamed copy) cells) k)) r.2
        (subst (λ (ws : List Word). AreDistinct ws) (sym (words_renamed cells r.0 one i.grown (i.there s r.0 r.1))) (i.one_path s r.0 r.1));
    apart = λ s t p q w is it hp hq.
        let r = copied_cell_of layer s p is in
        let u = copied_cell_of layer t q it in
        i.apart s t r.0 u.0 w r.1 u.1
        (subst (λ (ws : List Word). Has ws w) (words_renamed cells r.0 one i.grown (i.there s r.0 r.1)) (subst (λ k. Has (words (map (renamed copy) cells) k) w) (sym r.2) hp))
        (subst (λ (ws : List Word). Has ws w) (words_renamed cells u.0 one i.grown (i.there t u.0 u.1)) (subst (λ k. Has (words (map (renamed copy) cells) k) w) (sym u.2) hq));
    once = λ s t q is it.
        let r = copied_cell_of layer s q is in
        let u = copied_cell_of layer t q it in
        i.once s t u.0 (r.1 ∙ ap Some (one r.0 u.0 (i.there s r.0 r.1) (i.there t u.0 u.1) (r.2 ∙ sym u.2))) u.1;
    held = λ s q is.
        let r = copied_cell_of layer s q is in
        subst (λ k. hold after k ≡ 1) r.2 (same r.0 (i.there s r.0 r.1) ∙ i.held s r.0 r.1);
    only = λ q some.
        let o = copy_of copy cells q (only q some) in
        let e : hold after q ≡ hold holds o.0 = ap (hold after) (sym o.2) ∙ same o.0 o.1 in
        let r = i.only o.0 (omega arith) in
        (r.0, cell_of_copied layer r.0 o.0 r.1 ∙ ap Some o.2);
    sets = subst (λ (xs : List ℕ). AreDistinct xs) (sym (sets_copied layer)) i.sets;
  }

  paired_copies : (layer : Layer) → paired layer (map copy (cells_of layer)) ≡ map (copied_pair copy) layer
  paired_copies [] = refl
  paired_copies (p ∷ layer) = ap (λ (l : Layer). copied_pair copy p ∷ l) (paired_copies layer)

  -- each set has the words that it had
  sources_copied : (cells : List NamedLink) (layer : Layer) → IsOneToOne copy cells → AreGrown cells → ((p : ℕ × ℕ) → Has layer p → HasCell cells p.1) →
      map (source_of (map (renamed copy) cells)) (map (copied_pair copy) layer) ≡ map (source_of cells) layer
  sources_copied cells [] one grown there = refl
  sources_copied cells (p ∷ layer) one grown there =
      ap₂ (λ (ws : List Word) (xs : List Source). let x : Source = record { set = p.0; words = ws } in x ∷ xs) (words_renamed cells p.1 one grown (there p (inl refl)))
      (sources_copied cells layer one grown (λ q h. there q (inr h)))

-- one set more
cells_next : (pairs : Layer) (k : ℕ) (p : ℕ × ℕ) → k < length pairs → p ≡ get_or pairs k p → cells_in (take k pairs) ++ p.1 ∷ [] ≡ cells_in (take (suc k) pairs)
cells_next [] k p l e = absurd (omega (arith, l))
cells_next (q ∷ pairs) zero p l e = ap (λ (x : ℕ × ℕ). x.1 ∷ []) e
cells_next (q ∷ pairs) (suc k) p l e = ap (λ (xs : List ℕ). q.1 ∷ xs) (cells_next pairs k p (omega (arith, l)) e)

pub cells_more : (pairs : Layer) (k : ℕ) (p : ℕ × ℕ) → k < length pairs → p ≡ get_or pairs k p → cells_in (take k pairs) ++ p.1 ∷ [] ≡ cells_in (take (k + 1) pairs)
cells_more pairs k p l e = cells_next pairs k p l e ∙ ap (λ j. cells_in (take j pairs)) (sym (add-one k))

paired_next : (pairs : Layer) (cells : List ℕ) (k s c d : ℕ) (p : ℕ × ℕ) → k < length pairs → length cells ≡ length pairs → s ≡ (get_or pairs k p).0 → c ≡ get_or cells k d →
    paired (take k pairs) (take k cells) ++ (s, c) ∷ [] ≡ paired (take (suc k) pairs) (take (suc k) cells)
paired_next [] cells k s c d p l e es ec = absurd (omega (arith, l))
paired_next (q ∷ pairs) [] k s c d p l e es ec = absurd (omega (arith, e))
paired_next (q ∷ pairs) (b ∷ cells) zero s c d p l e es ec = ap₂ (λ (x y : ℕ). let z : ℕ × ℕ = (x, y) in z ∷ []) es ec
paired_next (q ∷ pairs) (b ∷ cells) (suc k) s c d p l e es ec = ap (λ (xs : Layer). (q.0, b) ∷ xs) (paired_next pairs cells k s c d p (omega (arith, l)) (omega (arith, e)) es ec)

pub paired_more : (pairs : Layer) (cells : List ℕ) (k s c d : ℕ) (p : ℕ × ℕ) → k < length pairs → length cells ≡ length pairs → s ≡ (get_or pairs k p).0 → c ≡ get_or cells k d →
    paired (take k pairs) (take k cells) ++ (s, c) ∷ [] ≡ paired (take (k + 1) pairs) (take (k + 1) cells)
paired_more pairs cells k s c d p l e es ec = paired_next pairs cells k s c d p l e es ec ∙ ap (λ j. paired (take j pairs) (take j cells)) (sym (add-one k))

pub paired_all : (pairs : Layer) (cells : List ℕ) (n : ℕ) → n ≡ length pairs → length cells ≡ length pairs → paired (take n pairs) (take n cells) ≡ paired pairs cells
paired_all pairs cells n e same =
    ap₂ (λ (x y : ℕ). paired (take x pairs) (take y cells)) e (e ∙ sym same) ∙ ap₂ (λ (ps : Layer) (cs : List ℕ). paired ps cs) (take-length pairs) (take-length cells)

-- a graph and its copy
pub record IsCopied (g : Graph) (copies : List NamedLink) (after : Layer) (holds : Holds) : Type 0 where
  pub sound : IsSound (record { cells = copies; layer = after; next = []; stepped = 0; at = 0 }) holds
  pub sources_same : map (source_of copies) after ≡ sources g
  pub many : length copies ≡ length g.cells

-- a graph that is seen as t is copied
pub copy_done : {g t : Graph} {old new : Cells} {before names after : List ℕ} {layer : Layer} → IsSound g old.holds → g ≡ t → t.stepped ≡ 0 →
    g.cells ≡ old.cells → (copy : ℕ → ℕ) × IsCopy copy old new before names →
    IsArena new → before ≡ cells_in g.layer → after ≡ names → layer ≡ paired g.layer after → IsCopied t new.cells layer new.holds
copy_done {g} {t} {old} {new} {layer = layer} sound seen begun same (copy, is) arena eb ea el =
    let start : g.stepped ≡ 0 = ap (λ (x : Graph). x.stepped) seen ∙ begun in
    let one : IsOneToOne copy g.cells = subst (λ (cs : List NamedLink). IsOneToOne copy cs) (sym same) is.one_to_one in
    let i = now_is_layer g old.holds sound start in
    let copies : new.cells ≡ map (renamed copy) g.cells = is.cells ∙ ap (λ (cs : List NamedLink). map (renamed copy) cs) (sym same) in
    let made : layer ≡ map (copied_pair copy) g.layer =
    el ∙ (ap (λ (cs : List ℕ). paired g.layer cs) (ea ∙ (is.names ∙ ap (λ (cs : List ℕ). map copy cs) eb)) ∙ paired_copies copy g.layer) in
    let linked : AreLinked (map (renamed copy) g.cells) = subst (λ (cs : List NamedLink). AreLinked cs) copies arena.linked in
    let new_layer : IsLayer (map (renamed copy) g.cells) (map (copied_pair copy) g.layer) new.holds =
    copied_is_layer copy g.cells g.layer old.holds new.holds i one linked (λ c h. is.holds c (subst (λ (cs : List NamedLink). HasCell cs c) same h))
    (λ q some. subst (λ (cs : List NamedLink). HasCell cs q) copies (arena.held_there q some)) in
    let there : (p : ℕ × ℕ) → Has g.layer p → HasCell g.cells p.1 = λ p h. i.there p.0 p.1 (cell_of_pair g.layer p i.sets h) in
    let P : List NamedLink → Layer → Type 0 = λ cs l. IsLayer cs l new.holds in
    record {
      sound = layer_sound new.cells layer 0 new.holds (subst (λ (cs : List NamedLink). P cs layer) (sym copies) (subst (λ (l : Layer). P (map (renamed copy) g.cells) l) (sym made) new_layer));
      sources_same = ap₂ (λ (cs : List NamedLink) (l : Layer). map (source_of cs) l) copies made
          ∙ (sources_copied copy g.cells g.layer one i.grown there ∙ (ap (λ n. map (source_of g.cells) (drop n g.layer)) (sym start) ∙ ap sources seen));
      many = ap length copies ∙ (length-map g.cells (renamed copy) ∙ ap (λ (x : Graph). length x.cells) seen);
    }

-- the sets of a layer have cells
pub layer_there : {g : Graph} {holds : Holds} {names : List ℕ} → IsSound g holds → g.stepped ≡ 0 → names ≡ cells_in g.layer → (c : ℕ) → Has names c → HasCell g.cells c
layer_there {g} {holds} sound start e c h =
    let i = now_is_layer g holds sound start in
    let r = set_of_cell g.layer c i.sets (subst (λ (xs : List ℕ). Has xs c) e h) in
    i.there r.0 c r.1

-- and as many copies
pub names_many : {copy : ℕ → ℕ} {old new : Cells} {before names after : List ℕ} (layer : Layer) → IsCopy copy old new before names →
    before ≡ cells_in layer → after ≡ names → length after ≡ length layer
names_many {copy = copy} layer is eb ea =
    ap length (ea ∙ (is.names ∙ ap (λ (xs : List ℕ). map copy xs) eb)) ∙ (length-map (cells_in layer) copy ∙ length-map layer (λ (p : ℕ × ℕ). p.1))
