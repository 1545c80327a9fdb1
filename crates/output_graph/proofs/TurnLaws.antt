-- The turning gives the accepted words, in block order.
use Rattle.std.proofs.Common.{◌≡◌, ◌↔◌, ℕ, ◌+◌, ◌<◌, Bool, true, false, List, [], ◌∷◌, ◌++◌, Option, Some, None, inl, inr, refl, sym, ap, ◌∙◌, subst, arith, if◌then◌else◌, nat_eq, append_assoc, append-nil, eq-eqb, ne_eqb}
use Rattle.std.proofs.lemmas.Bool.{cases_eq, cond-true, cond-false}
use Rattle.span_core.specs.Lists.{Has}
use Rattle.node_arena.specs.Words.{Word, words, words_from, words_also, block_of}
use Rattle.node_arena.specs.Cells.{NamedLink, HasCell}
use Rattle.output_graph.specs.Order.{LeadsBefore, AreInOrder, Ascends}
use Rattle.output_graph.specs.Grown.{past_at, Closes, IsOpen, Continues}
use Rattle.output_graph.specs.Turn.{Heads, take_newest, start, Turning}
use Rattle.output_graph.proofs.WordLemmas.{words_here, words_other, past_at_here, past_at_other, past_more, past_marked, past_has, past_at_le, there_by_words, other_name}
use Rattle.output_graph.proofs.WordCases.{word_by_also, word_by_from, block_none, block_some, word_cases}
use Rattle.output_graph.proofs.OrderLemmas.{ascends_from, leads_from}
use Rattle.output_graph.proofs.Handing.{Source, by_also, by_from, by_marks, kept, source_of, keeps, hands_also, hands_from, hands_marks, handed_in_order, handed_same}

module _ (l : NamedLink) (older : List NamedLink) (h : Heads) (Accepted : Word → Type 0) (more : l.from ≡ None → ⊥)
    (can : Continues older l) (t : Turning (l ∷ older) h Accepted) where
  other : (c : ℕ) → HasCell older c → l.name ≡ c → ⊥
  other c there = other_name older l c can.fresh there

  sound_by : (c : ℕ) (u s : Word) → Has (words older c) u → Source l (h l.name) c (h c) s → Accepted (u ++ s)
  sound_by c u s hu (by_also is hs) = t.sound l.name u s (word_by_also l older c u is hu) hs
  sound_by c u s hu (by_from is none hs) =
      let e : u ++ block_of l ≡ u = ap (λ b. u ++ b) (block_none l older none) ∙ append-nil u in
      subst (λ x. Accepted (x ++ s)) e (t.sound l.name (u ++ block_of l) s (word_by_from l older c u is hu) hs)
  sound_by c u s hu (by_marks is some r hr e) =
      let b = block_some l older some in
      let all = t.sound l.name (u ++ block_of l) r (word_by_from l older c u is hu) hr in
      let joined : (u ++ block_of l) ++ r ≡ u ++ s =
      append_assoc u (block_of l) r ∙ (ap (λ x. u ++ (x ++ r)) b ∙ ap (λ x. u ++ x) e) in
      subst Accepted joined all
  sound_by c u s hu (kept hs) =
      let ne = other c (there_by_words older c u hu) in
      t.sound c u s (subst (λ ws. Has ws u) (sym (words_other l older c ne)) hu) hs

  whole_from : (w : Word) (c : ℕ) (u s : Word) → Has (words (l ∷ older) c) u → Has (h c) s → u ++ s ≡ w →
      (c : ℕ) × (u : Word) × (s : Word) × Has (words older c) u × Has (take_newest l h c) s × (u ++ s ≡ w)
  whole_from w c u s hu hs e =
      elim (cases_eq l.name c) as (λ _. (c : ℕ) × (u : Word) × (s : Word) × Has (words older c) u × Has (take_newest l h c) s × (u ++ s ≡ w)) [
        | inl is ↦
            let hu' : Has (words (l ∷ older) l.name) u = subst (λ n. Has (words (l ∷ older) n) u) (sym is) hu in
            let hs' : Has (h l.name) s = subst (λ n. Has (h n) s) (sym is) hs in
            elim (word_cases l older u more hu') as (λ _. (c : ℕ) × (u : Word) × (s : Word) × Has (words older c) u × Has (take_newest l h c) s × (u ++ s ≡ w)) [
              | inl a ↦ (a.0, u, s, a.2, hands_also l (h l.name) a.0 (h a.0) s a.1 hs', e)
              | inr b ↦
                  elim (cases_eq l.marks 0) as (λ _. (c : ℕ) × (u : Word) × (s : Word) × Has (words older c) u × Has (take_newest l h c) s × (u ++ s ≡ w)) [
                    | inl none ↦
                        let e' : b.1 ++ s ≡ w = ap (λ x. x ++ s) (sym (ap (λ x. b.1 ++ x) (block_none l older none) ∙ append-nil b.1) ∙ b.4) ∙ e in
                        (b.0, b.1, s, b.3, hands_from l (h l.name) b.0 (h b.0) s b.2 (can.apart b.0 b.2) none hs', e')
                    | inr some ↦
                        let m : 0 < l.marks = grind arith in
                        let e' : b.1 ++ ((l.at, l.marks) ∷ s) ≡ w =
                        ap (λ x. b.1 ++ (x ++ s)) (sym (block_some l older m)) ∙ (sym (append_assoc b.1 (block_of l) s) ∙ (ap (λ x. x ++ s) b.4 ∙ e)) in
                        (b.0, b.1, (l.at, l.marks) ∷ s, b.3, hands_marks l (h l.name) b.0 (h b.0) s b.2 (can.apart b.0 b.2) m hs', e')
                  ]
            ]
        | inr ne ↦ (
          c,
          u,
          s,
          subst (λ ws. Has ws u) (words_other l older c ne) hu,
          keeps l (h l.name) c (h c) s (λ closes. subst (λ xs. Has xs s) (t.closed c l (inl refl) closes) hs) hs,
          e,
        )
      ]

  ascend_here : (c : ℕ) (s : Word) → Has (h l.name) s → Ascends (past_at older c) s
  ascend_here c s hs =
      let a = t.ascend l.name s (l, inl refl, refl) hs in
      let up = past_at_le older c in
      let more' = past_more l older in
      let is = past_at_here l older in
      ascends_from (past_at older c) (past_at (l ∷ older) l.name) s (omega arith) a

  ascend_by : (c : ℕ) (s : Word) → HasCell older c → Source l (h l.name) c (h c) s → Ascends (past_at older c) s
  ascend_by c s there (by_also is hs) = ascend_here c s hs
  ascend_by c s there (by_from is none hs) = ascend_here c s hs
  ascend_by c s there (by_marks is some r hr e) =
      let a = t.ascend l.name r (l, inl refl, refl) hr in
      let here = past_at_here l older in
      let m = past_marked l older some in
      subst (λ x. Ascends (past_at older c) x) e
      (can.later c is some, ascends_from (l.at + 1) (past_at (l ∷ older) l.name) r (omega arith) a)
  ascend_by c s there (kept hs) =
      subst (λ n. Ascends n s) (past_at_other l older c (other c there)) (t.ascend c s (there.0, inr there.1, there.2) hs)

  led_here : (d : NamedLink) (s : Word) → Has older d → 0 < d.marks → Has (h l.name) s → LeadsBefore (d.at, d.marks) s
  led_here d s hd md hs =
      let a = t.ascend l.name s (l, inl refl, refl) hs in
      let is = past_at_here l older in
      let below = past_has older d hd md in
      let more' = past_more l older in
      leads_from (past_at (l ∷ older) l.name) (d.at, d.marks) s (omega arith) a

  led_by : (c : ℕ) (d : NamedLink) (s : Word) → Has older d → d.from ≡ Some c → 0 < d.marks → Source l (h l.name) c (h c) s → LeadsBefore (d.at, d.marks) s
  led_by c d s hd fd md (by_also is hs) = led_here d s hd md hs
  led_by c d s hd fd md (by_from is none hs) = led_here d s hd md hs
  led_by c d s hd fd md (by_marks is some r hr e) = subst (λ x. LeadsBefore (d.at, d.marks) x) e (can.descends c d is some hd fd md)
  led_by c d s hd fd md (kept hs) = t.led c d s (inr hd) fd md hs

  pub turning_step : Turning older (take_newest l h) Accepted
  turning_step = record {
    sound = λ c u s hu hs. sound_by c u s hu (source_of l (h l.name) c (h c) s hs);
    whole = λ w a. let r = t.whole w a in whole_from w r.0 r.1 r.2 r.3 r.4 r.5;
    in_order = λ c. handed_in_order l (h l.name) c (h c) (t.in_order l.name) (t.in_order c) (λ is some s hs. t.led c l s (inl refl) is some hs);
    ascend = λ c s there hs. ascend_by c s there (source_of l (h l.name) c (h c) s hs);
    led = λ c d s hd fd md hs. led_by c d s hd fd md (source_of l (h l.name) c (h c) s hs);
    closed = λ c d hd closes.
        handed_same l (h l.name) c (h c) (λ is. can.from_open c is d hd closes) (λ is. can.also_open c is d hd closes)
        ∙ t.closed c d (inr hd) closes;
  }

root_words : (W : ℕ → List Word) (b : Word) (o a : Option ℕ) → ((c : ℕ) → o ≡ Some c → ⊥) → ((c : ℕ) → a ≡ Some c → ⊥) → words_from W b o ++ words_also W a ≡ [] ∷ []
root_words W b None None no_from no_also = refl
root_words W b None (Some c) no_from no_also = absurd (no_also c refl)
root_words W b (Some c) a no_from no_also = absurd (no_from c refl)

-- the root alone is left
module _ (l : NamedLink) (h : Heads) (Accepted : Word → Type 0) (can : Continues [] l) (t : Turning (l ∷ []) h Accepted) where
  no_from : (c : ℕ) → l.from ≡ Some c → ⊥
  no_from c is = (can.from_there c is).1

  no_also : (c : ℕ) → l.also ≡ Some c → ⊥
  no_also c is = (can.also_there c is).1

  empty_word : words (l ∷ []) l.name ≡ [] ∷ []
  empty_word = words_here l [] ∙ root_words (words []) (block_of l) l.from l.also no_from no_also

  head_stays : take_newest l h l.name ≡ h l.name
  head_stays = handed_same l (h l.name) l.name (h l.name) (no_from l.name) (no_also l.name)

  root_whole : (w : Word) (c : ℕ) (u s : Word) → Has (words (l ∷ []) c) u → Has (h c) s → u ++ s ≡ w → Has (h l.name) w
  root_whole w c u s hu hs e = elim (cases_eq l.name c) as (λ _. Has (h l.name) w) [
    | inl is ↦
        let hu' : Has ([] ∷ []) u = subst (λ xs. Has xs u) empty_word (subst (λ n. Has (words (l ∷ []) n) u) (sym is) hu) in
        let hs' : Has (h l.name) s = subst (λ n. Has (h n) s) (sym is) hs in
        elim hu' as (λ _. Has (h l.name) w) [
          | inl nil ↦ subst (λ x. Has (h l.name) x) (ap (λ x. x ++ s) nil ∙ e) hs'
          | inr none ↦ absurd none
        ]
    | inr ne ↦ absurd (subst (λ xs. Has xs u) (words_other l [] c ne) hu)
  ]

  pub root_turned : ((w : Word) → Has (take_newest l h l.name) w ↔ Accepted w) × AreInOrder (take_newest l h l.name)
  root_turned = (
    λ w. (
      λ there. t.sound l.name [] w (subst (λ xs. Has xs []) (sym empty_word) (inl refl)) (subst (λ xs. Has xs w) head_stays there),
      λ a. let r = t.whole w a in subst (λ xs. Has xs w) (sym head_stays) (root_whole w r.0 r.1 r.2 r.3 r.4 r.5),
    ),
    subst AreInOrder (sym head_stays) (t.in_order l.name),
  )

module _ (cells : List NamedLink) (accept : ℕ) (open_ : IsOpen cells accept) where
  start_here : (c : ℕ) (s : Word) → Has (start accept c) s → (c ≡ accept) × (s ≡ [])
  start_here c s there = elim (cases_eq c accept) as (λ _. (c ≡ accept) × (s ≡ [])) [
    | inl e ↦ (e, start_by (nat_eq c accept) s there)
    | inr ne ↦ absurd (subst (λ xs. Has xs s) (cond-false (nat_eq c accept) ([] ∷ []) [] (ne_eqb c accept ne)) there)
  ]
    where
      start_by : (b : Bool) (s : Word) → Has (if b then [] ∷ [] else []) s → s ≡ []
      start_by true s (inl e) = sym e
      start_by true s (inr n) = absurd n
      start_by false s n = absurd n

  start_order_by : (b : Bool) → AreInOrder (if b then [] ∷ [] else [])
  start_order_by true = (λ v n. absurd n, tt)
  start_order_by false = tt

  pub start_turning : Turning cells (start accept) (λ w. Has (words cells accept) w)
  start_turning = record {
    sound = λ c u s hu hs.
        let r = start_here c s hs in
        let e : u ≡ u ++ s = sym (append-nil u) ∙ ap (λ x. u ++ x) (sym r.1) in
        subst (λ x. Has (words cells accept) x) e (subst (λ n. Has (words cells n) u) r.0 hu);
    whole = λ w a. (accept, w, [], a, subst (λ xs. Has xs []) (sym (cond-true (nat_eq accept accept) ([] ∷ []) [] (eq-eqb accept accept refl))) (inl refl), append-nil w);
    in_order = λ c. start_order_by (nat_eq c accept);
    ascend = λ c s there hs. subst (λ x. Ascends (past_at cells c) x) (sym (start_here c s hs).1) tt;
    led = λ c d s hd fd md hs. subst (λ x. LeadsBefore (d.at, d.marks) x) (sym (start_here c s hs).1) tt;
    closed = λ c d hd closes. cond-false (nat_eq c accept) ([] ∷ []) []
        (ne_eqb c accept (λ e. open_ d hd (subst (λ n. Closes d n) e closes)));
  }
