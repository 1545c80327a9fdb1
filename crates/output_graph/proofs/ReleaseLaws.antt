-- A cell that nothing names is given back: the words of the others stay, and they stay well grown.
use Rattle.std.proofs.Common.{◌≡◌, ℕ, ◌+◌, ◌≤◌, max, Bool, true, false, List, [], ◌∷◌, ◌++◌, map, Option, Some, None, inl, inr, refl, sym, ap, ap₂, ◌∙◌, subst, arith, if◌then◌else◌, nat_eq}
use Rattle.std.proofs.lemmas.Bool.{cases_eq}
use Rattle.node_arena.specs.Words.{Word, words, words_from, words_also, block_of}
use Rattle.node_arena.specs.Cells.{NamedLink, without, IsUnnamed}
use Rattle.node_arena.proofs.Without.{without_first, without_later, without_less, without_keeps}
use Rattle.output_graph.specs.Grown.{past, past_at, IsOpen, Continues, AreGrown}
use Rattle.output_graph.proofs.WordLemmas.{words_here, words_other, past_more, past_at_other, past_at_here}

module _ (k : ℕ) where
  same_from : (W V : ℕ → List Word) (b : Word) (o : Option ℕ) → ((c : ℕ) → o ≡ Some c → W c ≡ V c) → words_from W b o ≡ words_from V b o
  same_from W V b None f = refl
  same_from W V b (Some c) f = ap (λ ws. map (λ (w : Word). w ++ b) ws) (f c refl)

  same_also : (W V : ℕ → List Word) (o : Option ℕ) → ((c : ℕ) → o ≡ Some c → W c ≡ V c) → words_also W o ≡ words_also V o
  same_also W V None f = refl
  same_also W V (Some c) f = f c refl

  -- the words of the other cells stay
  pub words_without : (cells : List NamedLink) (c : ℕ) → IsUnnamed cells k → (c ≡ k → ⊥) → words (without k cells) c ≡ words cells c
  words_without [] c un ne = refl
  words_without (l ∷ older) c un ne = elim (cases_eq l.name k) as (λ _. words (without k (l ∷ older)) c ≡ words (l ∷ older) c) [
    | inl e ↦ ap (λ xs. words xs c) (without_first k l older e) ∙ sym (words_other l older c (λ is. ne (sym is ∙ e)))
    | inr other ↦ ap (λ xs. words xs c) (without_later k l older other) ∙ elim (cases_eq l.name c) as (λ _. words (l ∷ without k older) c ≡ words (l ∷ older) c) [
      | inl is ↦
          let rest : IsUnnamed older k = λ d h. un d (inr h) in
          let f = same_from (words (without k older)) (words older) (block_of l) l.from
          (λ d is_d. words_without older d rest (λ q. un l (inl refl) (inl (is_d ∙ ap Some q)))) in
          let a = same_also (words (without k older)) (words older) l.also
          (λ d is_d. words_without older d rest (λ q. un l (inl refl) (inr (is_d ∙ ap Some q)))) in
          subst (λ n. words (l ∷ without k older) n ≡ words (l ∷ older) n) is
          (words_here l (without k older) ∙ (ap₂ (λ xs ys. xs ++ ys) f a ∙ sym (words_here l older)))
      | inr apart ↦ words_other l (without k older) c apart ∙ (words_without older c (λ d h. un d (inr h)) ne ∙ sym (words_other l older c apart))
    ]
  ]

  past_by : (b : Bool) (n p q : ℕ) → p ≤ q → (if b then p else max p n) ≤ (if b then q else max q n)
  past_by true n p q h = h
  past_by false n p q h = omega arith

  pub past_without : (cells : List NamedLink) → past (without k cells) ≤ past cells
  past_without [] = omega arith
  past_without (l ∷ older) = elim (cases_eq l.name k) as (λ _. past (without k (l ∷ older)) ≤ past (l ∷ older)) [
    | inl e ↦ subst (λ xs. past xs ≤ past (l ∷ older)) (sym (without_first k l older e)) (past_more l older)
    | inr ne ↦ subst (λ xs. past xs ≤ past (l ∷ older)) (sym (without_later k l older ne))
        (past_by (nat_eq l.marks 0) (l.at + 1) (past (without k older)) (past older) (past_without older))
  ]

  pub past_at_without : (cells : List NamedLink) (c : ℕ) → (c ≡ k → ⊥) → past_at (without k cells) c ≤ past_at cells c
  past_at_without [] c ne = omega arith
  past_at_without (l ∷ older) c ne = elim (cases_eq l.name k) as (λ _. past_at (without k (l ∷ older)) c ≤ past_at (l ∷ older) c) [
    | inl e ↦
        let a = past_at_other l older c (λ is. ne (sym is ∙ e)) in
        subst (λ xs. past_at xs c ≤ past_at (l ∷ older) c) (sym (without_first k l older e)) (omega arith)
    | inr other ↦ subst (λ xs. past_at xs c ≤ past_at (l ∷ older) c) (sym (without_later k l older other)) (elim (cases_eq l.name c) as (λ _. past_at (l ∷ without k older) c ≤ past_at (l ∷ older) c) [
      | inl is ↦ subst (λ n. past_at (l ∷ without k older) n ≤ past_at (l ∷ older) n) is
          (let a = past_at_here l (without k older) in let b = past_at_here l older in
          let p : past (l ∷ without k older) ≤ past (l ∷ older) = past_by (nat_eq l.marks 0) (l.at + 1) (past (without k older)) (past older) (past_without older) in
          omega arith)
      | inr apart ↦
          let a = past_at_other l (without k older) c apart in
          let b = past_at_other l older c apart in
          let r = past_at_without older c ne in
          omega arith
    ])
  ]

  open_without : (cells : List NamedLink) (c : ℕ) → IsOpen cells c → IsOpen (without k cells) c
  open_without cells c o d h = o d (without_less k cells d h)

  pub grown_without : (cells : List NamedLink) → AreGrown cells → IsUnnamed cells k → AreGrown (without k cells)
  grown_without [] g un = g
  grown_without (l ∷ older) g un = elim (cases_eq l.name k) as (λ _. AreGrown (without k (l ∷ older))) [
    | inl e ↦ subst AreGrown (sym (without_first k l older e)) g.1
    | inr ne ↦
        let can = g.0 in
        let not_from : (c : ℕ) → l.from ≡ Some c → c ≡ k → ⊥ = λ c is q. un l (inl refl) (inl (is ∙ ap Some q)) in
        let not_also : (c : ℕ) → l.also ≡ Some c → c ≡ k → ⊥ = λ c is q. un l (inl refl) (inr (is ∙ ap Some q)) in
        let less = without_less k older in
        let step : Continues (without k older) l = record {
          fresh = λ there. can.fresh (there.0, less there.0 there.1, there.2);
          first_is_root = λ none. ap (λ xs. without k xs) (can.first_is_root none);
          unmarked = can.unmarked;
          from_there = λ c is. without_keeps k older c (not_from c is) (can.from_there c is);
          also_there = λ c is. without_keeps k older c (not_also c is) (can.also_there c is);
          apart = can.apart;
          from_open = λ c is. open_without older c (can.from_open c is);
          also_open = λ c is. open_without older c (can.also_open c is);
          later = λ c is some. let a = can.later c is some in let b = past_at_without older c (not_from c is) in omega arith;
          descends = λ c d is some h from md. can.descends c d is some (less d h) from md;
        } in
        subst AreGrown (sym (without_later k l older ne)) (step, grown_without older g.1 (λ d h. un d (inr h)))
  ]
