-- Cells and their words, when a newer cell stands in front.
use Rattle.std.proofs.Common.{◌≡◌, ℕ, ◌+◌, ◌<◌, ◌≤◌, max, Bool, true, false, List, [], ◌∷◌, ◌++◌, inl, inr, refl, sym, subst, arith, if◌then◌else◌, nat_eq, eq-eqb, ne_eqb}
use Rattle.std.proofs.lemmas.Bool.{cases_eq, cond-true, cond-false}
use Rattle.span_core.specs.Lists.{Has}
use Rattle.node_arena.specs.Words.{Word, words, words_from, words_also, block_of}
use Rattle.node_arena.specs.Cells.{NamedLink, HasCell}
use Rattle.output_graph.specs.Grown.{past, past_at}

module _ (l : NamedLink) (older : List NamedLink) where
  pub words_here : words (l ∷ older) l.name ≡ words_from (words older) (block_of l) l.from ++ words_also (words older) l.also
  words_here = cond-true (nat_eq l.name l.name) _ _ (eq-eqb l.name l.name refl)

  pub words_other : (c : ℕ) → (l.name ≡ c → ⊥) → words (l ∷ older) c ≡ words older c
  words_other c ne = cond-false (nat_eq l.name c) _ _ (ne_eqb l.name c ne)

  pub past_at_here : past_at (l ∷ older) l.name ≡ past (l ∷ older)
  past_at_here = cond-true (nat_eq l.name l.name) _ _ (eq-eqb l.name l.name refl)

  pub past_at_other : (c : ℕ) → (l.name ≡ c → ⊥) → past_at (l ∷ older) c ≡ past_at older c
  past_at_other c ne = cond-false (nat_eq l.name c) _ _ (ne_eqb l.name c ne)

  past_more_by : (b : Bool) → past older ≤ (if b then past older else max (past older) (l.at + 1))
  past_more_by true = omega arith
  past_more_by false = omega arith

  pub past_more : past older ≤ past (l ∷ older)
  past_more = past_more_by (nat_eq l.marks 0)

  pub past_marked : 0 < l.marks → l.at < past (l ∷ older)
  past_marked h =
      let e : nat_eq l.marks 0 ≡ false = ne_eqb l.marks 0 (λ z. omega arith) in
      subst (λ n. l.at < n) (sym (cond-false (nat_eq l.marks 0) (past older) (max (past older) (l.at + 1)) e)) (omega arith)

pub past_has : (cells : List NamedLink) (d : NamedLink) → Has cells d → 0 < d.marks → d.at < past cells
past_has [] d h m = absurd h
past_has (l ∷ older) d (inl e) m =
    subst (λ (x : NamedLink). x.at < past (l ∷ older)) e (past_marked l older (subst (λ (x : NamedLink). 0 < x.marks) (sym e) m))
past_has (l ∷ older) d (inr h) m =
    let a = past_has older d h m in
    let b = past_more l older in
    omega arith

pub past_at_le : (cells : List NamedLink) (c : ℕ) → past_at cells c ≤ past cells
past_at_le [] c = omega arith
past_at_le (l ∷ older) c = elim (cases_eq l.name c) as (λ _. past_at (l ∷ older) c ≤ past (l ∷ older)) [
  | inl e ↦ subst (λ n. past_at (l ∷ older) n ≤ past (l ∷ older)) e (subst (λ n. n ≤ past (l ∷ older)) (sym (past_at_here l older)) (omega arith))
  | inr ne ↦
      let a = past_at_le older c in
      let b = past_more l older in
      let e = past_at_other l older c ne in
      omega arith
]

-- a cell that has words is there
pub there_by_words : (cells : List NamedLink) (c : ℕ) (u : Word) → Has (words cells c) u → HasCell cells c
there_by_words [] c u h = absurd h
there_by_words (l ∷ older) c u h = elim (cases_eq l.name c) as (λ _. HasCell (l ∷ older) c) [
  | inl e ↦ (l, inl refl, e)
  | inr ne ↦
      let r = there_by_words older c u (subst (λ ws. Has ws u) (words_other l older c ne) h) in
      (r.0, inr r.1, r.2)
]

pub other_name : (older : List NamedLink) (l : NamedLink) (c : ℕ) → (HasCell older l.name → ⊥) → HasCell older c → l.name ≡ c → ⊥
other_name older l c fresh there e = fresh (there.0, there.1, sym (subst (λ n. n ≡ there.0.name) (sym e) (sym there.2)))
