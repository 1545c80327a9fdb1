-- The words of the newest cell, by the cells that it names.
use Rattle.std.proofs.Common.{◌≡◌, ◌⊎◌, ℕ, ◌<◌, List, [], ◌∷◌, ◌++◌, Option, Some, None, inl, inr, refl, sym, subst, arith, nat_eq, eq-eqb, ne_eqb}
use Rattle.std.proofs.lemmas.Bool.{cond-true, cond-false}
use Rattle.span_core.specs.Lists.{Has}
use Rattle.node_arena.specs.Words.{Word, words, words_from, words_also, block_of}
use Rattle.node_arena.specs.Cells.{NamedLink}
use Rattle.span_core.proofs.HasLaws.{Has-append_left, Has-append_right, Has-append_cases, Has-map, Has-map_cases}
use Rattle.output_graph.proofs.WordLemmas.{words_here}

-- the words of the newest cell
module _ (l : NamedLink) (older : List NamedLink) where
  pub word_by_also : (c : ℕ) (u : Word) → l.also ≡ Some c → Has (words older c) u → Has (words (l ∷ older) l.name) u
  word_by_also c u is h =
      subst (λ ws. Has ws u) (sym (words_here l older))
      (Has-append_right (words_from (words older) (block_of l) l.from) (words_also (words older) l.also) u
      (subst (λ o. Has (words_also (words older) o) u) (sym is) h))

  pub word_by_from : (c : ℕ) (u : Word) → l.from ≡ Some c → Has (words older c) u → Has (words (l ∷ older) l.name) (u ++ block_of l)
  word_by_from c u is h =
      subst (λ ws. Has ws (u ++ block_of l)) (sym (words_here l older))
      (Has-append_left (words_from (words older) (block_of l) l.from) (words_also (words older) l.also) (u ++ block_of l)
      (subst (λ o. Has (words_from (words older) (block_of l) o) (u ++ block_of l)) (sym is) (Has-map (λ w. w ++ block_of l) (words older c) u h)))

  pub block_none : l.marks ≡ 0 → block_of l ≡ []
  block_none e = cond-true (nat_eq l.marks 0) [] ((l.at, l.marks) ∷ []) (eq-eqb l.marks 0 e)

  pub block_some : 0 < l.marks → block_of l ≡ (l.at, l.marks) ∷ []
  block_some h = cond-false (nat_eq l.marks 0) [] ((l.at, l.marks) ∷ []) (ne_eqb l.marks 0 (λ z. omega arith))

  also_cases : (o : Option ℕ) (u : Word) → Has (words_also (words older) o) u → (c : ℕ) × (o ≡ Some c) × Has (words older c) u
  also_cases None u h = absurd h
  also_cases (Some c) u h = (c, refl, h)

  from_cases : (o : Option ℕ) (u : Word) → (o ≡ None → ⊥) → Has (words_from (words older) (block_of l) o) u →
      (c : ℕ) × (v : Word) × (o ≡ Some c) × Has (words older c) v × (v ++ block_of l ≡ u)
  from_cases None u some h = absurd (some refl)
  from_cases (Some c) u some h = let r = Has-map_cases (λ w. w ++ block_of l) (words older c) u h in (c, r.0, refl, r.1, r.2)

  pub word_cases : (u : Word) → (l.from ≡ None → ⊥) → Has (words (l ∷ older) l.name) u →
      ((c : ℕ) × (l.also ≡ Some c) × Has (words older c) u)
      ⊎ ((c : ℕ) × (v : Word) × (l.from ≡ Some c) × Has (words older c) v × (v ++ block_of l ≡ u))
  word_cases u some h =
      elim (Has-append_cases (words_from (words older) (block_of l) l.from) (words_also (words older) l.also) u (subst (λ ws. Has ws u) (words_here l older) h))
      as (λ _. ((c : ℕ) × (l.also ≡ Some c) × Has (words older c) u)
      ⊎ ((c : ℕ) × (v : Word) × (l.from ≡ Some c) × Has (words older c) v × (v ++ block_of l ≡ u))) [
        | inl a ↦ inr (from_cases l.from u some a)
        | inr b ↦ inl (also_cases l.also u b)
      ]
