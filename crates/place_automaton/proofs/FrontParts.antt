-- The first parts of a concatenation, and the one behind them.
use Rattle.std.proofs.Common.{◌≡◌, ◌+◌, ℕ, List, [], ◌∷◌, ◌++◌, take, drop, Some, inl, inr, sym, ap, ◌∙◌}
use Rattle.std.specs.Prelude.{slice_get}
use Rattle.std.proofs.lemmas.List.{take-append-drop}
use Rattle.span_core.proofs.ListLaws.{at_drop}
use Rattle.spanner_model.specs.Captures.{VarName}
use Rattle.spanner_model.specs.Tree.{Tree, cat, cat_all}
use Rattle.spanner_model.specs.Sequential.{HasVar, IsSequential}
use Rattle.place_automaton.specs.Repeats.{HasOrderedRepeats}
use Rattle.place_automaton.proofs.NullCounts.{IsCountable}

-- a variable of the first parts, and of the one behind them, is one of all
front_var : (ts : List Tree) (t : Tree) (us : List Tree) (x : VarName) → HasVar (cat_all ts) x → HasVar (cat_all (ts ++ t ∷ us)) x
front_var [] t us x h = absurd h
front_var (u ∷ ts) t us x (inl h) = inl h
front_var (u ∷ ts) t us x (inr h) = inr (front_var ts t us x h)

next_var : (ts : List Tree) (t : Tree) (us : List Tree) (x : VarName) → HasVar t x → HasVar (cat_all (ts ++ t ∷ us)) x
next_var [] t us x h = inl h
next_var (u ∷ ts) t us x h = inr (next_var ts t us x h)

front_sequential : (ts : List Tree) (t : Tree) (us : List Tree) → IsSequential (cat_all (ts ++ t ∷ us)) → IsSequential (cat (cat_all ts) t)
front_sequential [] t us ok = (tt, ok.0, λ x a b. a)
front_sequential (u ∷ ts) t us ok =
    let r = front_sequential ts t us ok.1 in (
      (ok.0, r.0, λ x a b. ok.2 x a (front_var ts t us x b)),
      r.1,
      λ x a b. elim a [ inl h ↦ ok.2 x h (next_var ts t us x b) | inr h ↦ r.2 x h b ],
    )

front_ordered : (ts : List Tree) (t : Tree) (us : List Tree) → HasOrderedRepeats (cat_all (ts ++ t ∷ us)) → HasOrderedRepeats (cat (cat_all ts) t)
front_ordered [] t us ok = (tt, ok.0)
front_ordered (u ∷ ts) t us ok = let r = front_ordered ts t us ok.1 in ((ok.0, r.0), r.1)

pub front_countable : (names : List VarName) (ts : List Tree) (k : ℕ) (t : Tree) → slice_get ts k ≡ Some t → IsCountable names (cat_all ts) → IsCountable names (cat (cat_all (take k ts)) t)
front_countable names ts k t at ok =
    let us = drop (k + 1) ts in
    let e : ts ≡ take k ts ++ t ∷ us = sym (take-append-drop k ts) ∙ ap (λ vs. take k ts ++ vs) (at_drop ts k t at) in
    let all = rw e at ok in (
      front_sequential (take k ts) t us all.0,
      front_ordered (take k ts) t us all.1,
      λ x h. all.2 x (elim h [ inl a ↦ front_var (take k ts) t us x a | inr b ↦ next_var (take k ts) t us x b ]),
    )
