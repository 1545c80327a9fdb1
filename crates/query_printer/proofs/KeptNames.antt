-- Ascending names are the list that is made of them one by one.
use Rattle.std.proofs.Common.{◌≡◌, List, [], ◌∷◌, ◌++◌, ap, refl, sym, ◌∙◌, append_assoc, inl, inr}
use Rattle.std.proofs.lemmas.List.{append-nil}
use Rattle.std.specs.List.Sorted.{IsStrictlySortedBy}
use Rattle.std.specs.Ordering.{ordering_reverse}
use Rattle.std.specs.Cmp.Lexicographic.{nat_list_cmp_total}
use Rattle.std.specs.declared.cmp.Ordering.TheVariants.{Less, Greater}
use Rattle.span_core.specs.NameSets.{name_cmp, by_order, with_name, Ascending}
use Rattle.spanner_model.specs.Captures.{VarName}
use Rattle.span_core.specs.Lists.{Has}
use Rattle.spanner_model.proofs.NameLaws.{below_all}
use Rattle.query_parser.specs.Spells.{with_names}
use Rattle.query_parser.proofs.Lists.{has_last}

-- each name of the first list stands before each of the second
abbrev AllBefore : List VarName → List VarName → Type 0
AllBefore names xs = (a b : VarName) → Has names a → Has xs b → name_cmp a b ≡ Less

greater : (x y : VarName) → name_cmp y x ≡ Less → name_cmp x y ≡ Greater
greater x y e = nat_list_cmp_total.antisymm x y ∙ ap ordering_reverse e

with_last_name : (x : VarName) (names : List VarName) → ((a : VarName) → Has names a → name_cmp a x ≡ Less) → with_name x names ≡ names ++ x ∷ []
with_last_name x [] before = refl
with_last_name x (y ∷ names) before =
    ap (λ o. by_order o (x ∷ (y ∷ names)) (y ∷ names) (y ∷ with_name x names)) (greater x y (before y (inl refl)))
    ∙ ap (λ (ys : List VarName). y ∷ ys) (with_last_name x names (λ a h. before a (inr h)))

names_in_turn : (names xs : List VarName) → AllBefore names xs → Ascending xs → with_names names xs ≡ names ++ xs
unfolding IsStrictlySortedBy
names_in_turn names [] before up = sym (append-nil names)
names_in_turn names (x ∷ xs) before up =
    ap (λ (ys : List VarName). with_names ys xs) (with_last_name x names (λ a h. before a x h (inl refl)))
    ∙ names_in_turn (names ++ x ∷ []) xs later up.1 ∙ append_assoc names (x ∷ []) xs
  where
    later : AllBefore (names ++ x ∷ []) xs
    later a b h k = elim (has_last names x a h) as (λ _. name_cmp a b ≡ Less) [ inl g ↦ before a b g (inr k) | inr e ↦ rw (← e) (below_all x b xs up.0 k) ]

pub ascending_names : (xs : List VarName) → Ascending xs → with_names [] xs ≡ xs
ascending_names xs up = names_in_turn [] xs (λ a b h. absurd h) up
