-- The list of a formula's variables is ascending, and has exactly these.
use Rattle.std.proofs.Common.{◌⊎◌, ◌↔◌, List, [], inl, inr, ap, ◌≡◌}
use Rattle.span_core.specs.NameSets.{Ascending, with_name}
use Rattle.span_core.specs.Lists.{Has}
use Rattle.spanner_model.specs.Tree.{Tree, empty, one, cat_end, cat, alt_end, alt, rep, cap}
use Rattle.spanner_model.specs.Captures.{VarName}
use Rattle.spanner_model.specs.Sequential.{HasVar}
use Rattle.spanner_model.proofs.NameLaws.{with_cases, with_here, with_there}
use Rattle.span_core.proofs.NameSetLaws.{none_are_variables, with_ascends}
use Rattle.place_automaton.specs.Counts.{counts_over}
use Rattle.place_automaton.specs.Drafts.{AreNamed}
use Rattle.place_automaton.specs.Variables.{with_vars}

pub vars_ascend : (f : Tree) (names : List VarName) → Ascending names → Ascending (with_vars names f)
vars_ascend empty names h = h
vars_ascend (one set) names h = h
vars_ascend cat_end names h = h
vars_ascend (cat f rest) names h = vars_ascend rest (with_vars names f) (vars_ascend f names h)
vars_ascend alt_end names h = h
vars_ascend (alt f rest) names h = vars_ascend rest (with_vars names f) (vars_ascend f names h)
vars_ascend (rep f least most) names h = vars_ascend f names h
vars_ascend (cap x f) names h = vars_ascend f (with_name x names) (with_ascends x names h)

-- names of before are kept
vars_keep : (f : Tree) (names : List VarName) (x : VarName) → Has names x → Has (with_vars names f) x
vars_keep empty names x h = h
vars_keep (one set) names x h = h
vars_keep cat_end names x h = h
vars_keep (cat f rest) names x h = vars_keep rest (with_vars names f) x (vars_keep f names x h)
vars_keep alt_end names x h = h
vars_keep (alt f rest) names x h = vars_keep rest (with_vars names f) x (vars_keep f names x h)
vars_keep (rep f least most) names x h = vars_keep f names x h
vars_keep (cap y f) names x h = vars_keep f (with_name y names) x (with_there y x names h)

vars_there : (f : Tree) (names : List VarName) (x : VarName) → HasVar f x → Has (with_vars names f) x
vars_there empty names x h = absurd h
vars_there (one set) names x h = absurd h
vars_there cat_end names x h = absurd h
vars_there (cat f rest) names x (inl h) = vars_keep rest (with_vars names f) x (vars_there f names x h)
vars_there (cat f rest) names x (inr h) = vars_there rest (with_vars names f) x h
vars_there alt_end names x h = absurd h
vars_there (alt f rest) names x (inl h) = vars_keep rest (with_vars names f) x (vars_there f names x h)
vars_there (alt f rest) names x (inr h) = vars_there rest (with_vars names f) x h
vars_there (rep f least most) names x h = vars_there f names x h
vars_there (cap y f) names x (inl e) = vars_keep f (with_name y names) x (rw (← e) (with_here y names))
vars_there (cap y f) names x (inr h) = vars_there f (with_name y names) x h

vars_cases : (f : Tree) (names : List VarName) (x : VarName) → Has (with_vars names f) x → Has names x ⊎ HasVar f x
vars_cases empty names x h = inl h
vars_cases (one set) names x h = inl h
vars_cases cat_end names x h = inl h
vars_cases (cat f rest) names x h =
    elim (vars_cases rest (with_vars names f) x h) [
      | inl a ↦ elim (vars_cases f names x a) [ inl b ↦ inl b | inr b ↦ inr (inl b) ]
      | inr a ↦ inr (inr a)
    ]
vars_cases alt_end names x h = inl h
vars_cases (alt f rest) names x h =
    elim (vars_cases rest (with_vars names f) x h) [
      | inl a ↦ elim (vars_cases f names x a) [ inl b ↦ inl b | inr b ↦ inr (inl b) ]
      | inr a ↦ inr (inr a)
    ]
vars_cases (rep f least most) names x h = vars_cases f names x h
vars_cases (cap y f) names x h =
    elim (vars_cases f (with_name y names) x h) [
      | inl a ↦ elim (with_cases y x names a) [ inl e ↦ inr (inl e) | inr b ↦ inl b ]
      | inr a ↦ inr (inr a)
    ]

-- the list has exactly the variables of the formula
pub vars_are : (f : Tree) (x : VarName) → Has (with_vars [] f) x ↔ HasVar f x
vars_are f x = (λ h. elim (vars_cases f [] x h) [ inl a ↦ absurd a | inr a ↦ a ], vars_there f [] x)

pub list_ascends : (f : Tree) → Ascending (with_vars [] f)
list_ascends f = vars_ascend f [] none_are_variables.ascending

pub vars_named : (f : Tree) (names : List VarName) → names ≡ with_vars [] f → AreNamed names f
vars_named f names is x v = rw is ((vars_are f x).1 v)

pub same_places : (names : List VarName) (f : Tree) → names ≡ with_vars [] f → (counts_over names f).places ≡ (counts_over (with_vars [] f) f).places
same_places names f is = ap (λ (ns : List VarName). (counts_over ns f).places) is
