-- How often links name a cell, and how many cells there are.
use Rattle.std.proofs.Common.{◌≡◌, ℕ, suc, ◌+◌, ◌-◌, ◌^◌, ◌<◌, ◌≤◌, ◌⊎◌, inl, inr, List, [], ◌∷◌, map, length, Option, Some, None, true, false, eqb, refl, sym, ap, subst, ◌∙◌, arith, ne_eqb}
use Rattle.std.proofs.lemmas.Bool.{cases_eq, or_cases, false≢true}
use Rattle.std.proofs.lemmas.Map.Steps.{length-le_from_distinct_below}
use Rattle.std.specs.List.{IsDistinct, AllByRecursion, list_any}
use Rattle.std.proofs.lemmas.Option.{none-some, same_Some}
use Rattle.span_core.specs.Lists.{Has}
use Rattle.node_arena.specs.declared.TheConstants.{MOST_CELLS, MOST_HOLDS, DONE}
use Rattle.node_arena.specs.Cells.{NamedLink, Holds, HasCell, Names, IsNamed, IsUnnamed, AreLinked, hold}
use Rattle.node_arena.specs.Nodes.{names_once, named_times, count_of}
use Rattle.node_arena.proofs.Branches.{if_same, if_apart}

-- a name is that of a cell or not
pub cell_or_not : (cells : List NamedLink) (c : ℕ) → HasCell cells c ⊎ (HasCell cells c → ⊥)
cell_or_not [] c = inr (λ h. h.1)
cell_or_not (l ∷ older) c = elim (cases_eq l.name c) as (λ _. HasCell (l ∷ older) c ⊎ (HasCell (l ∷ older) c → ⊥)) [
  | inl e ↦ inl (l, inl refl, e)
  | inr ne ↦ elim (cell_or_not older c) as (λ _. HasCell (l ∷ older) c ⊎ (HasCell (l ∷ older) c → ⊥)) [
    | inl h ↦ inl (h.0, inr h.1, h.2)
    | inr none ↦ inr (λ h. elim h.1 as (λ _. ⊥) [ inl e ↦ ne (ap (λ (x : NamedLink). x.name) e ∙ h.2) | inr there ↦ none (h.0, there, h.2) ])
  ]
]

pub named_one : (o : Option ℕ) (c : ℕ) → o ≡ Some c → names_once o c ≡ 1
named_one None c e = absurd (cc)
named_one (Some d) c e = let is : d ≡ c = cc in if_same d c 1 0 is

pub named_zero : (o : Option ℕ) (c : ℕ) → (o ≡ Some c → ⊥) → names_once o c ≡ 0
named_zero None c ne = refl
named_zero (Some d) c ne = if_apart d c 1 0 (λ e. ne (ap Some e))

pub names_or_not : (o : Option ℕ) (c : ℕ) → (o ≡ Some c) ⊎ (o ≡ Some c → ⊥)
names_or_not None c = inr (λ e. absurd (none-some c e))
names_or_not (Some d) c = elim (cases_eq d c) as (λ _. (Some d ≡ Some c) ⊎ (Some d ≡ Some c → ⊥)) [
  | inl e ↦ inl (ap Some e)
  | inr ne ↦ inr (λ is. ne (same_Some d c is))
]

pub once_at_most : (o : Option ℕ) (c : ℕ) → names_once o c ≤ 1
once_at_most o c = elim (names_or_not o c) as (λ _. names_once o c ≤ 1) [
  | inl e ↦ let is = named_one o c e in omega arith
  | inr ne ↦ let is = named_zero o c ne in omega arith
]

-- what a link continues and what it takes along are apart
link_once : (l : NamedLink) (c : ℕ) → (l.from ≡ Some c → l.also ≡ Some c → ⊥) → names_once l.from c + names_once l.also c ≤ 1
link_once l c apart = elim (names_or_not l.from c) as (λ _. names_once l.from c + names_once l.also c ≤ 1) [
  | inl e ↦ let a = named_one l.from c e in let b = named_zero l.also c (apart e) in omega arith
  | inr ne ↦ let a = named_zero l.from c ne in let b = once_at_most l.also c in omega arith
]

-- and the oldest link names no cell
pub named_few : (cells : List NamedLink) (c : ℕ) → AreLinked cells → named_times cells c ≤ length cells - 1
named_few [] c linked = omega arith
named_few (l ∷ []) c linked =
    let a = named_zero l.from c (λ e. (linked.0.from_there c e).1) in
    let b = named_zero l.also c (λ e. (linked.0.also_there c e).1) in
    omega arith
named_few (l ∷ (m ∷ older)) c linked =
    let a = link_once l c (linked.0.apart c) in
    let r = named_few (m ∷ older) c linked.1 in
    omega arith

-- what no link names is named no times
pub unnamed_none : (cells : List NamedLink) (c : ℕ) → IsUnnamed cells c → named_times cells c ≡ 0
unnamed_none [] c un = refl
unnamed_none (l ∷ older) c un =
    let a = named_zero l.from c (λ e. un l (inl refl) (inl e)) in
    let b = named_zero l.also c (λ e. un l (inl refl) (inr e)) in
    let r = unnamed_none older c (λ m h. un m (inr h)) in
    omega arith

-- and the other way round
pub none_unnamed : (cells : List NamedLink) (c : ℕ) → named_times cells c ≡ 0 → IsUnnamed cells c
none_unnamed [] c z m h n = h
none_unnamed (l ∷ older) c z m h n = elim h as (λ _. ⊥) [
  | inl e ↦ elim (subst (λ (x : NamedLink). Names x c) (sym e) n) as (λ _. ⊥) [
    | inl f ↦ let is = named_one l.from c f in absurd (omega arith)
    | inr f ↦ let is = named_one l.also c f in absurd (omega arith)
  ]
  | inr there ↦ none_unnamed older c (omega arith) m there n
]

-- what is named so often is named by some link
pub some_named : (cells : List NamedLink) (c : ℕ) → 0 < named_times cells c → IsNamed cells c
some_named [] c some = absurd (omega arith)
some_named (l ∷ older) c some = elim (names_or_not l.from c) as (λ _. IsNamed (l ∷ older) c) [
  | inl e ↦ (l, inl refl, inl e)
  | inr ne ↦ elim (names_or_not l.also c) as (λ _. IsNamed (l ∷ older) c) [
    | inl e ↦ (l, inl refl, inr e)
    | inr nf ↦
        let a = named_zero l.from c ne in let b = named_zero l.also c nf in
        let r = some_named older c (omega arith) in (r.0, inr r.1, r.2)
  ]
]

-- only cells are named
pub named_there : (cells : List NamedLink) → AreLinked cells → (m : NamedLink) (c : ℕ) → Has cells m → Names m c → HasCell cells c
named_there [] linked m c h n = absurd h
named_there (l ∷ older) linked m c h n = elim h as (λ _. HasCell (l ∷ older) c) [
  | inl e ↦ elim (subst (λ (x : NamedLink). Names x c) (sym e) n) as (λ _. HasCell (l ∷ older) c) [
    | inl f ↦ let r = linked.0.from_there c f in (r.0, inr r.1, r.2)
    | inr f ↦ let r = linked.0.also_there c f in (r.0, inr r.1, r.2)
  ]
  | inr there ↦ let r = named_there older linked.1 m c there n in (r.0, inr r.1, r.2)
]

pub stranger_unnamed : (cells : List NamedLink) (c : ℕ) → AreLinked cells → (HasCell cells c → ⊥) → named_times cells c ≡ 0
stranger_unnamed cells c linked none = unnamed_none cells c (λ m h n. none (named_there cells linked m c h n))

names : List NamedLink → List ℕ
names cells = map (λ (l : NamedLink). l.name) cells

all_apart : (k : ℕ) (cells : List NamedLink) → ((c : ℕ) → HasCell cells c → k ≡ c → ⊥) → AllByRecursion (λ y. eqb k y ≡ false) (names cells)
unfolding names
all_apart k [] apart = tt
all_apart k (l ∷ older) apart = (ne_eqb k l.name (apart l.name (l, inl refl, refl)), all_apart k older (λ c h. apart c (h.0, inr h.1, h.2)))

names_distinct : (cells : List NamedLink) → AreLinked cells → IsDistinct eqb (names cells)
unfolding names IsDistinct
names_distinct [] linked = tt
names_distinct (l ∷ older) linked =
    (all_apart l.name older (λ c h e. linked.0.fresh (subst (λ x. HasCell older x) (sym e) h)), names_distinct older linked.1)

name_there : (cells : List NamedLink) (q : ℕ) → list_any (eqb q) (names cells) ≡ true → HasCell cells q
unfolding names
name_there [] q e = absurd (false≢true e)
name_there (l ∷ older) q e = elim (cases_eq l.name q) as (λ _. HasCell (l ∷ older) q) [
  | inl is ↦ (l, inl refl, is)
  | inr ne ↦ elim (or_cases (eqb q l.name) (list_any (eqb q) (names older)) e) as (λ _. HasCell (l ∷ older) q) [
    | inl is ↦ absurd (false≢true (sym (ne_eqb q l.name (λ s. ne (sym s))) ∙ is))
    | inr there ↦ let r = name_there older q there in (r.0, inr r.1, r.2)
  ]
]

length_names : (cells : List NamedLink) → length (names cells) ≡ length cells
unfolding names
length_names [] = refl
length_names (l ∷ older) = ap suc (length_names older)

-- there are no more cells than numbers for them
pub few_cells : (cells : List NamedLink) (n : ℕ) → AreLinked cells → ((c : ℕ) → HasCell cells c → c < n) → length cells ≤ n
few_cells cells n linked small =
    let h = length-le_from_distinct_below (names cells) n (names_distinct cells linked) (λ q is. small q (name_there cells q is)) in
    let e = length_names cells in
    omega arith

-- so a count fits
pub count_fits : (holds : Holds) (cells : List NamedLink) (c : ℕ) → AreLinked cells → ((q : ℕ) → HasCell cells q → q < MOST_CELLS) → hold holds c ≤ MOST_HOLDS → count_of holds cells c + 1 < 2 ^ 32
count_fits holds cells c linked small few =
    let a = named_few cells c linked in
    let b = few_cells cells MOST_CELLS linked small in
    omega arith

-- and is no head where each cell is held once at most
pub count_low : (holds : Holds) (cells : List NamedLink) (c : ℕ) → AreLinked cells → ((q : ℕ) → HasCell cells q → q < MOST_CELLS) → hold holds c ≤ 1 → count_of holds cells c < DONE
count_low holds cells c linked small few =
    let a = named_few cells c linked in
    let b = few_cells cells MOST_CELLS linked small in
    omega arith
