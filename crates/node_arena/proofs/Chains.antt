-- The nodes tell the cells and their holds.
use Rattle.std.proofs.Common.{◌≡◌, ℕ, ◌-◌, ◌<◌, inl, inr, List, [], ◌∷◌, length, Option, Some, None, refl, sym, ap, ap₂, subst, ◌∙◌, arith}
use Rattle.std.proofs.lemmas.Bool.{cases_eq}
use Rattle.std.specs.FinMap as map
use Rattle.node_arena.proofs.Maps.{empty_at, same_maps}
use Rattle.node_arena.specs.declared.TheConstants.{NONE, MOST_CELLS}
use Rattle.node_arena.specs.Cells.{NamedLink, Cells, Holds, HasCell, AreLinked, hold, with_hold}
use Rattle.node_arena.specs.Nodes.{Nodes, IsKept, node_at, node_of, first_of, number_of, name_of, link_of, cell_before, cells_from, holds_of, count_in, count_of, named_times, some_positive, seen}
use Rattle.node_arena.proofs.Branches.{if_same, if_apart}
use Rattle.node_arena.proofs.Holds.{get_here, get_other}
use Rattle.node_arena.proofs.NodeLaws.{node_here, node_past, node_there, count_kept}
use Rattle.node_arena.proofs.Counts.{cell_or_not}

-- the number of a name tells it
pub name_back : (o : Option ℕ) → ((c : ℕ) → o ≡ Some c → c < MOST_CELLS) → name_of (number_of o) ≡ o
name_back None small = if_same NONE NONE None (Some NONE) refl
name_back (Some c) small = if_apart c NONE None (Some c) (λ e. let h = small c refl in absurd (omega arith))

pub link_back : (count newer older : ℕ) (l : NamedLink) → name_of (number_of l.from) ≡ l.from → name_of (number_of l.also) ≡ l.also → link_of l.name (node_of count newer older l) ≡ l
link_back count newer older l f a = ap₂ (λ (x y : Option ℕ). let m : NamedLink = record { name = l.name; at = l.at; marks = l.marks; from = x; also = y } in m) f a

pub cells_back : (nodes : Nodes) (count : ℕ → ℕ) (newer : ℕ) (cells : List NamedLink) → ((c : ℕ) → HasCell cells c → map.get nodes c ≡ node_at count newer cells c) → AreLinked cells →
    ((c : ℕ) → HasCell cells c → c < MOST_CELLS) → cells_from (length cells) nodes (first_of cells) ≡ cells
unfolding cells_from
cells_back nodes count newer [] stored linked small = refl
cells_back nodes count newer (l ∷ older) stored linked small =
    let here = stored l.name (l, inl refl, refl) ∙ node_here count newer l older l.name refl in
    let f = name_back l.from (λ c e. let r = linked.0.from_there c e in small c (r.0, inr r.1, r.2)) in
    let a = name_back l.also (λ c e. let r = linked.0.also_there c e in small c (r.0, inr r.1, r.2)) in
    let rest = cells_back nodes count l.name older
    (λ c h. stored c (h.0, inr h.1, h.2) ∙ node_past count newer l older c (λ e. linked.0.fresh (subst (λ x. HasCell older x) (sym e) h)))
    linked.1 (λ c h. small c (h.0, inr h.1, h.2)) in
    ap (λ o. cell_before o l.name (λ d. cells_from (length older) nodes d)) here
    ∙ ap₂ (λ (x : NamedLink) (xs : List NamedLink). x ∷ xs) (link_back (count l.name) newer (first_of older) l f a) rest

module _ (nodes : Nodes) (all : List NamedLink) where
  pub held_part : (part : List NamedLink) (q : ℕ) → HasCell part q → map.get (holds_of nodes all part) q ≡ some_positive (count_in (map.get nodes q) - named_times all q)
  unfolding holds_of
  held_part [] q h = absurd h.1
  held_part (l ∷ older) q h =
      let n : ℕ = count_in (map.get nodes l.name) - named_times all l.name in
      elim (cases_eq q l.name) as (λ _. map.get (holds_of nodes all (l ∷ older)) q ≡ some_positive (count_in (map.get nodes q) - named_times all q)) [
        | inl e ↦ ap (map.get (with_hold (holds_of nodes all older) l.name n)) e ∙ (get_here (holds_of nodes all older) l.name n
            ∙ ap (λ k. some_positive (count_in (map.get nodes k) - named_times all k)) (sym e))
        | inr ne ↦ get_other (holds_of nodes all older) l.name n q ne ∙ elim h.1 as (λ _. map.get (holds_of nodes all older) q ≡ some_positive (count_in (map.get nodes q) - named_times all q)) [
          | inl is ↦ absurd (ne (sym h.2 ∙ sym (ap (λ (x : NamedLink). x.name) is)))
          | inr there ↦ held_part older q (h.0, there, h.2)
        ]
      ]

  pub held_else : (part : List NamedLink) (q : ℕ) → (HasCell part q → ⊥) → map.get (holds_of nodes all part) q ≡ None
  unfolding holds_of
  held_else [] q none = empty_at q
  held_else (l ∷ older) q none =
      let n : ℕ = count_in (map.get nodes l.name) - named_times all l.name in
      get_other (holds_of nodes all older) l.name n q (λ e. none (l, inl refl, sym e)) ∙ held_else older q (λ h. none (h.0, inr h.1, h.2))

module _ (nodes : Nodes) (newest live : ℕ) (v : Cells) (kept : IsKept nodes newest live v) where
  pub cells_are : cells_from live nodes newest ≡ v.cells
  cells_are =
      ap (λ n. cells_from n nodes newest) kept.number ∙ (ap (cells_from (length v.cells) nodes) kept.first
      ∙ cells_back nodes (count_of v.holds v.cells) NONE v.cells (λ c h. kept.stored c) kept.linked kept.small)

  holds_back : holds_of nodes v.cells v.cells ≡ v.holds
  holds_back = same_maps _ _ (λ q. elim (cell_or_not v.cells q) as (λ _. map.get (holds_of nodes v.cells v.cells) q ≡ map.get v.holds q) [
    | inl h ↦
        let r = node_there (count_of v.holds v.cells) NONE v.cells q h in
        let e : count_in (map.get nodes q) ≡ count_of v.holds v.cells q = ap count_in (kept.stored q ∙ r.1) ∙ count_kept (count_of v.holds v.cells) NONE v.cells q r.0 r.1 in
        let d : count_in (map.get nodes q) - named_times v.cells q ≡ hold v.holds q = omega arith in
        held_part nodes v.cells v.cells q h ∙ (ap some_positive d ∙ sym (kept.proper q))
    | inr none ↦
        let z : hold v.holds q ≡ 0 = elim (cases_eq (hold v.holds q) 0) as (λ _. hold v.holds q ≡ 0) [ inl e ↦ e | inr ne ↦ absurd (none (kept.held_there q (omega arith))) ] in
        held_else nodes v.cells v.cells q none ∙ sym (kept.proper q ∙ if_same (hold v.holds q) 0 None (Some (hold v.holds q)) z)
  ])

  pub holds_are : holds_of nodes (cells_from live nodes newest) (cells_from live nodes newest) ≡ v.holds
  holds_are = ap (λ cells. holds_of nodes cells cells) cells_are ∙ holds_back

  -- what is seen is what is kept
  pub seen_is : seen nodes v.spare newest live ≡ v
  seen_is = ap₂ (λ (cells : List NamedLink) (holds : Holds). let w : Cells = record { cells = cells; holds = holds; spare = v.spare } in w) cells_are holds_are

  pub seen_kept : (spare : ℕ) → spare ≡ v.spare → IsKept nodes newest live (seen nodes spare newest live)
  seen_kept spare e = subst (λ n. IsKept nodes newest live (seen nodes n newest live)) (sym e) (subst (λ w. IsKept nodes newest live w) (sym seen_is) kept)
