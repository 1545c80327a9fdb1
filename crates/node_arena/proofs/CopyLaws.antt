-- Cells under other names.
use Rattle.std.proofs.Common.{◌≡◌, ℕ, ◌-◌, ◌<◌, ◌≤◌, ◌⊎◌, inl, inr, List, [], ◌∷◌, ◌++◌, map, take, drop, length, Option, Some, None, IsSome, refl, sym, ap, ap₂, subst, ◌∙◌, arith}
use Rattle.std.proofs.Math.Seq.{take-append_seam}
use Rattle.std.proofs.lemmas.Bool.{cases_eq}
use Rattle.std.proofs.lemmas.List.{length-map}
use Rattle.std.specs.FinMap as fin_map
use Rattle.std.proofs.lemmas.Option.{same_Some}
use Rattle.span_core.specs.Lists.{Has}
use Rattle.span_core.proofs.HasLaws.{Has-map, Has-map_cases}
use Rattle.node_arena.specs.declared.TheConstants.{NONE, MOST_CELLS, MOST_HOLDS}
use Rattle.node_arena.specs.declared.node.Node.{Node}
use Rattle.node_arena.specs.declared.numbers.Numbers.{Numbers}
use Rattle.node_arena.specs.Cells.{NamedLink, Cells, Holds, HasCell, Names, IsNamed, AreLinked, hold, or_zero}
use Rattle.node_arena.specs.Nodes.{Nodes, AreNodes, IsKept, node_at, node_of, first_of, number_of, count_of, names_once, named_times, some_positive, count_in, holds_of, seen}
use Rattle.node_arena.specs.Copies.{renamed, renamed_one, IsOneToOne, IsCopy}
use Rattle.node_arena.specs.Copying.{copy_in, HaveSlots, moved_node, AreMoved}
use Rattle.node_arena.proofs.Branches.{if_same, if_apart}
use Rattle.node_arena.proofs.Holds.{or_zero_positive}
use Rattle.node_arena.proofs.NodeLaws.{node_here, node_past, node_none, node_there, cell_there, count_kept, some_not_none}
use Rattle.node_arena.proofs.Counts.{cell_or_not, named_there}
use Rattle.node_arena.proofs.Chains.{held_part, held_else, seen_is, seen_kept}

module _ (copy : ℕ → ℕ) where
  -- a cell has a copy
  pub copy_there : (cells : List NamedLink) (c : ℕ) → HasCell cells c → HasCell (map (renamed copy) cells) (copy c)
  copy_there cells c h = (renamed copy h.0, Has-map (renamed copy) cells h.0 h.1, ap copy h.2)

  -- and what is there is a copy
  pub copy_of : (cells : List NamedLink) (q : ℕ) → HasCell (map (renamed copy) cells) q → (c : ℕ) × HasCell cells c × (copy c ≡ q)
  copy_of cells q h =
      let r = Has-map_cases (renamed copy) cells h.0 h.1 in
      (r.0.name, (r.0, r.1, refl), ap (λ (x : NamedLink). x.name) r.2 ∙ h.2)

  pub some_renamed : (o : Option ℕ) (c : ℕ) → renamed_one copy o ≡ Some c → (d : ℕ) × (o ≡ Some d) × (copy d ≡ c)
  some_renamed None c e = absurd (some_not_none c e)
  some_renamed (Some d) c e = (d, refl, same_Some (copy d) c e)

  one_older : (l : NamedLink) (older : List NamedLink) → IsOneToOne copy (l ∷ older) → IsOneToOne copy older
  one_older l older one c d hc hd e = one c d (hc.0, inr hc.1, hc.2) (hd.0, inr hd.1, hd.2) e

  -- copies are linked as the cells are
  pub linked_renamed : (cells : List NamedLink) → IsOneToOne copy cells → AreLinked cells → AreLinked (map (renamed copy) cells)
  linked_renamed [] one linked = tt
  linked_renamed (l ∷ older) one linked = (
    record {
      fresh = λ h.
          let r = copy_of older (copy l.name) h in
          let same : r.0 ≡ l.name = one r.0 l.name (r.1.0, inr r.1.1, r.1.2) (l, inl refl, refl) r.2 in
          linked.0.fresh (subst (λ n. HasCell older n) same r.1);
      from_there = λ c e.
          let r = some_renamed l.from c e in
          subst (λ n. HasCell (map (renamed copy) older) n) r.2 (copy_there older r.0 (linked.0.from_there r.0 r.1));
      also_there = λ c e.
          let r = some_renamed l.also c e in
          subst (λ n. HasCell (map (renamed copy) older) n) r.2 (copy_there older r.0 (linked.0.also_there r.0 r.1));
      apart = λ c e f.
          let r = some_renamed l.from c e in
          let s = some_renamed l.also c f in
          let hr = linked.0.from_there r.0 r.1 in
          let hs = linked.0.also_there s.0 s.1 in
          let same : r.0 ≡ s.0 = one r.0 s.0 (hr.0, inr hr.1, hr.2) (hs.0, inr hs.1, hs.2) (r.2 ∙ sym s.2) in
          linked.0.apart r.0 r.1 (s.1 ∙ ap Some (sym same));
    },
    linked_renamed older (one_older l older one) linked.1,
  )

  once_renamed : (o : Option ℕ) (c : ℕ) → ((d : ℕ) → o ≡ Some d → copy d ≡ copy c → d ≡ c) → names_once (renamed_one copy o) (copy c) ≡ names_once o c
  once_renamed None c one = refl
  once_renamed (Some d) c one = elim (cases_eq d c) as (λ _. names_once (renamed_one copy (Some d)) (copy c) ≡ names_once (Some d) c) [
    | inl e ↦ if_same (copy d) (copy c) 1 0 (ap copy e) ∙ sym (if_same d c 1 0 e)
    | inr ne ↦ if_apart (copy d) (copy c) 1 0 (λ e. ne (one d refl e)) ∙ sym (if_apart d c 1 0 ne)
  ]

  -- a copy is named as often as the cell is
  pub named_renamed : (cells : List NamedLink) (c : ℕ) → ((m : NamedLink) (d : ℕ) → Has cells m → Names m d → copy d ≡ copy c → d ≡ c) →
      named_times (map (renamed copy) cells) (copy c) ≡ named_times cells c
  named_renamed [] c one = refl
  named_renamed (l ∷ older) c one =
      let a = once_renamed l.from c (λ d e. one l d (inl refl) (inl e)) in
      let b = once_renamed l.also c (λ d e. one l d (inl refl) (inr e)) in
      let r = named_renamed older c (λ m d h. one m d (inr h)) in
      omega arith

  module _ (none : copy NONE ≡ NONE) where
    number_renamed : (o : Option ℕ) → number_of (renamed_one copy o) ≡ copy (number_of o)
    number_renamed None = sym none
    number_renamed (Some c) = refl

    pub first_renamed : (cells : List NamedLink) → first_of (map (renamed copy) cells) ≡ copy (first_of cells)
    first_renamed [] = sym none
    first_renamed (l ∷ older) = refl

    node_renamed : (count newer : ℕ) (l : NamedLink) (older : List NamedLink) →
        node_of count (copy newer) (first_of (map (renamed copy) older)) (renamed copy l) ≡ moved_node copy (node_of count newer (first_of older) l)
    node_renamed count newer l older =
        let make : ℕ → ℕ → ℕ → Node = λ f a o. record { at = l.at; marks = l.marks; from = f; also = a; count = count; older = o; newer = copy newer } in
        ap₂ (λ (f a : ℕ). make f a (first_of (map (renamed copy) older))) (number_renamed l.from) (number_renamed l.also)
        ∙ ap (λ (o : ℕ). make (copy (number_of l.from)) (copy (number_of l.also)) o) (first_renamed older)

    -- the node of a copy is the node of the cell, with the numbers of the copies
    pub node_moved : (count other : ℕ → ℕ) (newer : ℕ) (cells : List NamedLink) (c : ℕ) (n : Node) → IsOneToOne copy cells → node_at count newer cells c ≡ Some n → other (copy c) ≡ count c →
        node_at other (copy newer) (map (renamed copy) cells) (copy c) ≡ Some (moved_node copy n)
    node_moved count other newer [] c n one e same = absurd (some_not_none n e)
    node_moved count other newer (l ∷ older) c n one e same =
        elim (cases_eq l.name c) as (λ _. node_at other (copy newer) (map (renamed copy) (l ∷ older)) (copy c) ≡ Some (moved_node copy n)) [
          | inl is ↦
              let mine : n ≡ node_of (count c) newer (first_of older) l = same_Some n _ (sym e ∙ node_here count newer l older c is) in
              node_here other (copy newer) (renamed copy l) (map (renamed copy) older) (copy c) (ap copy is)
              ∙ (ap (λ k. Some (node_of k (copy newer) (first_of (map (renamed copy) older)) (renamed copy l))) same
              ∙ (ap Some (node_renamed (count c) newer l older) ∙ ap (λ (x : Node). Some (moved_node copy x)) (sym mine)))
          | inr ne ↦
              let past = sym (node_past count newer l older c ne) ∙ e in
              let h = cell_there count l.name older c n past in
              node_past other (copy newer) (renamed copy l) (map (renamed copy) older) (copy c) (λ f. ne (one l.name c (l, inl refl, refl) (h.0, inr h.1, h.2) f))
              ∙ node_moved count other l.name older c n (one_older l older one) past same
        ]

none_in : (o : Option Node) → (IsSome o → ⊥) → o ≡ None
none_in None no_one = refl
none_in (Some n) no_one = absurd (no_one refl)

-- a copy of what is kept
module _ (nodes : Nodes) (newest live : ℕ) (v : Cells) (kept : IsKept nodes newest live v) (copies : Nodes) (copy : ℕ → ℕ) (none : copy NONE ≡ NONE)
    (slots : HaveSlots copy copies (HasCell v.cells)) (moved : AreMoved copy nodes copies (HasCell v.cells)) (spare : ℕ) where
  abbrev cells : List NamedLink
  cells = map (renamed copy) v.cells

  abbrev holds : Holds
  holds = holds_of copies cells cells

  abbrev pub copied_cells : Cells
  copied_cells = record { cells = cells; holds = holds; spare = spare }

  node_here_of : (c : ℕ) → HasCell v.cells c → (n : Node) × (node_at (count_of v.holds v.cells) NONE v.cells c ≡ Some n) × (fin_map.get copies (copy c) ≡ Some (moved_node copy n))
  node_here_of c h =
      let r = node_there (count_of v.holds v.cells) NONE v.cells c h in
      (r.0, r.1, moved c r.0 h (kept.stored c ∙ r.1))

  named_same : (c : ℕ) → HasCell v.cells c → named_times cells (copy c) ≡ named_times v.cells c
  named_same c h = named_renamed copy v.cells c (λ m d hm n e. slots.apart d c (named_there v.cells kept.linked m d hm n) h e)

  got : (c : ℕ) → HasCell v.cells c → fin_map.get holds (copy c) ≡ some_positive (hold v.holds c)
  got c h =
      let r = node_here_of c h in
      let counted : r.0.count ≡ count_of v.holds v.cells c = count_kept (count_of v.holds v.cells) NONE v.cells c r.0 r.1 in
      let stored : count_in (fin_map.get copies (copy c)) ≡ r.0.count = ap count_in r.2 in
      let times = named_same c h in
      let left : count_in (fin_map.get copies (copy c)) - named_times cells (copy c) ≡ hold v.holds c = omega arith in
      held_part copies cells cells (copy c) (copy_there copy v.cells c h) ∙ ap some_positive left

  hold_same : (c : ℕ) → HasCell v.cells c → hold holds (copy c) ≡ hold v.holds c
  hold_same c h = ap or_zero (got c h) ∙ or_zero_positive (hold v.holds c)

  hold_else : (q : ℕ) → (HasCell cells q → ⊥) → hold holds q ≡ 0
  hold_else q out = ap or_zero (held_else copies cells cells q out)

  copies_stored : AreNodes copies (count_of holds cells) NONE cells
  copies_stored q = elim (cell_or_not cells q) as (λ _. fin_map.get copies q ≡ node_at (count_of holds cells) NONE cells q) [
    | inl h ↦
        let o = copy_of copy v.cells q h in
        let r = node_here_of o.0 o.1 in
        let a = hold_same o.0 o.1 in
        let b = named_same o.0 o.1 in
        let same : count_of holds cells (copy o.0) ≡ count_of v.holds v.cells o.0 = omega arith in
        let there = node_moved copy none (count_of v.holds v.cells) (count_of holds cells) NONE v.cells o.0 r.0 slots.apart r.1 same in
        let there' : node_at (count_of holds cells) NONE cells (copy o.0) ≡ Some (moved_node copy r.0) =
        subst (λ k. node_at (count_of holds cells) k cells (copy o.0) ≡ Some (moved_node copy r.0)) none there in
        subst (λ k. fin_map.get copies k ≡ node_at (count_of holds cells) NONE cells k) o.2 (r.2 ∙ sym there')
    | inr out ↦
        none_in (fin_map.get copies q) (λ is. let r = slots.only q is in out (subst (λ k. HasCell cells k) r.2 (copy_there copy v.cells r.0 r.1)))
        ∙ sym (node_none (count_of holds cells) NONE cells q out)
  ]

  named_copy : (c : ℕ) → IsNamed v.cells c → IsNamed cells (copy c)
  named_copy c n = (
    renamed copy n.0,
    Has-map (renamed copy) v.cells n.0 n.1,
    elim n.2 as (λ _. Names (renamed copy n.0) (copy c)) [
      | inl e ↦ inl (ap (renamed_one copy) e)
      | inr e ↦ inr (ap (renamed_one copy) e)
    ],
  )

  pub copies_kept : IsKept copies (copy newest) live copied_cells
  copies_kept = record {
    stored = copies_stored;
    first = ap copy kept.first ∙ sym (first_renamed copy none v.cells);
    number = kept.number ∙ sym (length-map v.cells (renamed copy));
    linked = linked_renamed copy v.cells slots.apart kept.linked;
    small = λ q h. let o = copy_of copy v.cells q h in subst (λ k. k < MOST_CELLS) o.2 (slots.small o.0 o.1);
    held_there = λ q some. elim (cell_or_not cells q) as (λ _. HasCell cells q) [
      | inl h ↦ h
      | inr out ↦ let z = hold_else q out in absurd (omega arith)
    ];
    proper = λ q. elim (cell_or_not cells q) as (λ _. fin_map.get holds q ≡ some_positive (hold holds q)) [
      | inl h ↦
          let o = copy_of copy v.cells q h in
          subst (λ k. fin_map.get holds k ≡ some_positive (hold holds k)) o.2 (got o.0 o.1 ∙ ap some_positive (sym (hold_same o.0 o.1)))
      | inr out ↦ held_else copies cells cells q out ∙ sym (if_same (hold holds q) 0 None (Some (hold holds q)) (hold_else q out))
    ];
    few = λ q. elim (cell_or_not cells q) as (λ _. hold holds q ≤ MOST_HOLDS) [
      | inl h ↦
          let o = copy_of copy v.cells q h in
          subst (λ k. hold holds k ≤ MOST_HOLDS) o.2 (let s = hold_same o.0 o.1 in let f = kept.few o.0 in omega arith)
      | inr out ↦ let z = hold_else q out in omega arith
    ];
    kept = λ q h.
        let o = copy_of copy v.cells q h in
        subst (λ k. (0 < hold holds k) ⊎ IsNamed cells k) o.2 (elim (kept.kept o.0 o.1) as (λ _. (0 < hold holds (copy o.0)) ⊎ IsNamed cells (copy o.0)) [
          | inl some ↦ let s = hold_same o.0 o.1 in inl (omega arith)
          | inr named ↦ inr (named_copy o.0 named)
        ]);
  }

  pub is_copy : (before after : List ℕ) → after ≡ map copy before → IsCopy copy v copied_cells before after
  is_copy before after e = record {
    one_to_one = slots.apart;
    cells = refl;
    holds = hold_same;
    names = e;
  }

-- what a call of copy has done
pub record IsDone (nodes copies : Nodes) (top live spare : ℕ) (v : Cells) (numbers : Numbers) : Type 0 where
  pub kept : IsKept copies top live (seen copies spare top live)
  pub copied : (before after : List ℕ) → after ≡ map (copy_in numbers) before → IsCopy (copy_in numbers) v (seen copies spare top live) before after

pub copy_done : (nodes copies : Nodes) (newest live top spare : ℕ) (v : Cells) (numbers : Numbers) → IsKept nodes newest live v → copy_in numbers NONE ≡ NONE →
    HaveSlots (copy_in numbers) copies (HasCell v.cells) → AreMoved (copy_in numbers) nodes copies (HasCell v.cells) → top ≡ copy_in numbers newest →
    IsDone nodes copies top live spare v numbers
copy_done nodes copies newest live top spare v numbers kept none slots moved et =
    let w : Cells = copied_cells nodes newest live v kept copies (copy_in numbers) none slots moved spare in
    let done : IsKept copies (copy_in numbers newest) live w = copies_kept nodes newest live v kept copies (copy_in numbers) none slots moved spare in
    let done_at : IsKept copies top live w = subst (λ k. IsKept copies k live w) (sym et) done in
    record {
      kept = seen_kept copies top live w done_at spare refl;
      copied = λ before after e.
          subst (λ u. IsCopy (copy_in numbers) v u before after) (sym (seen_is copies top live w done_at))
          (is_copy nodes newest live v kept copies (copy_in numbers) none slots moved spare before after e);
    }

-- a list that is written whole
pub written : (xs ys : List ℕ) (n : ℕ) → n ≡ length xs → length ys ≡ length xs → take n (ys ++ drop (length ys) xs) ≡ ys
written xs ys n en el =
    let e : n ≡ length ys = omega arith in
    ap (λ k. take k (ys ++ drop (length ys) xs)) e ∙ take-append_seam ys (drop (length ys) xs)
