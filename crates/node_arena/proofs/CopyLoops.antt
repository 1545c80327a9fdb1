-- How a copy is made, cell by cell from the newest on.
use Rattle.std.proofs.Common.{map as map_list}
use Rattle.std.proofs.Common.{◌≡◌, ℕ, zero, suc, ◌++◌, take, drop, slice_set, ◌-◌, ◌<◌, ◌⊎◌, inl, inr, List, [], ◌∷◌, length, get_or, Option, Some, None, IsSome, IfSome, is_some, refl, sym, ap, ap₂, subst, ◌∙◌, arith}
use Rattle.std.proofs.lemmas.Bool.{cases_eq}
use Rattle.std.specs.FinMap as map
use Rattle.std.proofs.lemmas.Option.{same_Some}
use Rattle.node_arena.proofs.Maps.{insert_here, insert_other, empty_at}
use Rattle.node_arena.specs.declared.TheConstants.{NONE, MOST_CELLS}
use Rattle.node_arena.specs.declared.node.Node.{Node}
use Rattle.node_arena.specs.declared.numbers.Numbers.{Numbers}
use Rattle.node_arena.specs.Cells.{NamedLink, Cells, HasCell, AreLinked}
use Rattle.node_arena.specs.Nodes.{Nodes, IsKept, node_at, node_of, first_of, count_of}
use Rattle.node_arena.specs.Copying.{HaveSlots, IsPut, moved_node, AreMoved, copy_in}
use Rattle.node_arena.proofs.NodeLaws.{node_here, node_past, some_not_none}

-- from the number `at` on there are these cells, so many
pub record IsLeft (nodes : Nodes) (cells left : List NamedLink) (at number : ℕ) : Type 0 where
  pub count : ℕ → ℕ
  pub newer : ℕ
  pub first : at ≡ first_of left
  pub number_is : number ≡ length left
  pub linked : AreLinked left
  pub stored : (c : ℕ) → HasCell left c → map.get nodes c ≡ node_at count newer left c
  pub inside : (c : ℕ) → HasCell left c → HasCell cells c

all_left : (nodes : Nodes) (newest live : ℕ) (v : Cells) → IsKept nodes newest live v → IsLeft nodes v.cells v.cells newest live
all_left nodes newest live v kept = record {
  count = count_of v.holds v.cells;
  newer = NONE;
  first = kept.first;
  number_is = kept.number;
  linked = kept.linked;
  stored = λ c h. kept.stored c;
  inside = λ c h. h;
}

module _ (nodes : Nodes) (cells : List NamedLink) (l : NamedLink) (older : List NamedLink) (at number : ℕ) (left : IsLeft nodes cells (l ∷ older) at number) where
  here_is : map.get nodes at ≡ Some (node_of (left.count l.name) left.newer (first_of older) l)
  here_is = ap (map.get nodes) left.first ∙ (left.stored l.name (l, inl refl, refl) ∙ node_here left.count left.newer l older l.name refl)

  next_left : (node : Node) → map.get nodes at ≡ Some node → IsLeft nodes cells older node.older (number - 1)
  next_left node e = record {
    count = left.count;
    newer = l.name;
    first = ap (λ (x : Node). x.older) (same_Some node _ (sym e ∙ here_is));
    number_is = let n = left.number_is in omega arith;
    linked = left.linked.1;
    stored = λ c h. left.stored c (h.0, inr h.1, h.2) ∙ node_past left.count left.newer l older c (λ e. left.linked.0.fresh (subst (λ x. HasCell older x) (sym e) h));
    inside = λ c h. left.inside c (h.0, inr h.1, h.2);
  }

  here_cell : HasCell cells at
  here_cell = subst (λ k. HasCell cells k) (sym left.first) (left.inside l.name (l, inl refl, refl))

  -- the cell is not among those that are then left
  here_gone : HasCell older at → ⊥
  here_gone h = left.linked.0.fresh (subst (λ k. HasCell older k) left.first h)

  -- and each other that is left was left before
  here_or_past : (c : ℕ) → (HasCell older c → ⊥) → (c ≡ at) ⊎ ((c ≡ at → ⊥) × (HasCell (l ∷ older) c → ⊥))
  here_or_past c out = elim (cases_eq c at) as (λ _. (c ≡ at) ⊎ ((c ≡ at → ⊥) × (HasCell (l ∷ older) c → ⊥))) [
    | inl e ↦ inl e
    | inr ne ↦ inr (
      ne,
      λ h. elim h.1 as (λ _. ⊥) [
        | inl is ↦ ne (sym h.2 ∙ (sym (ap (λ (x : NamedLink). x.name) is) ∙ sym left.first))
        | inr there ↦ out (h.0, there, h.2)
      ],
    )
  ]

-- there is a cell where some are left
some_node : (nodes : Nodes) (cells left : List NamedLink) (at number : ℕ) → IsLeft nodes cells left at number → 0 < number → IsSome (map.get nodes at)
some_node nodes cells [] at number walk some = let n = walk.number_is in absurd (omega arith)
some_node nodes cells (l ∷ older) at number walk some = ap is_some (here_is nodes cells l older at number walk)

next_is : (o : Option Node) (node : Node) (next : ℕ) → o ≡ Some node → IfSome o (λ n. next ≡ n.older) → next ≡ node.older
next_is None node next e is = absurd (some_not_none node e)
next_is (Some n) node next e is = is ∙ ap (λ (x : Node). x.older) (same_Some n node e)

-- no slot is in use
slots_none : (copy : ℕ → ℕ) (copies : Nodes) (P : ℕ → Type 0) → copies ≡ map.empty → ((c : ℕ) → P c → ⊥) → HaveSlots copy copies P
slots_none copy copies P empty none = record {
  in_use = λ c p. absurd (none c p);
  small = λ c p. absurd (none c p);
  apart = λ c d p. absurd (none c p);
  only = λ k is. let e : map.get copies k ≡ None = ap (λ (m : Nodes). map.get m k) empty ∙ empty_at k in let clash = sym (ap is_some e) ∙ is in absurd (cc);
}

-- one more cell gets a slot
module _ (copy other : ℕ → ℕ) (copies : Nodes) (P Q : ℕ → Type 0) (a p : ℕ) (put : Node) (slots : HaveSlots copy copies P) (fresh : map.get copies p ≡ None) (small : p < MOST_CELLS)
    (here : other a ≡ p) (same : (c : ℕ) → (c ≡ a → ⊥) → other c ≡ copy c) (split : (c : ℕ) → Q c → (c ≡ a) ⊎ ((c ≡ a → ⊥) × P c)) (now : Q a) (still : (c : ℕ) → P c → Q c)
    (new : (c : ℕ) → P c → c ≡ a → ⊥) where
  not_fresh : (k : ℕ) → IsSome (map.get copies k) → k ≡ p → ⊥
  not_fresh k is e = let none : map.get copies k ≡ None = ap (map.get copies) e ∙ fresh in let clash = sym (ap is_some none) ∙ is in absurd (cc)

  more_in_use : (c : ℕ) → Q c → IsSome (map.get (map.insert copies p put) (other c))
  more_in_use c q = elim (split c q) as (λ _. IsSome (map.get (map.insert copies p put) (other c))) [
    | inl e ↦ ap is_some (ap (map.get (map.insert copies p put)) (ap other e ∙ here) ∙ insert_here copies p put)
    | inr r ↦
        let used = slots.in_use c r.1 in
        ap is_some (ap (map.get (map.insert copies p put)) (same c r.0) ∙ insert_other copies p put (copy c) (not_fresh (copy c) used)) ∙ used
  ]

  slots_more : HaveSlots other (map.insert copies p put) Q
  slots_more = record {
    in_use = more_in_use;
    small = λ c q. elim (split c q) as (λ _. other c < MOST_CELLS) [
      | inl e ↦ let is = ap other e ∙ here in omega arith
      | inr r ↦ let is = same c r.0 in let s = slots.small c r.1 in omega arith
    ];
    apart = λ c d qc qd e. elim (split c qc) as (λ _. c ≡ d) [
      | inl ec ↦ elim (split d qd) as (λ _. c ≡ d) [
        | inl ed ↦ ec ∙ sym ed
        | inr rd ↦ absurd (not_fresh (copy d) (slots.in_use d rd.1) (sym (same d rd.0) ∙ (sym e ∙ (ap other ec ∙ here))))
      ]
      | inr rc ↦ elim (split d qd) as (λ _. c ≡ d) [
        | inl ed ↦ absurd (not_fresh (copy c) (slots.in_use c rc.1) (sym (same c rc.0) ∙ (e ∙ (ap other ed ∙ here))))
        | inr rd ↦ slots.apart c d rc.1 rd.1 (sym (same c rc.0) ∙ (e ∙ same d rd.0))
      ]
    ];
    only = λ k is. elim (cases_eq k p) as (λ _. (c : ℕ) × Q c × (other c ≡ k)) [
      | inl e ↦ (a, now, here ∙ sym e)
      | inr ne ↦
          let r = slots.only k (sym (ap is_some (insert_other copies p put k ne)) ∙ is) in
          (r.0, still r.0 r.1, same r.0 (new r.0 r.1) ∙ r.2)
    ];
  }

-- a node is stored in a slot in use
slots_set : (copy : ℕ → ℕ) (copies : Nodes) (P : ℕ → Type 0) (a k : ℕ) (put : Node) → HaveSlots copy copies P → P a → k ≡ copy a → HaveSlots copy (map.insert copies k put) P
slots_set copy copies P a k put slots mine e = record {
  in_use = λ c p. elim (cases_eq (copy c) k) as (λ _. IsSome (map.get (map.insert copies k put) (copy c))) [
    | inl is ↦ ap is_some (ap (map.get (map.insert copies k put)) is ∙ insert_here copies k put)
    | inr ne ↦ ap is_some (insert_other copies k put (copy c) ne) ∙ slots.in_use c p
  ];
  small = slots.small;
  apart = slots.apart;
  only = λ q is. elim (cases_eq q k) as (λ _. (c : ℕ) × P c × (copy c ≡ q)) [
    | inl f ↦ (a, mine, sym e ∙ sym f)
    | inr ne ↦ slots.only q (sym (ap is_some (insert_other copies k put q ne)) ∙ is)
  ];
}

-- the cells but those that are left have slots
pub record Placing (nodes copies : Nodes) (copy : ℕ → ℕ) (cells : List NamedLink) (at number : ℕ) : Type 0 where
  pub left : List NamedLink
  pub walk : IsLeft nodes cells left at number
  pub placed : HaveSlots copy copies (λ c. HasCell cells c × (HasCell left c → ⊥))

pub placing_begins : (nodes copies : Nodes) (copy : ℕ → ℕ) (newest live number : ℕ) (v : Cells) → IsKept nodes newest live v → copies ≡ map.empty → number ≡ live →
    Placing nodes copies copy v.cells newest number
placing_begins nodes copies copy newest live number v kept empty e = record {
  left = v.cells;
  walk = subst (λ n. IsLeft nodes v.cells v.cells newest n) (sym e) (all_left nodes newest live v kept);
  placed = slots_none copy copies (λ c. HasCell v.cells c × (HasCell v.cells c → ⊥)) empty (λ c p. p.1 p.0);
}

pub placing_node : (nodes copies : Nodes) (copy : ℕ → ℕ) (cells : List NamedLink) (at number : ℕ) → Placing nodes copies copy cells at number → 0 < number → IsSome (map.get nodes at)
placing_node nodes copies copy cells at number placing some = some_node nodes cells placing.left at number placing.walk some

cell_left : (nodes : Nodes) (cells left : List NamedLink) (at number : ℕ) → IsLeft nodes cells left at number → 0 < number → HasCell cells at
cell_left nodes cells [] at number walk some = let n = walk.number_is in absurd (omega arith)
cell_left nodes cells (l ∷ older) at number walk some = here_cell nodes cells l older at number walk

-- the next to get a slot is a cell
pub placing_cell : (nodes copies : Nodes) (copy : ℕ → ℕ) (cells : List NamedLink) (at number : ℕ) → Placing nodes copies copy cells at number → 0 < number → HasCell cells at
placing_cell nodes copies copy cells at number placing some = cell_left nodes cells placing.left at number placing.walk some

place_by : (nodes copies : Nodes) (copy other : ℕ → ℕ) (cells left : List NamedLink) (at number p : ℕ) (node put : Node) → IsLeft nodes cells left at number →
    HaveSlots copy copies (λ c. HasCell cells c × (HasCell left c → ⊥)) → 0 < number → map.get nodes at ≡ Some node → map.get copies p ≡ None → p < MOST_CELLS → other at ≡ p →
    ((c : ℕ) → (c ≡ at → ⊥) → other c ≡ copy c) → Placing nodes (map.insert copies p put) other cells node.older (number - 1)
place_by nodes copies copy other cells [] at number p node put walk slots some e fresh small here same = let n = walk.number_is in absurd (omega arith)
place_by nodes copies copy other cells (l ∷ older) at number p node put walk slots some e fresh small here same = record {
  left = older;
  walk = next_left nodes cells l older at number walk node e;
  placed = slots_more copy other copies (λ c. HasCell cells c × (HasCell (l ∷ older) c → ⊥)) (λ c. HasCell cells c × (HasCell older c → ⊥)) at p put slots fresh small here same
      (λ c q. elim (here_or_past nodes cells l older at number walk c q.1) as (λ _. (c ≡ at) ⊎ ((c ≡ at → ⊥) × (HasCell cells c × (HasCell (l ∷ older) c → ⊥)))) [
        | inl is ↦ inl is
        | inr r ↦ inr (r.0, (q.0, r.1))
      ])
      (here_cell nodes cells l older at number walk, here_gone nodes cells l older at number walk)
      (λ c q. (q.0, λ h. q.1 (h.0, inr h.1, h.2)))
      (λ c q is. q.1 (l, inl refl, sym walk.first ∙ sym is));
}

pub placing_next : (nodes copies new : Nodes) (numbers after : Numbers) (cells : List NamedLink) (at number p k : ℕ) (node put : Node) →
    Placing nodes copies (copy_in numbers) cells at number → 0 < number →
    map.get nodes at ≡ Some node → map.get copies p ≡ None → p < MOST_CELLS → new ≡ map.insert copies p put → k ≡ p → IsPut numbers after at k →
    (next : ℕ) → IfSome (map.get nodes at) (λ n. next ≡ n.older) → (rest : ℕ) → rest ≡ number - 1 → Placing nodes new (copy_in after) cells next rest
placing_next nodes copies new numbers after cells at number p k node put placing some e fresh small is ek noted next told rest er =
    let done = place_by nodes copies (copy_in numbers) (copy_in after) cells placing.left at number p node put placing.walk placing.placed some e fresh small (noted.here ∙ ek) noted.others in
    subst (λ m. Placing nodes new (copy_in after) cells next m) (sym er) (subst (λ n. Placing nodes n (copy_in after) cells next (number - 1)) (sym is)
    (subst (λ k. Placing nodes (map.insert copies p put) (copy_in after) cells k (number - 1)) (sym (next_is (map.get nodes at) node next e told)) done))

nothing_left : (left : List NamedLink) (c : ℕ) → length left ≡ 0 → HasCell left c → ⊥
nothing_left [] c none h = h.1
nothing_left (l ∷ left) c none h = absurd (omega arith)

-- the number of no cell is not put
pub none_put : (numbers after : Numbers) (cells : List NamedLink) (at k : ℕ) → ((c : ℕ) → HasCell cells c → c < MOST_CELLS) → HasCell cells at →
    IsPut numbers after at k → copy_in numbers NONE ≡ NONE →
    copy_in after NONE ≡ NONE
none_put numbers after cells at k small h noted none = noted.others NONE (λ e. let s = small at h in absurd (omega arith)) ∙ none

-- the copies of the cells but those that are left have their nodes
pub record Moving (nodes copies : Nodes) (copy : ℕ → ℕ) (cells : List NamedLink) (at number : ℕ) : Type 0 where
  pub left : List NamedLink
  pub walk : IsLeft nodes cells left at number
  pub slots : HaveSlots copy copies (HasCell cells)
  pub moved : AreMoved copy nodes copies (λ c. HasCell cells c × (HasCell left c → ⊥))

pub moving_begins : (nodes copies : Nodes) (copy : ℕ → ℕ) (newest live number : ℕ) (v : Cells) → IsKept nodes newest live v → HaveSlots copy copies (HasCell v.cells) → number ≡ live →
    Moving nodes copies copy v.cells newest number
moving_begins nodes copies copy newest live number v kept slots e = record {
  left = v.cells;
  walk = subst (λ n. IsLeft nodes v.cells v.cells newest n) (sym e) (all_left nodes newest live v kept);
  slots = slots;
  moved = λ c n p e. absurd (p.1 p.0);
}

pub moving_node : (nodes copies : Nodes) (copy : ℕ → ℕ) (cells : List NamedLink) (at number : ℕ) → Moving nodes copies copy cells at number → 0 < number → IsSome (map.get nodes at)
moving_node nodes copies copy cells at number moving some = some_node nodes cells moving.left at number moving.walk some

slot_by : (nodes copies : Nodes) (copy : ℕ → ℕ) (cells left : List NamedLink) (at number : ℕ) → IsLeft nodes cells left at number → HaveSlots copy copies (HasCell cells) → 0 < number →
    IsSome (map.get copies (copy at))
slot_by nodes copies copy cells [] at number walk slots some = let n = walk.number_is in absurd (omega arith)
slot_by nodes copies copy cells (l ∷ older) at number walk slots some = slots.in_use at (here_cell nodes cells l older at number walk)

pub moving_slot : (nodes copies : Nodes) (copy : ℕ → ℕ) (cells : List NamedLink) (at number k : ℕ) → Moving nodes copies copy cells at number → 0 < number → k ≡ copy at → IsSome (map.get copies k)
moving_slot nodes copies copy cells at number k moving some e =
    ap is_some (ap (map.get copies) e) ∙ slot_by nodes copies copy cells moving.left at number moving.walk moving.slots some

move_by : (nodes copies : Nodes) (copy : ℕ → ℕ) (cells left : List NamedLink) (at number : ℕ) (node : Node) → IsLeft nodes cells left at number → HaveSlots copy copies (HasCell cells) →
    AreMoved copy nodes copies (λ c. HasCell cells c × (HasCell left c → ⊥)) → 0 < number → map.get nodes at ≡ Some node →
    Moving nodes (map.insert copies (copy at) (moved_node copy node)) copy cells node.older (number - 1)
move_by nodes copies copy cells [] at number node walk slots moved some e = let n = walk.number_is in absurd (omega arith)
move_by nodes copies copy cells (l ∷ older) at number node walk slots moved some e =
    let mine = here_cell nodes cells l older at number walk in
    record {
      left = older;
      walk = next_left nodes cells l older at number walk node e;
      slots = slots_set copy copies (HasCell cells) at (copy at) (moved_node copy node) slots mine refl;
      moved = λ c n p f. elim (here_or_past nodes cells l older at number walk c p.1) as (λ _. map.get (map.insert copies (copy at) (moved_node copy node)) (copy c) ≡ Some (moved_node copy n)) [
        | inl is ↦
            let same : node ≡ n = same_Some node n (sym e ∙ (ap (map.get nodes) (sym is) ∙ f)) in
            ap (map.get (map.insert copies (copy at) (moved_node copy node))) (ap copy is)
            ∙ (insert_here copies (copy at) (moved_node copy node) ∙ ap (λ (x : Node). Some (moved_node copy x)) same)
        | inr r ↦ insert_other copies (copy at) (moved_node copy node) (copy c) (λ g. r.0 (slots.apart c at p.0 mine g)) ∙ moved c n (p.0, r.1) f
      ];
    }

pub moving_next : (nodes copies new : Nodes) (copy : ℕ → ℕ) (cells : List NamedLink) (at number k : ℕ) (node put : Node) → Moving nodes copies copy cells at number → 0 < number →
    map.get nodes at ≡ Some node → k ≡ copy at → put ≡ moved_node copy node → new ≡ map.insert copies k put →
    (next : ℕ) → IfSome (map.get nodes at) (λ n. next ≡ n.older) → (rest : ℕ) → rest ≡ number - 1 → Moving nodes new copy cells next rest
moving_next nodes copies new copy cells at number k node put moving some e ek ep is next told rest er =
    let done = move_by nodes copies copy cells moving.left at number node moving.walk moving.slots moving.moved some e in
    subst (λ m. Moving nodes new copy cells next m) (sym er) (subst (λ n. Moving nodes n copy cells next (number - 1)) (sym (is ∙ ap₂ (λ (x : ℕ) (n : Node). map.insert copies x n) ek ep))
    (subst (λ x. Moving nodes (map.insert copies (copy at) (moved_node copy node)) copy cells x (number - 1)) (sym (next_is (map.get nodes at) node next e told)) done))

pub moving_ends : (nodes copies : Nodes) (copy : ℕ → ℕ) (cells : List NamedLink) (at number : ℕ) → Moving nodes copies copy cells at number → number ≡ 0 → AreMoved copy nodes copies (HasCell cells)
moving_ends nodes copies copy cells at number moving none c n h e = moving.moved c n (h, nothing_left moving.left c (sym moving.walk.number_is ∙ none)) e

-- one more is replaced
module _ {X : Type 0} (f : X → X) where
  pub replaced_next : (xs ys : List X) (i j : ℕ) (v d : X) → i < length xs → j ≡ suc i → ys ≡ map_list f (take i xs) ++ drop i xs → v ≡ f (get_or ys i d) →
      slice_set ys i v ≡ map_list f (take j xs) ++ drop j xs
  replaced_next [] ys i j v d l n e at = absurd (omega (arith, l))
  replaced_next (x ∷ xs) ys zero j v d l n e at =
      ap (λ zs. slice_set zs 0 v) e ∙ (ap (λ w. w ∷ xs) (at ∙ ap f (ap (λ zs. get_or zs 0 d) e)) ∙ ap (λ k. map_list f (take k (x ∷ xs)) ++ drop k (x ∷ xs)) (sym n))
  replaced_next (x ∷ xs) ys (suc i) j v d l n e at =
      ap (λ zs. slice_set zs (suc i) v) e
      ∙ (ap (λ zs. f x ∷ zs) (replaced_next xs (map_list f (take i xs) ++ drop i xs) i (suc i) v d (omega (arith, l)) refl refl (at ∙ ap f (ap (λ zs. get_or zs (suc i) d) e)))
      ∙ ap (λ k. map_list f (take k (x ∷ xs)) ++ drop k (x ∷ xs)) (sym n))
