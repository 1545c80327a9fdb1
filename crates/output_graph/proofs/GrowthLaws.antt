-- The cells stay well grown in a step.
use Rattle.std.proofs.Common.{◌≡◌, ◌⊎◌, ℕ, ◌<◌, ◌≤◌, List, [], ◌∷◌, Option, Some, None, inl, inr, refl, sym, ap, ◌∙◌, subst, arith}
use Rattle.std.proofs.lemmas.Bool.{cases_eq}
use Rattle.std.proofs.lemmas.Option.{same_Some}
use Rattle.span_core.specs.Lists.{Has}
use Rattle.node_arena.specs.Cells.{NamedLink, HasCell, new_link}
use Rattle.output_graph.specs.Grown.{past, past_at, IsOpen, Closes, Continues, AreGrown}
use Rattle.output_graph.specs.Forward.{Layer, cell_of, set_cell, Growing, ComesNext, LeavesOut}
use Rattle.output_graph.proofs.WordLemmas.{past_at_other, past_at_le, past_has, other_name}
use Rattle.output_graph.proofs.ForwardLaws.{cell_of_set, cell_of_other}

-- a cell that is closed is there
pub closed_there : (cells : List NamedLink) (d : NamedLink) (c : ℕ) → AreGrown cells → Has cells d → Closes d c → HasCell cells c
closed_there [] d c grown h closes = absurd h
closed_there (l ∷ older) d c grown (inl e) closes =
    let closes' : Closes l c = subst (λ (x : NamedLink). Closes x c) (sym e) closes in
    elim closes' as (λ _. HasCell (l ∷ older) c) [
      | inl a ↦ let r = grown.0.from_there c a.1 in (r.0, inr r.1, r.2)
      | inr a ↦ let r = grown.0.also_there c a in (r.0, inr r.1, r.2)
    ]
closed_there (l ∷ older) d c grown (inr h) closes = let r = closed_there older d c grown.1 h closes in (r.0, inr r.1, r.2)

-- what is open stays so where the new cell does not close it
pub open_more : (cells : List NamedLink) (l : NamedLink) (c : ℕ) → IsOpen cells c → (Closes l c → ⊥) → IsOpen (l ∷ cells) c
open_more cells l c o n d (inl e) closes = n (subst (λ (x : NamedLink). Closes x c) (sym e) closes)
open_more cells l c o n d (inr h) closes = o d h closes

-- a new cell is open
pub new_open : (cells : List NamedLink) (l : NamedLink) → AreGrown cells → Continues cells l → IsOpen (l ∷ cells) l.name
new_open cells l grown can = open_more cells l l.name
    (λ d h closes. can.fresh (closed_there cells d l.name grown h closes))
    (λ closes. elim closes as (λ _. ⊥) [
      | inl a ↦ can.fresh (can.from_there l.name a.1)
      | inr a ↦ can.fresh (can.also_there l.name a)
    ])

module _ (left after : List ℕ) (at : ℕ) (cells : List NamedLink) (next : Layer) (g : Growing left at cells next)
    (name c marks to : ℕ) (is_left : Has left c) (fresh : HasCell cells name → ⊥) (comes : ComesNext cells c at marks) (leaves : LeavesOut marks c after left) where
  abbrev link : NamedLink
  link = new_link name at marks c (cell_of next to)

  abbrev next_after : Layer
  next_after = set_cell next to name

  from_is : (b : ℕ) → link.from ≡ Some b → c ≡ b
  from_is b e = same_Some c b e

  link_continues : Continues cells link
  link_continues = record {
    fresh = fresh;
    first_is_root = λ (none : link.from ≡ None). cc;
    unmarked = λ (none : link.from ≡ None). cc;
    from_there = λ b is. subst (λ n. HasCell cells n) (from_is b is) (g.left_there c is_left);
    also_there = λ b is. g.next_there to b is;
    apart = λ b is also. g.next_apart to b also (subst (λ n. Has left n) (from_is b is) is_left);
    from_open = λ b is. subst (λ n. IsOpen cells n) (from_is b is) (g.left_open c is_left);
    also_open = λ b is. g.next_open to b is;
    later = λ b is some. subst (λ n. past_at cells n ≤ at) (from_is b is) (g.left_later c is_left);
    descends = λ b d is some h from md. comes some d h (from ∙ sym is) md;
  }

  not_name : (b : ℕ) → HasCell cells b → name ≡ b → ⊥
  not_name b there e = other_name cells link b fresh there e

  closes_left : (b : ℕ) → Has after b → Closes link b → ⊥
  closes_left b h (inl a) = leaves.1 a.0 (subst (λ n. Has after n) (sym (from_is b a.1)) h)
  closes_left b h (inr a) = g.next_apart to b a (leaves.0 b h)

  after_cases : (s b : ℕ) → cell_of next_after s ≡ Some b → ((to ≡ s) × (name ≡ b)) ⊎ ((to ≡ s → ⊥) × (cell_of next s ≡ Some b))
  after_cases s b is = elim (cases_eq to s) as (λ _. ((to ≡ s) × (name ≡ b)) ⊎ ((to ≡ s → ⊥) × (cell_of next s ≡ Some b))) [
    | inl p ↦ inl (p, same_Some name b (sym (cell_of_set next to name) ∙ (ap (λ n. cell_of next_after n) p ∙ is)))
    | inr ne ↦ inr (ne, sym (cell_of_other next to s name ne) ∙ is)
  ]

  closes_next : (s b : ℕ) → (to ≡ s → ⊥) → cell_of next s ≡ Some b → Closes link b → ⊥
  closes_next s b ne is (inl a) = g.next_apart s b is (subst (λ n. Has left n) (from_is b a.1) is_left)
  closes_next s b ne is (inr a) = ne (g.next_once to s b a is)

  pub edge_grows : Growing after at (link ∷ cells) next_after
  edge_grows = record {
    grown = (link_continues, g.grown);
    left_there = λ b h. let r = g.left_there b (leaves.0 b h) in (r.0, inr r.1, r.2);
    left_open = λ b h. open_more cells link b (g.left_open b (leaves.0 b h)) (closes_left b h);
    left_later = λ b h. subst (λ n. n ≤ at) (sym (past_at_other link cells b (not_name b (g.left_there b (leaves.0 b h))))) (g.left_later b (leaves.0 b h));
    next_there = λ s b is. elim (after_cases s b is) as (λ _. HasCell (link ∷ cells) b) [
      | inl a ↦ (link, inl refl, a.1)
      | inr a ↦ let r = g.next_there s b a.1 in (r.0, inr r.1, r.2)
    ];
    next_open = λ s b is. elim (after_cases s b is) as (λ _. IsOpen (link ∷ cells) b) [
      | inl a ↦ subst (λ n. IsOpen (link ∷ cells) n) a.1 (new_open cells link g.grown link_continues)
      | inr a ↦ open_more cells link b (g.next_open s b a.1) (closes_next s b a.0 a.1)
    ];
    next_apart = λ s b is h. elim (after_cases s b is) as (λ _. ⊥) [
      | inl a ↦ not_name b (g.left_there b (leaves.0 b h)) a.1
      | inr a ↦ g.next_apart s b a.1 (leaves.0 b h)
    ];
    next_once = λ s r b is ir. elim (after_cases s b is) as (λ _. s ≡ r) [
      | inl a ↦ elim (after_cases r b ir) as (λ _. s ≡ r) [
        | inl d ↦ sym a.0 ∙ d.0
        | inr d ↦ absurd (not_name b (g.next_there r b d.1) a.1)
      ]
      | inr a ↦ elim (after_cases r b ir) as (λ _. s ≡ r) [
        | inl d ↦ absurd (not_name b (g.next_there s b a.1) d.1)
        | inr d ↦ g.next_once s r b a.1 d.1
      ]
    ];
  }

-- the cell of a source moves to the next layer as it is, where the target has none
module _ (left after : List ℕ) (at : ℕ) (cells : List NamedLink) (next : Layer) (g : Growing left at cells next)
    (c to : ℕ) (is_left : Has left c) (gone : Has after c → ⊥) (rest : (b : ℕ) → Has after b → Has left b) (none : cell_of next to ≡ None) where
  moved_cases : (s b : ℕ) → cell_of (set_cell next to c) s ≡ Some b → ((to ≡ s) × (c ≡ b)) ⊎ ((to ≡ s → ⊥) × (cell_of next s ≡ Some b))
  moved_cases s b is = elim (cases_eq to s) as (λ _. ((to ≡ s) × (c ≡ b)) ⊎ ((to ≡ s → ⊥) × (cell_of next s ≡ Some b))) [
    | inl p ↦ inl (p, same_Some c b (sym (cell_of_set next to c) ∙ (ap (λ n. cell_of (set_cell next to c) n) p ∙ is)))
    | inr ne ↦ inr (ne, sym (cell_of_other next to s c ne) ∙ is)
  ]

  pub move_grows : Growing after at cells (set_cell next to c)
  move_grows = record {
    grown = g.grown;
    left_there = λ b h. g.left_there b (rest b h);
    left_open = λ b h. g.left_open b (rest b h);
    left_later = λ b h. g.left_later b (rest b h);
    next_there = λ s b is. elim (moved_cases s b is) as (λ _. HasCell cells b) [
      | inl a ↦ subst (λ n. HasCell cells n) a.1 (g.left_there c is_left)
      | inr a ↦ g.next_there s b a.1
    ];
    next_open = λ s b is. elim (moved_cases s b is) as (λ _. IsOpen cells b) [
      | inl a ↦ subst (λ n. IsOpen cells n) a.1 (g.left_open c is_left)
      | inr a ↦ g.next_open s b a.1
    ];
    next_apart = λ s b is h. elim (moved_cases s b is) as (λ _. ⊥) [
      | inl a ↦ gone (subst (λ n. Has after n) (sym a.1) h)
      | inr a ↦ g.next_apart s b a.1 (rest b h)
    ];
    next_once = λ s r b is ir. elim (moved_cases s b is) as (λ _. s ≡ r) [
      | inl a ↦ elim (moved_cases r b ir) as (λ _. s ≡ r) [
        | inl d ↦ sym a.0 ∙ d.0
        | inr d ↦ absurd (g.next_apart r b d.1 (subst (λ n. Has left n) a.1 is_left))
      ]
      | inr a ↦ elim (moved_cases r b ir) as (λ _. s ≡ r) [
        | inl d ↦ absurd (g.next_apart s b a.1 (subst (λ n. Has left n) d.1 is_left))
        | inr d ↦ g.next_once s r b a.1 d.1
      ]
    ];
  }

-- before the first edge of a step: the position is past all that the cells have
pub step_grows : (sources : List ℕ) (at : ℕ) (cells : List NamedLink) → AreGrown cells → ((c : ℕ) → Has sources c → HasCell cells c) →
    ((c : ℕ) → Has sources c → IsOpen cells c) → past cells ≤ at → Growing sources at cells []
step_grows sources at cells grown there open_ le = record {
  grown = grown;
  left_there = there;
  left_open = open_;
  left_later = λ c h. let p = past_at_le cells c in omega arith;
  next_there = λ s c (is : None ≡ Some c). cc;
  next_open = λ s c (is : None ≡ Some c). cc;
  next_apart = λ s c (is : None ≡ Some c) h. cc;
  next_once = λ s r c (is : None ≡ Some c) (ir : None ≡ Some c). cc;
}

-- then each block of the position comes next, whatever source it is of
pub first_comes_next : (cells : List NamedLink) (c at marks : ℕ) → past cells ≤ at → ComesNext cells c at marks
first_comes_next cells c at marks le some d h from md = inl (let p = past_has cells d h md in omega arith)

-- the next edge of the source has a smaller block
pub comes_next_own : (cells : List NamedLink) (name c at m n : ℕ) (also : Option ℕ) → n < m → ComesNext cells c at m → ComesNext (new_link name at m c also ∷ cells) c at n
comes_next_own cells name c at m n also less comes some d (inl e) from md =
    inr (sym (ap (λ (x : NamedLink). x.at) e), let p : m ≡ d.marks = ap (λ (x : NamedLink). x.marks) e in omega arith)
comes_next_own cells name c at m n also less comes some d (inr h) from md =
    elim (comes (omega arith) d h from md) as (λ _. (d.at < at) ⊎ ((d.at ≡ at) × (n < d.marks))) [
      | inl a ↦ inl a
      | inr a ↦ inr (a.0, let p : m < d.marks = a.1 in omega arith)
    ]

-- cells of other sources change nothing for this one
pub comes_next_other : (cells : List NamedLink) (l : NamedLink) (c at n : ℕ) → (l.from ≡ Some c → ⊥) → ComesNext cells c at n → ComesNext (l ∷ cells) c at n
comes_next_other cells l c at n ne comes some d (inl e) from md = absurd (ne (subst (λ (x : NamedLink). x.from ≡ Some c) (sym e) from))
comes_next_other cells l c at n ne comes some d (inr h) from md = comes some d h from md
