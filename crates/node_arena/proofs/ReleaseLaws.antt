-- Cells that are neither held nor named are given back until there is none.
use Rattle.std.proofs.Common.{◌≡◌, ℕ, ◌+◌, ◌-◌, ◌<◌, ◌≤◌, if◌then◌else◌, nat_eq, ◌⊎◌, inl, inr, List, [], ◌∷◌, length, Some, IsSome, IfSome, is_some, refl, sym, ap, ap₂, subst, ◌∙◌, arith}
use Rattle.std.proofs.lemmas.Bool.{cases_eq}
use Rattle.std.specs.FinMap as map
use Rattle.std.proofs.lemmas.Option.{same_Some}
use Rattle.node_arena.proofs.Maps.{remove_other}
use Rattle.node_arena.specs.declared.TheConstants.{NONE, MOST_CELLS, MOST_HOLDS}
use Rattle.node_arena.specs.declared.node.Node.{Node}
use Rattle.span_core.specs.Lists.{Has}
use Rattle.node_arena.specs.Cells.{NamedLink, Cells, Holds, HasCell, IsNamed, IsUnnamed, AreLinked, without, hold, with_hold}
use Rattle.node_arena.specs.Release.{Released, no_more, one_more}
use Rattle.node_arena.specs.Nodes.{Nodes, IsKept, Stored, AreWaiting, threaded, first_waiting, node_at, first_of, number_of, names_once, named_times, count_of, some_positive, lowered, unlinked, IsEnd}
use Rattle.node_arena.proofs.Branches.{if_same}
use Rattle.node_arena.proofs.Holds.{hold_here, hold_other}
use Rattle.node_arena.proofs.NodeLaws.{node_there, node_none, same_count}
use Rattle.node_arena.proofs.Counts.{named_one, named_zero, some_named, none_unnamed, named_there}
use Rattle.node_arena.proofs.Without.{Taken, taken, unlinked_stored, without_keeps, without_gone, length_without, linked_without, cell_before_without}
use Rattle.node_arena.proofs.Unlinking.{newer_there, older_there, newer_apart, older_apart, first_without}
use Rattle.node_arena.proofs.KeptLaws.{if_some}
use Rattle.node_arena.proofs.Lowering.{IsLowered, lower_stored, end_of, threaded_past}

-- while cells wait: `start` had the cells before, and `waiting` have no hold and no name
pub record Releasing (nodes : Nodes) (newest live pending : ℕ) (holds : Holds) (start : List NamedLink) : Type 0 where
  pub cells : List NamedLink
  pub waiting : List ℕ
  pub stored : Stored nodes (count_of holds cells) cells waiting
  pub first : newest ≡ first_of cells
  pub number : live ≡ length cells
  pub next : pending ≡ first_waiting waiting
  pub linked : AreLinked cells
  pub small : (c : ℕ) → HasCell cells c → c < MOST_CELLS
  pub held_there : (c : ℕ) → 0 < hold holds c → HasCell cells c
  pub run : (rest : List NamedLink) → Released holds cells rest → Released holds start rest

no_cell : (cells : List NamedLink) → ((c : ℕ) → HasCell cells c → c < MOST_CELLS) → HasCell cells NONE → ⊥
no_cell cells small h = let s = small NONE h in absurd (omega arith)

-- the holds after one is given up
abbrev pub given_up : Holds → ℕ → Holds
given_up holds c = with_hold holds c (hold holds c - 1)

-- where the hold is given up
module _ (nodes : Nodes) (newest live : ℕ) (v : Cells) (kept : IsKept nodes newest live v) (cell : ℕ) (is_held : 0 < hold v.holds cell) where
  abbrev holds : Holds
  holds = given_up v.holds cell

  there : HasCell v.cells cell
  there = kept.held_there cell is_held

  less : (c : ℕ) → count_of v.holds v.cells c ≡ count_of holds v.cells c + names_once (Some cell) c
  less c = elim (cases_eq c cell) as (λ _. count_of v.holds v.cells c ≡ count_of holds v.cells c + names_once (Some cell) c) [
    | inl e ↦ subst (λ x. count_of v.holds v.cells x ≡ count_of holds v.cells x + names_once (Some cell) x) (sym e)
        (let h = hold_here v.holds cell (hold v.holds cell - 1) in let one = named_one (Some cell) cell refl in omega arith)
    | inr ne ↦
        let h = hold_other v.holds cell (hold v.holds cell - 1) c ne in
        let z = named_zero (Some cell) c (λ e. ne (sym (same_Some cell c e))) in
        omega arith
  ]

  all_counted : Stored nodes (count_of v.holds v.cells) v.cells []
  all_counted = record {
    nodes_are = kept.stored;
    each = tt;
    all = λ c h z. elim (kept.kept c h) as (λ _. ⊥) [
      | inl some ↦ absurd (omega arith)
      | inr by ↦ none_unnamed v.cells c (omega arith) by.0 by.1 by.2
    ];
  }

  pub release_end : (k : ℕ) → k ≡ cell → IsEnd nodes k
  release_end k e = subst (λ x. IsEnd nodes x) (sym e)
      (end_of nodes (count_of v.holds v.cells) holds_count v.cells [] all_counted (no_cell v.cells kept.small) (Some cell) (λ d is. subst (λ x. HasCell v.cells x) (same_Some cell d is) there))
    where
      holds_count : ℕ → ℕ
      holds_count c = count_of holds v.cells c

  pub fewer_held : (c : ℕ) → hold holds c ≤ hold v.holds c
  fewer_held c = elim (cases_eq c cell) as (λ _. hold holds c ≤ hold v.holds c) [
    | inl e ↦ subst (λ x. hold holds x ≤ hold v.holds x) (sym e) (let h = hold_here v.holds cell (hold v.holds cell - 1) in omega arith)
    | inr ne ↦ let h = hold_other v.holds cell (hold v.holds cell - 1) c ne in omega arith
  ]

  pub release_begins : (new : Nodes) (k pending : ℕ) → k ≡ cell → new ≡ (lowered nodes k NONE).0 → pending ≡ (lowered nodes k NONE).1 → Releasing new newest live pending holds v.cells
  release_begins new k pending ek en ep =
      let r : IsLowered (count_of holds v.cells) v.cells (lowered nodes cell NONE) =
      lower_stored nodes (count_of v.holds v.cells) (count_of holds v.cells) v.cells [] all_counted (no_cell v.cells kept.small) (Some cell)
      (λ d is. subst (λ x. HasCell v.cells x) (same_Some cell d is) there) less in
      let en' : new ≡ (lowered nodes cell NONE).0 = en ∙ ap (λ x. (lowered nodes x NONE).0) ek in
      record {
        cells = v.cells;
        waiting = r.0;
        stored = subst (λ n. Stored n (count_of holds v.cells) v.cells r.0) (sym en') r.1;
        first = kept.first;
        number = kept.number;
        next = ep ∙ (ap (λ x. (lowered nodes x NONE).1) ek ∙ r.2);
        linked = kept.linked;
        small = kept.small;
        held_there = λ c some. let l = fewer_held c in kept.held_there c (omega arith);
        run = λ rest run. run;
      }

-- the first that waits is freed
module _ (nodes : Nodes) (newest live p : ℕ) (holds : Holds) (start cells : List NamedLink) (waiting : List ℕ)
    (stored : Stored nodes (count_of holds cells) cells (p ∷ waiting)) (first : newest ≡ first_of cells) (number : live ≡ length cells)
    (linked : AreLinked cells) (small : (c : ℕ) → HasCell cells c → c < MOST_CELLS) (held_there : (c : ℕ) → 0 < hold holds c → HasCell cells c)
    (run : (rest : List NamedLink) → Released holds cells rest → Released holds start rest) where
  abbrev counts : ℕ → ℕ
  counts = threaded (p ∷ waiting) (count_of holds cells)

  here : HasCell cells p
  here = stored.each.0

  zero_count : count_of holds cells p ≡ 0
  zero_count = stored.each.1

  unnamed : IsUnnamed cells p
  unnamed = none_unnamed cells p (let z = zero_count in omega arith)

  module _ (n : Node) (at : map.get nodes p ≡ Some n) where
    node_is : node_at counts NONE cells p ≡ Some n
    node_is = sym (stored.nodes_are p) ∙ at

    abbrev rest : List NamedLink
    rest = without p cells

    pub t : Taken counts cells p n
    t = taken counts NONE cells p n node_is

    in_use : (c : ℕ) → HasCell cells c → (c ≡ p → ⊥) → IsSome (map.get (map.remove nodes p) c)
    in_use c h ne = let r = node_there counts NONE cells c h in ap is_some (remove_other nodes p c ne ∙ (stored.nodes_are c ∙ r.1))

    end_by : (c : ℕ) → (c ≡ NONE) ⊎ HasCell cells c → (c ≡ p → ⊥) → IsEnd (map.remove nodes p) c
    end_by c (inl e) ne = (
      λ _. remove_other nodes p c ne ∙
          (stored.nodes_are c ∙ (ap (node_at counts NONE cells) e ∙ node_none counts NONE cells NONE (no_cell cells small))),
      λ apart. absurd (apart e),
    )
    end_by c (inr h) ne = (λ e. absurd (no_cell cells small (subst (λ x. HasCell cells x) e h)), λ _. in_use c h ne)

    p_small : p ≡ NONE → ⊥
    p_small e = let s = small p here in absurd (omega arith)

    pub newer_end : IsEnd (map.remove nodes p) n.newer
    newer_end = end_by n.newer (newer_there counts p cells NONE n node_is) (newer_apart counts p cells NONE n linked (no_cell cells small) node_is)

    pub older_end : IsEnd (map.remove nodes p) n.older
    older_end = end_by n.older (older_there counts p cells NONE n node_is) (older_apart counts p cells NONE n linked p_small node_is)

    -- its count has the number of the next one that waits
    pub next_waits : n.count ≡ first_waiting waiting
    next_waits = t.count_is ∙ if_same p p (first_waiting waiting) (threaded waiting (count_of holds cells) p) refl

    from_rest : (d : ℕ) → t.link.from ≡ Some d → HasCell rest d
    from_rest d e =
        without_keeps p cells d (λ q. unnamed t.link t.there (inl (e ∙ ap Some q))) (named_there cells linked t.link d t.there (inl e))

    also_rest : (d : ℕ) → t.link.also ≡ Some d → HasCell rest d
    also_rest d e =
        without_keeps p cells d (λ q. unnamed t.link t.there (inr (e ∙ ap Some q))) (named_there cells linked t.link d t.there (inr e))

    waiting_rest : (ws : List ℕ) → (Has ws p → ⊥) → AreWaiting (count_of holds cells) cells ws → AreWaiting (count_of holds cells) rest ws
    waiting_rest [] out each = tt
    waiting_rest (w ∷ ws) out each =
        (without_keeps p cells w (λ e. out (inl e)) each.0, each.1, each.2, waiting_rest ws (λ h. out (inr h)) each.3)

    -- the nodes once it is unlinked
    pub unlinked_rest : Stored (unlinked nodes p n) (count_of holds cells) rest waiting
    unlinked_rest = record {
      nodes_are = λ c.
          unlinked_stored nodes counts cells p n stored.nodes_are linked (no_cell cells small) at c
          ∙ same c;
      each = waiting_rest waiting stored.each.2 stored.each.3;
      all = λ c h z. elim (stored.all c (cell_before_without p cells c h) z) as (λ _. Has waiting c) [
        | inl e ↦ absurd (without_gone p cells linked (subst (λ x. HasCell rest x) (sym e) h))
        | inr there ↦ there
      ];
    }
      where
        same : (c : ℕ) → node_at counts NONE rest c ≡ node_at (threaded waiting (count_of holds cells)) NONE rest c
        same c = same_count counts (threaded waiting (count_of holds cells)) NONE rest c
            (λ h. sym (threaded_past p waiting (count_of holds cells) c (λ e. without_gone p cells linked (subst (λ x. HasCell rest x) (sym e) h))))

    rest_small : (c : ℕ) → HasCell rest c → c < MOST_CELLS
    rest_small c h = small c (cell_before_without p cells c h)

    -- what its names leave of the counts
    abbrev after_from : ℕ → ℕ
    after_from c = count_of holds rest c + names_once t.link.also c

    pub from_lowered : IsLowered after_from rest (lowered (unlinked nodes p n) n.from (first_waiting waiting))
    from_lowered = subst (λ k. IsLowered after_from rest (lowered (unlinked nodes p n) k (first_waiting waiting))) (sym t.from_is)
        (lower_stored (unlinked nodes p n) (count_of holds cells) after_from rest waiting unlinked_rest (no_cell rest rest_small) t.link.from from_rest
        (λ c. let e = t.named c in omega arith))

    pub from_end : IsEnd (unlinked nodes p n) n.from
    from_end = subst (λ k. IsEnd (unlinked nodes p n) k) (sym t.from_is)
        (end_of (unlinked nodes p n) (count_of holds cells) after_from rest waiting unlinked_rest (no_cell rest rest_small) t.link.from from_rest)

    module _ (lower : Nodes) (next : ℕ) (r : IsLowered after_from rest (lower, next)) where
      pub also_end : IsEnd lower n.also
      also_end = subst (λ k. IsEnd lower k) (sym t.also_is) (end_of lower after_from (count_of holds rest) rest r.0 r.1 (no_cell rest rest_small) t.link.also also_rest)

      also_lowered : IsLowered (count_of holds rest) rest (lowered lower n.also next)
      also_lowered = subst (λ k. IsLowered (count_of holds rest) rest (lowered lower k next)) (sym t.also_is)
          (subst (λ w. IsLowered (count_of holds rest) rest (lowered lower (number_of t.link.also) w)) (sym r.2)
          (lower_stored lower after_from (count_of holds rest) rest r.0 r.1 (no_cell rest rest_small) t.link.also also_rest (λ c. refl)))

      pub freed : (newest' live' : ℕ) → newest' ≡ (if nat_eq n.newer NONE then n.older else newest) → live' + 1 ≡ live →
          Releasing (lowered lower n.also next).0 newest' live' (lowered lower n.also next).1 holds start
      freed newest' live' en el =
          let less = length_without p cells here in
          let held_zero : hold holds p ≡ 0 = let z = zero_count in omega arith in
          record {
            cells = rest;
            waiting = also_lowered.0;
            stored = also_lowered.1;
            first = en ∙ (ap (λ x. if nat_eq n.newer NONE then n.older else x) first ∙ sym (first_without counts p cells NONE n linked (no_cell cells small) node_is));
            number = omega arith;
            next = also_lowered.2;
            linked = linked_without p cells linked unnamed;
            small = rest_small;
            held_there = λ c some. without_keeps p cells c (λ e. let z = ap (hold holds) e in absurd (omega arith)) (held_there c some);
            run = λ last r. run last (one_more p here held_zero unnamed r);
          }

-- as the loop meets it
module _ (nodes : Nodes) (newest live pending : ℕ) (holds : Holds) (start : List NamedLink) (r : Releasing nodes newest live pending holds start) where
  some_waits : (pending ≡ NONE → ⊥) → (ws : List ℕ) × Stored nodes (count_of holds r.cells) r.cells (pending ∷ ws)
  some_waits ne = by r.waiting r.stored r.next
    where
      by : (waiting : List ℕ) → Stored nodes (count_of holds r.cells) r.cells waiting → pending ≡ first_waiting waiting → (ws : List ℕ) × Stored nodes (count_of holds r.cells) r.cells (pending ∷ ws)
      by [] stored e = absurd (ne e)
      by (p ∷ ws) stored e = (ws, subst (λ x. Stored nodes (count_of holds r.cells) r.cells (x ∷ ws)) (sym e) stored)

  none_waits : pending ≡ NONE → Stored nodes (count_of holds r.cells) r.cells []
  none_waits z = by r.waiting r.stored r.next
    where
      by : (waiting : List ℕ) → Stored nodes (count_of holds r.cells) r.cells waiting → pending ≡ first_waiting waiting → Stored nodes (count_of holds r.cells) r.cells []
      by [] stored e = stored
      by (p ∷ ws) stored e = let s = r.small p stored.each.0 in absurd (omega arith)

  module _ (ne : pending ≡ NONE → ⊥) where
    abbrev waits : List ℕ
    waits = (some_waits ne).0

    abbrev stored : Stored nodes (count_of holds r.cells) r.cells (pending ∷ waits)
    stored = (some_waits ne).1

    pub pending_in_use : IsSome (map.get nodes pending)
    pending_in_use =
        let h = node_there (threaded (pending ∷ waits) (count_of holds r.cells)) NONE r.cells pending stored.each.0 in ap is_some (stored.nodes_are pending ∙ h.1)

    pub some_live : 1 ≤ live
    some_live = let l = length_without pending r.cells stored.each.0 in let n = r.number in omega arith

    pub newer_ends : IfSome (map.get nodes pending) (λ n. IsEnd (map.remove nodes pending) n.newer)
    newer_ends = if_some (map.get nodes pending)
        (λ n at. newer_end nodes newest live pending holds start r.cells waits stored r.first r.number r.linked r.small r.held_there r.run n at)

    pub older_ends : IfSome (map.get nodes pending) (λ n. IsEnd (map.remove nodes pending) n.older)
    older_ends = if_some (map.get nodes pending)
        (λ n at. older_end nodes newest live pending holds start r.cells waits stored r.first r.number r.linked r.small r.held_there r.run n at)

    module _ (n : Node) (at : map.get nodes pending ≡ Some n) where
      pub from_ends : (n1 : Nodes) → n1 ≡ unlinked nodes pending n → IsEnd n1 n.from
      from_ends n1 e1 = subst (λ (m : Nodes). IsEnd m n.from) (sym e1)
          (from_end nodes newest live pending holds start r.cells waits stored r.first r.number r.linked r.small r.held_there r.run n at)

      abbrev rest_counts : ℕ → ℕ
      rest_counts = after_from nodes newest live pending holds start r.cells waits stored r.first r.number r.linked r.small r.held_there r.run n at

      lowered_once : (n1 n2 : Nodes) (k next : ℕ) → n1 ≡ unlinked nodes pending n → k ≡ n.count → n2 ≡ (lowered n1 n.from k).0 → next ≡ (lowered n1 n.from k).1 →
          IsLowered rest_counts (without pending r.cells) (n2, next)
      lowered_once n1 n2 k next e1 ek e2 en =
          let f = from_lowered nodes newest live pending holds start r.cells waits stored r.first r.number r.linked r.small r.held_there r.run n at in
          let w = ek ∙ next_waits nodes newest live pending holds start r.cells waits stored r.first r.number r.linked r.small r.held_there r.run n at in
          let same : lowered n1 n.from k ≡ lowered (unlinked nodes pending n) n.from (first_waiting waits) = ap₂ (λ (m : Nodes) (x : ℕ). lowered m n.from x) e1 w in
          let pair : (n2, next) ≡ lowered (unlinked nodes pending n) n.from (first_waiting waits) = ap₂ (λ (m : Nodes) (x : ℕ). let z : Nodes × ℕ = (m, x) in z) e2 en ∙ same in
          subst (λ (z : Nodes × ℕ). IsLowered rest_counts (without pending r.cells) z) (sym pair) f

      module _ (n1 n2 : Nodes) (k next : ℕ) (e1 : n1 ≡ unlinked nodes pending n) (ek : k ≡ n.count) (e2 : n2 ≡ (lowered n1 n.from k).0) (en : next ≡ (lowered n1 n.from k).1) where
        pub also_ends : IsEnd n2 n.also
        also_ends = also_end nodes newest live pending holds start r.cells waits stored r.first r.number r.linked r.small r.held_there r.run n at n2 next (lowered_once n1 n2 k next e1 ek e2 en)

        pub free_done : (n3 : Nodes) (newest' live' last : ℕ) → newest' ≡ (if nat_eq n.newer NONE then n.older else newest) → live' + 1 ≡ live →
            n3 ≡ (lowered n2 n.also next).0 → last ≡ (lowered n2 n.also next).1 → Releasing n3 newest' live' last holds start
        free_done n3 newest' live' last ew el e3 e4 =
            let f = freed nodes newest live pending holds start r.cells waits stored r.first r.number r.linked r.small r.held_there r.run n at n2 next
            (lowered_once n1 n2 k next e1 ek e2 en) newest' live' ew el in
            subst (λ (m : Nodes). Releasing m newest' live' last holds start) (sym e3) (subst (λ x. Releasing (lowered n2 n.also next).0 newest' live' x holds start) (sym e4) f)

  -- none is left that is neither held nor named
  pub all_kept : pending ≡ NONE → (c : ℕ) → HasCell r.cells c → (0 < hold holds c) ⊎ IsNamed r.cells c
  all_kept z c h =
      let s = none_waits z in
      elim (cases_eq (hold holds c) 0) as (λ _. (0 < hold holds c) ⊎ IsNamed r.cells c) [
        | inl e ↦ elim (cases_eq (named_times r.cells c) 0) as (λ _. (0 < hold holds c) ⊎ IsNamed r.cells c) [
          | inl f ↦ absurd (s.all c h (omega arith))
          | inr some ↦ inr (some_named r.cells c (omega arith))
        ]
        | inr some ↦ inl (omega arith)
      ]

  pub release_ends : pending ≡ NONE → ((c : ℕ) → map.get holds c ≡ some_positive (hold holds c)) → ((c : ℕ) → hold holds c ≤ MOST_HOLDS) → (spare : ℕ) →
      IsKept nodes newest live (record { cells = r.cells; holds = holds; spare = spare })
  release_ends z proper few spare = record {
    stored = (none_waits z).nodes_are;
    first = r.first;
    number = r.number;
    linked = r.linked;
    small = r.small;
    held_there = r.held_there;
    proper = proper;
    few = few;
    kept = all_kept z;
  }

  pub was_released : pending ≡ NONE → Released holds start r.cells
  was_released z = r.run r.cells (no_more (all_kept z))
