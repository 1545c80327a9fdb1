-- The cells but one.
use Rattle.std.proofs.Common.{◌≡◌, ℕ, suc, ◌+◌, inl, inr, List, [], ◌∷◌, length, Some, refl, sym, ap, subst, ◌∙◌, arith}
use Rattle.std.proofs.lemmas.Bool.{cases_eq}
use Rattle.std.specs.FinMap as map
use Rattle.std.proofs.lemmas.Option.{same_Some}
use Rattle.node_arena.specs.declared.TheConstants.{NONE}
use Rattle.node_arena.specs.declared.node.Node.{Node}
use Rattle.span_core.specs.Lists.{Has}
use Rattle.node_arena.specs.Cells.{NamedLink, HasCell, IsUnnamed, AreLinked, Follows, without}
use Rattle.node_arena.specs.Nodes.{Nodes, AreNodes, node_at, number_of, names_once, named_times, unlinked}
use Rattle.node_arena.proofs.Branches.{if_same, if_apart}
use Rattle.node_arena.proofs.NodeLaws.{node_here, node_past, node_none, some_not_none}
use Rattle.node_arena.proofs.Counts.{cell_or_not}
use Rattle.node_arena.proofs.Unlinking.{rejoined, unlinked_here, unlinked_other, node_without}

module _ (k : ℕ) where
  pub without_first : (l : NamedLink) (older : List NamedLink) → l.name ≡ k → without k (l ∷ older) ≡ older
  without_first l older e = if_same l.name k older (l ∷ without k older) e

  pub without_later : (l : NamedLink) (older : List NamedLink) → (l.name ≡ k → ⊥) → without k (l ∷ older) ≡ l ∷ without k older
  without_later l older ne = if_apart l.name k older (l ∷ without k older) ne

  -- no other cell comes
  pub without_less : (cells : List NamedLink) (l : NamedLink) → Has (without k cells) l → Has cells l
  without_less [] l h = h
  without_less (m ∷ older) l h = elim (cases_eq m.name k) as (λ _. Has (m ∷ older) l) [
    | inl e ↦ inr (subst (λ xs. Has xs l) (without_first m older e) h)
    | inr ne ↦ elim (subst (λ xs. Has xs l) (without_later m older ne) h) as (λ _. Has (m ∷ older) l) [
      | inl is ↦ inl is
      | inr a ↦ inr (without_less older l a)
    ]
  ]

  pub cell_before_without : (cells : List NamedLink) (c : ℕ) → HasCell (without k cells) c → HasCell cells c
  cell_before_without cells c h = (h.0, without_less cells h.0 h.1, h.2)

  -- each other cell stays
  pub without_has : (cells : List NamedLink) (l : NamedLink) → Has cells l → (l.name ≡ k → ⊥) → Has (without k cells) l
  without_has [] l h ne = h
  without_has (m ∷ older) l h ne = elim (cases_eq m.name k) as (λ _. Has (without k (m ∷ older)) l) [
    | inl e ↦ subst (λ xs. Has xs l) (sym (without_first m older e)) (elim h as (λ _. Has older l) [
      | inl is ↦ absurd (ne (sym (ap (λ (x : NamedLink). x.name) is) ∙ e))
      | inr there ↦ there
    ])
    | inr other ↦ subst (λ xs. Has xs l) (sym (without_later m older other)) (elim h as (λ _. Has (m ∷ without k older) l) [
      | inl is ↦ inl is
      | inr there ↦ inr (without_has older l there ne)
    ])
  ]

  pub without_keeps : (cells : List NamedLink) (c : ℕ) → (c ≡ k → ⊥) → HasCell cells c → HasCell (without k cells) c
  without_keeps cells c ne h = (h.0, without_has cells h.0 h.1 (λ e. ne (sym h.2 ∙ e)), h.2)

  -- the cell is gone
  pub without_gone : (cells : List NamedLink) → AreLinked cells → HasCell (without k cells) k → ⊥
  without_gone [] linked h = h.1
  without_gone (m ∷ older) linked h = elim (cases_eq m.name k) as (λ _. ⊥) [
    | inl e ↦ linked.0.fresh (subst (λ x. HasCell older x) (sym e) (subst (λ xs. HasCell xs k) (without_first m older e) h))
    | inr ne ↦
        let there = subst (λ xs. HasCell xs k) (without_later m older ne) h in
        elim there.1 as (λ _. ⊥) [
          | inl is ↦ ne (ap (λ (x : NamedLink). x.name) is ∙ there.2)
          | inr rest ↦ without_gone older linked.1 (there.0, rest, there.2)
        ]
  ]

  pub length_without : (cells : List NamedLink) → HasCell cells k → length (without k cells) + 1 ≡ length cells
  length_without [] h = absurd h.1
  length_without (m ∷ older) h = elim (cases_eq m.name k) as (λ _. length (without k (m ∷ older)) + 1 ≡ suc (length older)) [
    | inl e ↦ let l = ap length (without_first m older e) in omega arith
    | inr ne ↦ elim h.1 as (λ _. length (without k (m ∷ older)) + 1 ≡ suc (length older)) [
      | inl is ↦ absurd (ne (ap (λ (x : NamedLink). x.name) is ∙ h.2))
      | inr there ↦ let l : length (without k (m ∷ older)) ≡ suc (length (without k older)) = ap length (without_later m older ne) in let r = length_without older (h.0, there, h.2) in omega arith
    ]
  ]

  -- the others name each other as before
  pub linked_without : (cells : List NamedLink) → AreLinked cells → IsUnnamed cells k → AreLinked (without k cells)
  linked_without [] linked un = linked
  linked_without (l ∷ older) linked un = elim (cases_eq l.name k) as (λ _. AreLinked (without k (l ∷ older))) [
    | inl e ↦ subst AreLinked (sym (without_first l older e)) linked.1
    | inr ne ↦
        let can = linked.0 in
        let follows : Follows (without k older) l = record {
          fresh = λ h. can.fresh (cell_before_without older l.name h);
          from_there = λ c is. without_keeps older c (λ q. un l (inl refl) (inl (is ∙ ap Some q))) (can.from_there c is);
          also_there = λ c is. without_keeps older c (λ q. un l (inl refl) (inr (is ∙ ap Some q))) (can.also_there c is);
          apart = can.apart;
        } in
        subst AreLinked (sym (without_later l older ne)) (follows, linked_without older linked.1 (λ d h. un d (inr h)))
  ]

-- the link of the cell whose node was n
pub record Taken (count : ℕ → ℕ) (cells : List NamedLink) (k : ℕ) (n : Node) : Type 0 where
  pub link : NamedLink
  pub there : Has cells link
  pub name_is : link.name ≡ k
  pub at_is : n.at ≡ link.at
  pub marks_are : n.marks ≡ link.marks
  pub from_is : n.from ≡ number_of link.from
  pub also_is : n.also ≡ number_of link.also
  pub count_is : n.count ≡ count k
  pub named : (c : ℕ) → named_times cells c ≡ names_once link.from c + names_once link.also c + named_times (without k cells) c

pub taken : (count : ℕ → ℕ) (newer : ℕ) (cells : List NamedLink) (k : ℕ) (n : Node) → node_at count newer cells k ≡ Some n → Taken count cells k n
taken count newer [] k n e = absurd (some_not_none n e)
taken count newer (l ∷ older) k n e = elim (cases_eq l.name k) as (λ _. Taken count (l ∷ older) k n) [
  | inl is ↦
      let node = same_Some n _ (sym e ∙ node_here count newer l older k is) in
      record {
        link = l;
        there = inl refl;
        name_is = is;
        at_is = ap (λ (x : Node). x.at) node;
        marks_are = ap (λ (x : Node). x.marks) node;
        from_is = ap (λ (x : Node). x.from) node;
        also_is = ap (λ (x : Node). x.also) node;
        count_is = ap (λ (x : Node). x.count) node;
        named = λ c. ap (λ cs. names_once l.from c + names_once l.also c + named_times cs c) (sym (without_first k l older is));
      }
  | inr ne ↦
      let r = taken count l.name older k n (sym (node_past count newer l older k ne) ∙ e) in
      record {
        link = r.link;
        there = inr r.there;
        name_is = r.name_is;
        at_is = r.at_is;
        marks_are = r.marks_are;
        from_is = r.from_is;
        also_is = r.also_is;
        count_is = r.count_is;
        named = λ c.
            let a = r.named c in
            let b : named_times (without k (l ∷ older)) c ≡ names_once l.from c + names_once l.also c + named_times (without k older) c = ap (λ cs. named_times cs c) (without_later k l older ne) in
            omega arith;
      }
]

-- the nodes of the other cells, once the cell is unlinked
pub unlinked_stored : (nodes : Nodes) (count : ℕ → ℕ) (cells : List NamedLink) (k : ℕ) (n : Node) → AreNodes nodes count NONE cells → AreLinked cells → (HasCell cells NONE → ⊥) →
    map.get nodes k ≡ Some n → AreNodes (unlinked nodes k n) count NONE (without k cells)
unlinked_stored nodes count cells k n stored linked small at c = elim (cases_eq c k) as (λ _. map.get (unlinked nodes k n) c ≡ node_at count NONE (without k cells) c) [
  | inl e ↦ subst (λ x. map.get (unlinked nodes k n) x ≡ node_at count NONE (without k cells) x) (sym e)
      (unlinked_here nodes k n ∙ sym (node_none count NONE (without k cells) k (without_gone k cells linked)))
  | inr ne ↦ unlinked_other nodes k n c ne ∙ (ap (rejoined n c) (stored c) ∙ elim (cell_or_not cells c) as (λ _. rejoined n c (node_at count NONE cells c) ≡ node_at count NONE (without k cells) c) [
    | inl h ↦ sym (node_without count k cells NONE n linked small small (sym (stored k) ∙ at) c h ne)
    | inr none ↦ ap (rejoined n c) (node_none count NONE cells c none) ∙ sym (node_none count NONE (without k cells) c (λ h. none (cell_before_without k cells c h)))
  ])
]
