-- One hold or name of a cell less, while cells wait.
use Rattle.std.proofs.Common.{◌≡◌, ℕ, ◌+◌, ◌-◌, if◌then◌else◌, nat_eq, nat_lt, inl, inr, List, [], ◌∷◌, Option, Some, None, is_some, refl, sym, ap, subst, ◌∙◌, arith}
use Rattle.std.proofs.lemmas.Bool.{cases_eq, cond-true, cond-false}
use Rattle.std.specs.FinMap as map
use Rattle.std.proofs.lemmas.Option.{same_Some}
use Rattle.node_arena.specs.declared.TheConstants.{NONE}
use Rattle.node_arena.specs.declared.node.Node.{Node}
use Rattle.span_core.specs.Lists.{Has}
use Rattle.node_arena.specs.Cells.{NamedLink, HasCell}
use Rattle.node_arena.specs.Nodes.{Nodes, Stored, AreWaiting, threaded, first_waiting, number_of, names_once, lowered, lowered_by, IsEnd}
use Rattle.node_arena.proofs.Branches.{if_same, if_apart, lt_true, lt_false}
use Rattle.node_arena.proofs.NodeLaws.{node_none, node_there, same_count, count_kept, recounted}
use Rattle.node_arena.proofs.Counts.{named_one, named_zero}

pub threaded_same : (waiting : List ℕ) (f g : ℕ → ℕ) (c : ℕ) → f c ≡ g c → threaded waiting f c ≡ threaded waiting g c
threaded_same [] f g c e = e
threaded_same (p ∷ waiting) f g c e = ap (λ k. if nat_eq p c then first_waiting waiting else k) (threaded_same waiting f g c e)

pub threaded_other : (waiting : List ℕ) (f : ℕ → ℕ) (c : ℕ) → (Has waiting c → ⊥) → threaded waiting f c ≡ f c
threaded_other [] f c none = refl
threaded_other (p ∷ waiting) f c none =
    if_apart p c (first_waiting waiting) (threaded waiting f c) (λ e. none (inl e)) ∙ threaded_other waiting f c (λ h. none (inr h))

pub threaded_past : (p : ℕ) (waiting : List ℕ) (f : ℕ → ℕ) (c : ℕ) → (p ≡ c → ⊥) → threaded (p ∷ waiting) f c ≡ threaded waiting f c
threaded_past p waiting f c ne = if_apart p c (first_waiting waiting) (threaded waiting f c) ne

-- what waits has no count
pub waiting_zero : (f : ℕ → ℕ) (cells : List NamedLink) (waiting : List ℕ) (c : ℕ) → AreWaiting f cells waiting → Has waiting c → f c ≡ 0
waiting_zero f cells [] c each h = absurd h
waiting_zero f cells (p ∷ waiting) c each h = elim h as (λ _. f c ≡ 0) [
  | inl e ↦ subst (λ x. f x ≡ 0) e each.1
  | inr there ↦ waiting_zero f cells waiting c each.3 there
]

waiting_less : (f g : ℕ → ℕ) (cells : List NamedLink) (waiting : List ℕ) → ((c : ℕ) → f c ≡ 0 → g c ≡ 0) → AreWaiting f cells waiting → AreWaiting g cells waiting
waiting_less f g cells [] less each = tt
waiting_less f g cells (p ∷ waiting) less each = (each.0, less p each.1, each.2, waiting_less f g cells waiting less each.3)

-- the nodes and what waits, after a call
abbrev pub IsLowered : (ℕ → ℕ) → List NamedLink → Nodes × ℕ → Type 0
IsLowered g cells r = (waiting : List ℕ) × Stored r.0 g cells waiting × (r.1 ≡ first_waiting waiting)

module _ (nodes : Nodes) (f g : ℕ → ℕ) (cells : List NamedLink) (waiting : List ℕ) (stored : Stored nodes f cells waiting) (small : HasCell cells NONE → ⊥) where
  -- a cell, or none
  pub end_of : (o : Option ℕ) → ((d : ℕ) → o ≡ Some d → HasCell cells d) → IsEnd nodes (number_of o)
  end_of None there = (λ _. stored.nodes_are NONE ∙ node_none (threaded waiting f) NONE cells NONE small, λ ne. absurd (ne refl))
  end_of (Some d) there = (
    λ e. absurd (small (subst (λ x. HasCell cells x) e (there d refl))),
    λ _. let r = node_there (threaded waiting f) NONE cells d (there d refl) in ap is_some (stored.nodes_are d ∙ r.1),
  )

  pub lower_stored : (o : Option ℕ) → ((d : ℕ) → o ≡ Some d → HasCell cells d) → ((c : ℕ) → f c ≡ g c + names_once o c) → IsLowered g cells (lowered nodes (number_of o) (first_waiting waiting))
  lower_stored None there less =
      let same : (c : ℕ) → f c ≡ g c = λ c. let e = less c in omega arith in
      let none : map.get nodes NONE ≡ None = stored.nodes_are NONE ∙ node_none (threaded waiting f) NONE cells NONE small in
      let r : IsLowered g cells (nodes, first_waiting waiting) = (
        waiting,
        record {
          nodes_are = λ c. stored.nodes_are c ∙ same_count (threaded waiting f) (threaded waiting g) NONE cells c (λ _. sym (threaded_same waiting f g c (same c)));
          each = waiting_less f g cells waiting (λ c z. sym (same c) ∙ z) stored.each;
          all = λ c h z. stored.all c h (same c ∙ z);
        },
        refl,
      ) in
      subst (λ o. IsLowered g cells (lowered_by nodes NONE (first_waiting waiting) o)) (sym none) r
  lower_stored (Some d) there less =
      let r = node_there (threaded waiting f) NONE cells d (there d refl) in
      let n : Node = r.0 in
      let at : map.get nodes d ≡ Some n = stored.nodes_are d ∙ r.1 in
      let one = named_one (Some d) d refl in
      let up = less d in
      let fd : f d ≡ g d + 1 = omega arith in
      let idle : Has waiting d → ⊥ = λ h. let z = waiting_zero f cells waiting d stored.each h in absurd (omega arith) in
      let kept = count_kept (threaded waiting f) NONE cells d n r.1 in
      let is : n.count ≡ g d + 1 = kept ∙ (threaded_other waiting f d idle ∙ fd) in
      let others : (c : ℕ) → (c ≡ d → ⊥) → f c ≡ g c = λ c ne. let e = less c in let z = named_zero (Some d) c (λ q. ne (sym (same_Some d c q))) in omega arith in
      let less_zero : (c : ℕ) → f c ≡ 0 → g c ≡ 0 = λ c z. let e = less c in omega arith in
      let fewer : Nodes = map.insert nodes d (record n { count = n.count - 1 }) in
      let last : Nodes = map.insert nodes d (record n { count = first_waiting waiting }) in
      subst (λ o. IsLowered g cells (lowered_by nodes d (first_waiting waiting) o)) (sym at)
      (elim (cases_eq (g d) 0) as (λ _. IsLowered g cells (lowered_by nodes d (first_waiting waiting) (Some n))) [
        | inl z ↦
            let idle_now : IsLowered g cells (last, d) = (
              d ∷ waiting,
              record {
                nodes_are = recounted (threaded waiting f) (threaded (d ∷ waiting) g) nodes NONE cells d (first_waiting waiting) n stored.nodes_are at
                    (sym (if_same d d (first_waiting waiting) (threaded waiting g d) refl))
                    (λ q h ne. threaded_past d waiting g q (λ e. ne (sym e)) ∙ sym (threaded_same waiting f g q (others q ne)));
                each = (there d refl, z, idle, waiting_less f g cells waiting less_zero stored.each);
                all = λ c h zc. elim (cases_eq d c) as (λ _. Has (d ∷ waiting) c) [
                  | inl e ↦ inl e
                  | inr ne ↦ inr (stored.all c h (others c (λ e. ne (sym e)) ∙ zc))
                ];
              },
              refl,
            ) in
            subst (λ p. IsLowered g cells p) (sym (cond-false (nat_lt 1 n.count) (fewer, first_waiting waiting) (last, d) (lt_false 1 n.count (omega arith)))) idle_now
        | inr some ↦
            let busy : IsLowered g cells (fewer, first_waiting waiting) = (
              waiting,
              record {
                nodes_are = recounted (threaded waiting f) (threaded waiting g) nodes NONE cells d (n.count - 1) n stored.nodes_are at
                    (let e = threaded_other waiting g d idle in omega arith)
                    (λ q h ne. sym (threaded_same waiting f g q (others q ne)));
                each = waiting_less f g cells waiting less_zero stored.each;
                all = λ c h zc. stored.all c h (others c (λ e. some (subst (λ x. g x ≡ 0) e zc)) ∙ zc);
              },
              refl,
            ) in
            subst (λ p. IsLowered g cells p) (sym (cond-true (nat_lt 1 n.count) (fewer, first_waiting waiting) (last, d) (lt_true 1 n.count (omega arith)))) busy
      ])
