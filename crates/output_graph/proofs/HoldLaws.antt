-- What is held, through edges and the end of a source.
use Rattle.std.proofs.Common.{◌≡◌, ◌⊎◌, ℕ, ◌-◌, ◌<◌, List, ◌∷◌, Option, Some, None, inl, inr, refl, sym, ap, ◌∙◌, subst, arith}
use Rattle.std.proofs.lemmas.Bool.{cases_eq}
use Rattle.std.proofs.lemmas.Option.{same_Some}
use Rattle.span_core.specs.Lists.{Has}
use Rattle.node_arena.specs.Cells.{NamedLink, HasCell, Holds, hold, with_hold, less_hold}
use Rattle.node_arena.proofs.Counts.{names_or_not}
use Rattle.node_arena.proofs.Holds.{hold_here, hold_other}
use Rattle.output_graph.specs.Forward.{Layer, cell_of, set_cell, Growing}
use Rattle.output_graph.specs.Sound.{AreHeldOnce}
use Rattle.output_graph.proofs.ForwardLaws.{cell_of_set, cell_of_other}

less_other : (holds : Holds) (o : Option ℕ) (b : ℕ) → (o ≡ Some b → ⊥) → hold (less_hold holds o) b ≡ hold holds b
less_other holds None b ne = refl
less_other holds (Some c) b ne = hold_other holds c (hold holds c - 1) b (λ e. ne (ap Some (sym e)))

less_here : (holds : Holds) (o : Option ℕ) (b : ℕ) → o ≡ Some b → hold (less_hold holds o) b ≡ hold holds b - 1
less_here holds None b e = cc
less_here holds (Some c) b e = let same = same_Some c b e in subst (λ n. hold (less_hold holds (Some c)) n ≡ hold holds n - 1) same (hold_here holds c (hold holds c - 1))

-- an edge's cell takes the hold of `also`
module _ (left : List ℕ) (at : ℕ) (cells : List NamedLink) (next : Layer) (g : Growing left at cells next) (holds : Holds) (h : AreHeldOnce holds left next)
    (to name : ℕ) (fresh : HasCell cells name → ⊥) where
  abbrev after : Holds
  after = with_hold (less_hold holds (cell_of next to)) name 1

  by_other : (b : ℕ) → (b ≡ name → ⊥) → (cell_of next to ≡ Some b → ⊥) → hold after b ≡ hold holds b
  by_other b ne apart = hold_other (less_hold holds (cell_of next to)) name 1 b ne ∙ less_other holds (cell_of next to) b apart

  pub held_by_edge : AreHeldOnce after left (set_cell next to name)
  held_by_edge = record {
    at_left = λ b hb. by_other b (λ e. fresh (subst (λ n. HasCell cells n) e (g.left_there b hb))) (λ e. g.next_apart to b e hb) ∙ h.at_left b hb;
    at_next = λ s b at_s. elim (cases_eq to s) as (λ _. hold after b ≡ 1) [
      | inl e ↦
          let named : name ≡ b = same_Some name b (sym (cell_of_set next to name) ∙ (ap (λ n. cell_of (set_cell next to name) n) e ∙ at_s)) in
          subst (λ n. hold after n ≡ 1) named (hold_here (less_hold holds (cell_of next to)) name 1)
      | inr ne ↦
          let old : cell_of next s ≡ Some b = sym (cell_of_other next to s name ne) ∙ at_s in
          by_other b (λ e. fresh (subst (λ n. HasCell cells n) e (g.next_there s b old))) (λ e. ne (g.next_once to s b e old)) ∙ h.at_next s b old
    ];
    only = λ b has. elim (cases_eq b name) as (λ _. Has left b ⊎ ((s : ℕ) × (cell_of (set_cell next to name) s ≡ Some b))) [
      | inl e ↦ inr (to, cell_of_set next to name ∙ ap Some (sym e))
      | inr ne ↦ elim (names_or_not (cell_of next to) b) as (λ _. Has left b ⊎ ((s : ℕ) × (cell_of (set_cell next to name) s ≡ Some b))) [
        | inl also ↦
            let one = h.at_next to b also in
            let gone = hold_other (less_hold holds (cell_of next to)) name 1 b ne in
            let less = less_here holds (cell_of next to) b also in
            absurd (omega arith)
        | inr apart ↦
            let same = by_other b ne apart in
            let positive : 0 < hold holds b = omega arith in
            elim (h.only b positive) as (λ _. Has left b ⊎ ((s : ℕ) × (cell_of (set_cell next to name) s ≡ Some b))) [
              | inl l ↦ inl l
              | inr r ↦ inr (r.0, cell_of_other next to r.0 name (λ e. apart (ap (λ x. cell_of next x) e ∙ r.1)) ∙ r.1)
            ]
      ]
    ];
  }

-- the source's cell moves to the next layer
pub held_by_move : (left : List ℕ) (c to : ℕ) (next : Layer) (holds : Holds) → AreHeldOnce holds (c ∷ left) next → cell_of next to ≡ None →
    AreHeldOnce holds left (set_cell next to c)
held_by_move left c to next holds h none = record {
  at_left = λ b hb. h.at_left b (inr hb);
  at_next = λ s b at_s. elim (cases_eq to s) as (λ _. hold holds b ≡ 1) [
    | inl e ↦
        let same : c ≡ b = same_Some c b (sym (cell_of_set next to c) ∙ (ap (λ n. cell_of (set_cell next to c) n) e ∙ at_s)) in
        subst (λ n. hold holds n ≡ 1) same (h.at_left c (inl refl))
    | inr ne ↦ h.at_next s b (sym (cell_of_other next to s c ne) ∙ at_s)
  ];
  only = λ b has. elim (h.only b has) as (λ _. Has left b ⊎ ((s : ℕ) × (cell_of (set_cell next to c) s ≡ Some b))) [
    | inl (inl e) ↦ inr (to, cell_of_set next to c ∙ ap Some e)
    | inl (inr l) ↦ inl l
    | inr r ↦ inr (r.0, cell_of_other next to r.0 c (λ e. (let clash : None ≡ Some b = sym none ∙ (ap (λ x. cell_of next x) e ∙ r.1) in cc)) ∙ r.1)
  ];
}

-- the source's hold is given up
pub held_by_rest : (left : List ℕ) (c : ℕ) (next : Layer) (holds : Holds) → AreHeldOnce holds (c ∷ left) next →
    (Has left c → ⊥) → ((s : ℕ) → cell_of next s ≡ Some c → ⊥) → AreHeldOnce (with_hold holds c (hold holds c - 1)) left next
held_by_rest left c next holds h not_left not_next =
    let stays : (b : ℕ) → (b ≡ c → ⊥) → hold (with_hold holds c (hold holds c - 1)) b ≡ hold holds b = hold_other holds c (hold holds c - 1) in
    record {
      at_left = λ b hb. stays b (λ e. not_left (subst (λ n. Has left n) e hb)) ∙ h.at_left b (inr hb);
      at_next = λ s b at_s. stays b (λ e. not_next s (at_s ∙ ap Some e)) ∙ h.at_next s b at_s;
      only = λ b has. elim (cases_eq b c) as (λ _. Has left b ⊎ ((s : ℕ) × (cell_of next s ≡ Some b))) [
        | inl e ↦
            let gone = hold_here holds c (hold holds c - 1) in
            let one = h.at_left c (inl refl) in
            let here : 0 < hold (with_hold holds c (hold holds c - 1)) c = subst (λ n. 0 < hold (with_hold holds c (hold holds c - 1)) n) e has in
            absurd (omega arith)
        | inr ne ↦
            let same = stays b ne in
            let positive : 0 < hold holds b = omega arith in
            elim (h.only b positive) as (λ _. Has left b ⊎ ((s : ℕ) × (cell_of next s ≡ Some b))) [
              | inl (inl e) ↦ absurd (ne (sym e))
              | inl (inr l) ↦ inl l
              | inr r ↦ inr r
            ]
      ];
    }
