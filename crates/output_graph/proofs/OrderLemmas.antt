-- The order of words.
use Rattle.std.proofs.Common.{ℕ, ◌<◌, ◌≤◌, List, [], ◌∷◌, ◌++◌, map, inl, inr, refl, subst, arith}
use Rattle.span_core.specs.Lists.{Has}
use Rattle.node_arena.specs.Words.{Word}
use Rattle.output_graph.specs.Order.{LeadsBefore, Before, AreInOrder, Ascends}
use Rattle.span_core.proofs.HasLaws.{Has-append_cases, Has-map_cases}

pub ascends_from : (m n : ℕ) (w : Word) → m ≤ n → Ascends n w → Ascends m w
ascends_from m n [] le h = tt
ascends_from m n (x ∷ w) le h = (let a : n ≤ x.0 = h.0 in omega arith, h.1)

pub leads_from : (n : ℕ) (x : ℕ × ℕ) (w : Word) → x.0 < n → Ascends n w → LeadsBefore x w
leads_from n x [] lt h = tt
leads_from n x (y ∷ w) lt h = inl (let a : n ≤ y.0 = h.0 in omega arith)

pub before_by_lead : (x : ℕ × ℕ) (t y : Word) → LeadsBefore x y → Before (x ∷ t) y
before_by_lead x t [] h = tt
before_by_lead x t (z ∷ v) h = inl h

pub in_order_map : (x : ℕ × ℕ) (ws : List Word) → AreInOrder ws → AreInOrder (map (λ w. x ∷ w) ws)
in_order_map x [] h = tt
in_order_map x (w ∷ ws) h = (
  λ v there.
      let r = Has-map_cases (λ (w : Word). x ∷ w) ws v there in
      subst (λ y. Before (x ∷ w) y) r.2 (inr (refl, h.0 r.0 r.1)),
  in_order_map x ws h.1,
)

pub in_order_append : (xs ys : List Word) → AreInOrder xs → AreInOrder ys → ((x y : Word) → Has xs x → Has ys y → Before x y) → AreInOrder (xs ++ ys)
in_order_append [] ys a b f = b
in_order_append (x ∷ xs) ys a b f = (
  λ v there. elim (Has-append_cases xs ys v there) as (λ _. Before x v) [
    | inl h ↦ a.0 v h
    | inr h ↦ f x v (inl refl) h
  ],
  in_order_append xs ys a.1 b (λ p q hp hq. f p q (inr hp) hq),
)
