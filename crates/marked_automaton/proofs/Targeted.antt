-- For each node the list of what its edges lead to, and how it is made.
use Rattle.std.proofs.Common.{◌≡◌, ℕ, zero, suc, ◌+◌, ◌<◌, ◌⊎◌, List, [], ◌∷◌, ◌++◌, length, get_or, take, Some, Vec, Global, inl, inr, refl, sym, ap, subst, arith, ◌∙◌}
use Rattle.std.proofs.Math.ListN.{set}
use Rattle.std.specs.Prelude.{slice_get}
use Rattle.std.proofs.lemmas.List.{map_more}
use Rattle.std.proofs.lemmas.Option.{slice_get-get_or}
use Rattle.span_core.specs.Lists.{Has}
use Rattle.span_core.proofs.HasLaws.{Has-append_cases, Has-append_left, Has-append_right, Has-map_cases}
use Rattle.marked_automaton.specs.Reach.{AreTargets}
use Rattle.marked_automaton.specs.declared.reach.Edge.{Edge}
use Rattle.marked_automaton.specs.declared.reach.Direction.{Direction}
use Rattle.marked_automaton.specs.declared.reach.Direction.TheVariants.{Forward, Back}
use Rattle.marked_automaton.specs.declared.way.Way.{Way}
use Rattle.marked_automaton.specs.Trimmed.{edge_in, edges_in}
use Rattle.marked_automaton.proofs.Listed.{get_map, place_has, some_same}

-- the edges' ends are where the ways' are
pub edges_below : (direction : Direction) (ways : List Way) (n : ℕ) → ((y : Way) → Has ways y → y.from < n) → ((y : Way) → Has ways y → y.to < n) →
    (e : Edge) → Has (edges_in direction ways) e → (e.from < n) × (e.to < n)
edges_below direction ways n froms tos e h =
    let y = Has-map_cases (edge_in direction) ways e h in
    go direction y.0 y.2 (froms y.0 y.1) (tos y.0 y.1)
  where
    go : (direction : Direction) (y : Way) → edge_in direction y ≡ e → y.from < n → y.to < n → (e.from < n) × (e.to < n)
    go Forward y is a b = (omega (arith, a, ap (λ (e : Edge). e.from) is), omega (arith, b, ap (λ (e : Edge). e.to) is))
    go Back y is a b = (omega (arith, b, ap (λ (e : Edge). e.from) is), omega (arith, a, ap (λ (e : Edge). e.to) is))

-- the edge that was made of the way at k, and the edges of the ways so far, as a loop counts on
module _ (direction : Direction) (ways : List Way) (k : ℕ) (y d : Way) (e : Edge) (within : k < length ways) (read : y ≡ get_or ways k d) (made : e ≡ edge_in direction y) where
  pub edge_there : Has (edges_in direction ways) e
  edge_there = place_has (edges_in direction ways) k e
      (get_map (edge_in direction) ways k (get_or ways k d) (slice_get-get_or ways k d within) ∙ ap Some (sym (made ∙ ap (edge_in direction) read)))

  pub edges_more : edges_in direction (take (k + 1) ways) ≡ edges_in direction (take k ways) ++ e ∷ []
  edges_more = map_more (edge_in direction) ways k d within ∙ ap (λ (x : Edge). edges_in direction (take k ways) ++ x ∷ []) (sym (made ∙ ap (edge_in direction) read))

module _ {X : Type 0} where
  set_place : (xs : List X) (i : ℕ) (v : X) (k : ℕ) (x : X) → slice_get (set xs i v) k ≡ Some x → ((k ≡ i) × (v ≡ x)) ⊎ ((k ≡ i → ⊥) × (slice_get xs k ≡ Some x))
  set_place [] i v k x e = absurd (cc)
  set_place (z ∷ xs) zero v zero x e = inl (refl, some_same v x e)
  set_place (z ∷ xs) zero v (suc k) x e = inr ((λ same. omega (arith, same)), e)
  set_place (z ∷ xs) (suc i) v zero x e = inr ((λ same. omega (arith, same)), e)
  set_place (z ∷ xs) (suc i) v (suc k) x e = elim (set_place xs i v k x e) [ inl a ↦ inl (ap suc a.0, a.1) | inr b ↦ inr ((λ same. b.0 (omega (arith, same))), b.1) ]

-- one edge more
pub targets_more : (edges : List Edge) (e : Edge) (lists : List (Vec ℕ Global)) (old new : Vec ℕ Global) → AreTargets edges lists → slice_get lists e.from ≡ Some old →
    new.items ≡ old.items ++ e.to ∷ [] → AreTargets (edges ++ e ∷ []) (set lists e.from new)
targets_more edges e lists old new was at pushed p list there =
    elim (set_place lists e.from new p list there) [
      | inl a ↦ λ q.
          let here = was e.from old at q in
          let items : list.items ≡ old.items ++ e.to ∷ [] = sym (ap (λ (v : Vec ℕ Global). v.items) a.1) ∙ pushed in (
            (λ h. elim (Has-append_cases old.items (e.to ∷ []) q (subst (λ qs. Has qs q) items h)) [
              | inl b ↦ let l = here.0 b in (l.0, Has-append_left edges (e ∷ []) l.0 l.1, l.2 ∙ sym a.0, l.3)
              | inr b ↦ elim b [ inl to ↦ (e, Has-append_right edges (e ∷ []) e (inl refl), sym a.0, to) | inr n ↦ absurd n ]
            ]),
            (λ l. subst (λ qs. Has qs q) (sym items)
                (elim (Has-append_cases edges (e ∷ []) l.0 l.1) [
                  | inl b ↦ Has-append_left old.items (e.to ∷ []) q (here.1 (l.0, b, l.2 ∙ a.0, l.3))
                  | inr b ↦ elim b [
                    | inl same ↦ Has-append_right old.items (e.to ∷ []) q (inl (ap (λ (x : Edge). x.to) same ∙ l.3))
                    | inr n ↦ absurd n
                  ]
                ])),
          )
      | inr a ↦ λ q.
          let there = was p list a.1 q in (
            (λ h. let l = there.0 h in (l.0, Has-append_left edges (e ∷ []) l.0 l.1, l.2, l.3)),
            (λ l. elim (Has-append_cases edges (e ∷ []) l.0 l.1) [
              | inl b ↦ there.1 (l.0, b, l.2, l.3)
              | inr b ↦ elim b [ inl same ↦ absurd (a.0 (sym l.2 ∙ sym (ap (λ (x : Edge). x.from) same))) | inr n ↦ absurd n ]
            ]),
          )
    ]
