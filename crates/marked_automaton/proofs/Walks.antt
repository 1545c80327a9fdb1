-- Walks: joined, and taken by other lists of ways.
use Rattle.std.proofs.Common.{◌≡◌, ℕ, zero, suc, ◌+◌, ◌<◌, ◌≤◌, List, sym, subst, arith, ◌∙◌}
use Rattle.span_core.specs.Lists.{Has}
use Rattle.marked_automaton.specs.declared.way.Way.{Way}
use Rattle.marked_automaton.specs.Automaton.{Walk}

pub walk_more : (ways more : List Way) (d : List ℕ) (w : ℕ → ℕ) → ((y : Way) → Has ways y → Has more y) →
    (n i p q : ℕ) → Walk ways d w i n p q → Walk more d w i n p q
walk_more ways more d w sub zero i p q h = h
walk_more ways more d w sub (suc n) i p q h =
    (h.0, sub h.0 h.1, h.2, h.3, h.4, walk_more ways more d w sub n (suc i) h.0.to q h.5)

pub walk_same : (ways : List Way) (d : List ℕ) (w v : ℕ → ℕ) (n i p q : ℕ) →
    ((r : ℕ) → i ≤ r → r < i + n → w r ≡ v r) → Walk ways d w i n p q → Walk ways d v i n p q
walk_same ways d w v zero i p q e h = h
walk_same ways d w v (suc n) i p q e h = (
  h.0,
  h.1,
  h.2,
  h.3 ∙ e i (omega arith) (omega arith),
  h.4,
  walk_same ways d w v n (suc i) h.0.to q (λ r a b. e r (omega arith) (omega arith)) h.5,
)

pub walk_then : (ways : List Way) (d : List ℕ) (w : ℕ → ℕ) (n m i j p r q : ℕ) → j ≡ i + n →
    Walk ways d w i n p r → Walk ways d w j m r q → Walk ways d w i (n + m) p q
walk_then ways d w zero m i j p r q at h k =
    let e : m ≡ zero + m = omega arith in
    let f : j ≡ i = omega arith in
    subst (λ x. Walk ways d w i x p q) e (subst (λ x. Walk ways d w i m x q) (sym h) (subst (λ x. Walk ways d w x m r q) f k))
walk_then ways d w (suc n) m i j p r q at h k =
    let e : suc (n + m) ≡ suc n + m = omega arith in
    let f : j ≡ suc i + n = omega arith in
    subst (λ x. Walk ways d w i x p q) e
    (h.0, h.1, h.2, h.3, h.4, walk_then ways d w n m (suc i) j h.0.to r q f h.5 k)

-- a way that begins there is a way of the part, and stays there
pub walk_stays : (part whole : List Way) (I : ℕ → Type 0) (d : List ℕ) (w : ℕ → ℕ) →
    ((y : Way) → Has whole y → I y.from → Has part y × I y.to) → (n i p q : ℕ) → I p → Walk whole d w i n p q → Walk part d w i n p q × I q
walk_stays part whole I d w stays zero i p q at h = (h, subst I h at)
walk_stays part whole I d w stays (suc n) i p q at h =
    let s = stays h.0 h.1 (subst I (sym h.2) at) in
    let r = walk_stays part whole I d w stays n (suc i) h.0.to q s.1 h.5 in
    ((h.0, s.0, h.2, h.3, h.4, r.0), r.1)
