-- Ways that are taken, whatever they take.
use Rattle.std.proofs.Common.{◌≡◌, ℕ, zero, suc, ◌+◌, ◌<◌, List, refl, sym, ap, arith}
use Rattle.std.specs.Prelude.{nat_eq, if◌then◌else◌}
use Rattle.std.proofs.lemmas.Bool.{eq-eqb, ne_eqb}
use Rattle.span_core.specs.Lists.{Has}
use Rattle.marked_automaton.specs.declared.way.Way.{Way}
use Rattle.marked_automaton.specs.Automaton.{Automaton, ReadsByte, Walk}
use Rattle.marked_automaton.proofs.Walks.{walk_same}
use Rattle.segment_filter.specs.Idling.{IsLed, LeadsOut, Passes}

pub pass_then : (ways : List Way) (d : List ℕ) (n m i j p r q : ℕ) → j ≡ i + n →
    Passes ways d i n p r → Passes ways d j m r q → Passes ways d i (n + m) p q
pass_then ways d zero m i j p r q at h k =
    let e : m ≡ zero + m = omega arith in
    let f : j ≡ i = omega arith in
    rw (← e) (rw h (rw (← f) k))
pass_then ways d (suc n) m i j p r q at h k =
    let e : suc (n + m) ≡ suc n + m = omega arith in
    let f : j ≡ suc i + n = omega arith in
    rw (← e) (h.0, h.1, h.2, h.3, pass_then ways d n m (suc i) j h.0.to r q f h.4 k)

pub pass_more : (ways more : List Way) (d : List ℕ) → ((y : Way) → Has ways y → Has more y) →
    (n i p q : ℕ) → Passes ways d i n p q → Passes more d i n p q
pass_more ways more d sub zero i p q h = h
pass_more ways more d sub (suc n) i p q h = (h.0, sub h.0 h.1, h.2, h.3, pass_more ways more d sub n (suc i) h.0.to q h.4)

-- a walk, cut
pub pass_cut : (ways : List Way) (d : List ℕ) (n m i p q : ℕ) → Passes ways d i (n + m) p q → (r : ℕ) × Passes ways d i n p r × Passes ways d (i + n) m r q
pass_cut ways d zero m i p q h =
    let e : zero + m ≡ m = omega arith in
    let f : i ≡ i + zero = omega arith in
    (p, refl, rw (← f) (rw (← e) h))
pass_cut ways d (suc n) m i p q h =
    let e : suc n + m ≡ suc (n + m) = omega arith in
    let g = rw e at h in
    let r = pass_cut ways d n m (suc i) g.0.to q g.4 in
    let f : suc i + n ≡ i + suc n = omega arith in
    (r.0, (g.0, g.1, g.2, g.3, r.1), rw (← f) r.2)

pub walk_passes : (ways : List Way) (d : List ℕ) (w : ℕ → ℕ) (n i p q : ℕ) → Walk ways d w i n p q → Passes ways d i n p q
walk_passes ways d w zero i p q h = h
walk_passes ways d w (suc n) i p q h = (h.0, h.1, h.2, h.4, walk_passes ways d w n (suc i) h.0.to q h.5)

-- the word that has m at k, and is v elsewhere
abbrev put : (ℕ → ℕ) → ℕ → ℕ → ℕ → ℕ
put v k m p = if nat_eq k p then m else v p

-- they take some blocks
pub passes_walk : (ways : List Way) (d : List ℕ) (n i p q : ℕ) → Passes ways d i n p q → (w : ℕ → ℕ) × Walk ways d w i n p q
passes_walk ways d zero i p q h = (λ i. 0, h)
passes_walk ways d (suc n) i p q h =
    let rest = passes_walk ways d n (suc i) h.0.to q h.4 in
    let v : ℕ → ℕ = put rest.0 i h.0.marks in
    let here : v i ≡ h.0.marks = ap (λ b. if b then h.0.marks else rest.0 i) (eq-eqb i i refl) in
    let later : (r : ℕ) → i < r → v r ≡ rest.0 r = λ r l. ap (λ b. if b then h.0.marks else rest.0 r) (ne_eqb i r (λ at. omega (arith, at, l))) in (
      v,
      (
        h.0,
        h.1,
        h.2,
        sym here,
        h.3,
        walk_same ways d rest.0 v n (suc i) h.0.to q (λ r l u. sym (later r (omega (arith, l)))) rest.1,
      ),
    )

-- one way more
pub pass_on : (ways : List Way) (d : List ℕ) (n i j p : ℕ) (y : Way) → j ≡ i + n → Passes ways d i n p y.from → Has ways y →
    ReadsByte d j y.bytes → Passes ways d i (suc n) p y.to
pass_on ways d n i j p y at h k byte =
    let e : n + 1 ≡ suc n = omega arith in
    rw e at (pass_then ways d n 1 i j p y.from y.to at h (y, k, refl, byte, refl))

module _ (A : Automaton) (d : List ℕ) where
  pub led_on : (i : ℕ) (y : Way) → IsLed A d i y.from → Has A.ways y → ReadsByte d i y.bytes → IsLed A d (suc i) y.to
  led_on i y h k byte = let at : i ≡ 0 + i = omega arith in (h.0, h.1, pass_on A.ways d i 0 i h.0 y at h.2 k byte)

  pub leads_on : (i : ℕ) (y : Way) → Has A.ways y → ReadsByte d i y.bytes → LeadsOut A d (suc i) y.to → LeadsOut A d i y.from
  leads_on i y k byte h = (suc h.0, h.1, omega (arith, h.2), h.3, (y, k, refl, byte, h.4))
