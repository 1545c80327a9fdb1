-- The automaton of the pairs that are found.
use Rattle.std.proofs.Common.{◌≡◌, ℕ, ◌+◌, ◌<◌, ◌↔◌, ◌⊎◌, List, [], ◌∷◌, ◌++◌, Some, length, map, inl, inr, refl, sym, ap, arith, ◌∙◌}
use Rattle.std.specs.Prelude.{slice_get}
use Rattle.std.specs.List.{filter, flat_map}
use Rattle.span_core.specs.Lists.{Has, AreDistinct}
use Rattle.span_core.proofs.HasLaws.{Has-append_left, Has-append_right, Has-append_cases, Has-map_cases}
use Rattle.marked_automaton.specs.declared.way.Way.{Way}
use Rattle.marked_automaton.specs.declared.way.Stop.{Stop}
use Rattle.marked_automaton.proofs.Listed.{some_same, compared}
use Rattle.algebra.specs.declared.halves.HalfStop.{HalfStop}
use Rattle.algebra.specs.declared.pairs.Pair.{Pair}
use Rattle.marked_automaton.specs.Automaton.{Automaton, HasGraphOf, with_ways}
use Rattle.algebra.specs.Sides.{IsMadeOf}
use Rattle.algebra.specs.Pairs.{HasAllButStarts, HasAllButStops, IsIdleHere, IsIdlePair, IsStopAt, Matched, PairStop, half_at, pair_of, stop_at, stop_pair, stops_at_pair, stops_meet, those_at}
use Rattle.marked_automaton.proofs.Passing.{filter_cases, flat_map_cases}
use Rattle.algebra.proofs.Searched.{row_has}

pub one_start_more : (old starts new : List ℕ) (i : ℕ) → ((p : ℕ) → Has starts p ↔ (Has old p ⊎ (p < i))) → new ≡ starts ++ i ∷ [] →
    (p : ℕ) → Has new p ↔ (Has old p ⊎ (p < i + 1))
one_start_more old starts new i inv is p = (
  (λ h. elim (Has-append_cases starts (i ∷ []) p (rw (← is) h)) [
    | inl a ↦ elim ((inv p).0 a) [ inl x ↦ inl x | inr l ↦ inr (omega (arith, l)) ]
    | inr b ↦ elim b as (λ _. Has old p ⊎ (p < i + 1)) [ inl e ↦ inr (omega (arith, e)) | inr n ↦ absurd n ]
  ]),
  (λ h. rw is (elim h [
    | inl x ↦ Has-append_left starts (i ∷ []) p ((inv p).1 (inl x))
    | inr l ↦ elim (compared p i) as (λ _. Has (starts ++ i ∷ []) p) [
      | inl less ↦ Has-append_left starts (i ∷ []) p ((inv p).1 (inr less))
      | inr r ↦ elim r as (λ _. Has (starts ++ i ∷ []) p) [
        | inl e ↦ Has-append_right starts (i ∷ []) p (inl (sym e))
        | inr g ↦ absurd (omega (arith, g, l))
      ]
    ]
  ])),
)

pub one_idle_more : (found : List Pair) (idle1 idle2 old idle new : List ℕ) (i : ℕ) (k : Pair) → slice_get found i ≡ Some k →
    ((p : ℕ) → Has idle p ↔ (Has old p ⊎ ((p < i) × IsIdlePair found idle1 idle2 p))) →
    ((p : ℕ) → Has new p ↔ (Has idle p ⊎ IsIdleHere i k idle1 idle2 p)) →
    (p : ℕ) → Has new p ↔ (Has old p ⊎ ((p < i + 1) × IsIdlePair found idle1 idle2 p))
one_idle_more found idle1 idle2 old idle new i k at inv more p = (
  (λ h. elim ((more p).0 h) [
    | inl x ↦ elim ((inv p).0 x) [ inl y ↦ inl y | inr y ↦ inr (omega (arith, y.0), y.1) ]
    | inr z ↦ inr (omega (arith, z.0), (k, ap (slice_get found) z.0 ∙ at, z.1, z.2))
  ]),
  (λ h. (more p).1 (elim h [
    | inl x ↦ inl ((inv p).1 (inl x))
    | inr y ↦ elim (compared p i) as (λ _. Has idle p ⊎ IsIdleHere i k idle1 idle2 p) [
      | inl less ↦ inl ((inv p).1 (inr (less, y.1)))
      | inr r ↦ elim r as (λ _. Has idle p ⊎ IsIdleHere i k idle1 idle2 p) [
        | inl e ↦
            let same : y.1.0 ≡ k = some_same y.1.0 k (sym y.1.1 ∙ (ap (slice_get found) e ∙ at)) in
            inr (e, rw (← same) y.1.2, rw (← same) y.1.3)
        | inr g ↦ absurd (omega (arith, g, y.0))
      ]
    ]
  ])),
)

-- what is made at a pair is at it
pub stops_here : (k : Pair) (xs ys : List HalfStop) (r : PairStop) → Has (stops_at_pair xs ys k) r → k ≡ r.at
stops_here k xs ys r h =
    let x = flat_map_cases (λ x. map (stop_pair x) (filter (stops_meet x) (those_at half_at k.right ys))) (those_at half_at k.left xs) r h in
    let y = Has-map_cases (stop_pair x.0) (filter (stops_meet x.0) (those_at half_at k.right ys)) r x.2 in
    let z = filter_cases (stops_meet x.0) (those_at half_at k.right ys) y.0 y.1 in
    let left = (row_has half_at k.left xs x.0 x.1).1 in
    let right = (row_has half_at k.right ys y.0 z.0).1 in
    let there : k ≡ pair_of x.0.stop.state y.0.stop.state = (λ i. record { left = sym left i; right = sym right i }) in
    there ∙ ap (λ (r : PairStop). r.at) y.2

all_match : (found : List Pair) (i : ℕ) (k : Pair) (rs : List PairStop) → slice_get found i ≡ Some k → ((r : PairStop) → Has rs r → k ≡ r.at) →
    Matched (IsStopAt found) rs (map (stop_at i) rs)
all_match found i k [] at h = tt
all_match found i k (r ∷ rs) at h = (record { at = at ∙ ap Some (h r (inl refl)); marks = refl }, all_match found i k rs at (λ s x. h s (inr x)))

pub stops_match : (found : List Pair) (i : ℕ) (k : Pair) (xs ys : List HalfStop) → slice_get found i ≡ Some k →
    Matched (IsStopAt found) (stops_at_pair xs ys k) (map (stop_at i) (stops_at_pair xs ys k))
stops_match found i k xs ys at = all_match found i k (stops_at_pair xs ys k) at (stops_here k xs ys)

-- what the calls for the parts make
pub assembled_made : (keys slice : List Pair) (count n : ℕ) (items : List Way) (left right : List HalfStop) (idle1 idle2 : List ℕ) (G0 G1 G2 G3 : Automaton) →
    slice ≡ keys → AreDistinct keys → G0 ≡ with_ways n items → n ≡ length keys →
    ((p : ℕ) → Has G1.starts p ↔ (Has G0.starts p ⊎ (p < count))) → HasAllButStarts G1 G0 →
    ((made : List Stop) × (G2.stops ≡ G1.stops ++ made) × Matched (IsStopAt slice) (flat_map (stops_at_pair left right) slice) made) → HasAllButStops G2 G1 →
    HasGraphOf G3 G2 → ((p : ℕ) → Has G3.idle p ↔ (Has G2.idle p ⊎ IsIdlePair slice idle1 idle2 p)) →
    IsMadeOf keys count items left right idle1 idle2 G3
assembled_made keys slice count n items left right idle1 idle2 G0 G1 G2 G3 same apart is len starts s1 stops s2 s3 idles = record {
  apart = apart;
  states = s3.states ∙ (s2.states ∙ (s1.states ∙ (ap (λ (g : Automaton). g.states) is ∙ len)));
  starts = λ p.
      let to : G3.starts ≡ G1.starts = s3.starts ∙ s2.starts in
      let none : G0.starts ≡ [] = ap (λ (g : Automaton). g.starts) is in (
        (λ h. elim ((starts p).0 (rw to at h)) [ inl x ↦ absurd (rw none at x) | inr l ↦ l ]),
        (λ l. rw to ((starts p).1 (inr l))),
      );
  ways = s3.ways ∙ (s2.ways ∙ (s1.ways ∙ ap (λ (g : Automaton). g.ways) is));
  stops =
      let all : G3.stops ≡ stops.0 = s3.stops ∙ (stops.1 ∙ ap (λ zs. zs ++ stops.0) (s1.stops ∙ ap (λ (g : Automaton). g.stops) is)) in
      rw (← same)
      (rw all stops.2);
  idles = λ p.
      let none : G2.idle ≡ [] = s2.idle ∙ (s1.idle ∙ ap (λ (g : Automaton). g.idle) is) in (
        (λ h. elim ((idles p).0 h) [
          | inl x ↦ absurd (rw none at x)
          | inr y ↦ rw (← same) y
        ]),
        (λ h. (idles p).1 (inr (rw same h))),
      );
}
