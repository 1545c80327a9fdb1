-- Automata without markers, turned round.
use Rattle.std.proofs.Common.{◌≡◌, ℕ, zero, suc, ◌+◌, ◌-◌, List, length, map, reverse, get_or, Some, refl, sym, ap, subst, arith, ◌∙◌}
use Rattle.std.specs.Prelude.{slice_get}
use Rattle.std.proofs.lemmas.Option.{slice_get-get_or, get_or_from_slice_get}
use Rattle.std.proofs.lemmas.List.{length-reverse, reverse-reverse, get_or-reverse}
use Rattle.span_core.specs.Lists.{Has}
use Rattle.span_core.proofs.HasLaws.{Has-map, Has-map_cases}
use Rattle.marked_automaton.specs.declared.way.Way.{Way}
use Rattle.marked_automaton.specs.declared.way.Stop.{Stop}
use Rattle.marked_automaton.specs.Automaton.{Automaton, Accepts, TakesNoMarks, Walk, reversed, turned_way}
use Rattle.marked_automaton.specs.Laws.{ReversalLaw}
use Rattle.marked_automaton.proofs.Walks.{walk_more, walk_then}

-- the word without markers
abbrev plain : ℕ → ℕ
plain i = 0

-- the bytes turned round
pub reads_reversed : (d : List ℕ) (i j b : ℕ) → i + j + 1 ≡ length d → slice_get d i ≡ Some b → slice_get (reverse d) j ≡ Some b
reads_reversed d i j b at h =
    let len : length (reverse d) ≡ length d = length-reverse d in
    let e : length d - 1 - j ≡ i = omega arith in
    slice_get-get_or (reverse d) j 0 (omega (arith, len))
    ∙ ap Some (get_or-reverse d j 0 (omega arith) ∙ (ap (λ k. get_or d k 0) e ∙ get_or_from_slice_get d i b 0 h))

walk_reversed : (ways : List Way) (d : List ℕ) (n i j p q : ℕ) → i + n + j ≡ length d → Walk ways d plain i n p q →
    Walk (map turned_way ways) (reverse d) plain j n q p
walk_reversed ways d zero i j p q at h = sym h
walk_reversed ways d (suc n) i j p q at h =
    let y = h.0 in
    let rest = walk_reversed ways d n (suc i) j y.to q (omega (arith, at)) h.5 in
    let byte = reads_reversed d i (j + n) h.4.0 (omega (arith, at)) h.4.1 in
    let last : Walk (map turned_way ways) (reverse d) plain (j + n) 1 y.to p =
    (turned_way y, Has-map turned_way ways y h.1, refl, h.3, (h.4.0, byte, h.4.2), h.2) in
    let e : n + 1 ≡ suc n = omega arith in
    subst (λ m. Walk (map turned_way ways) (reverse d) plain j m q p) e
    (walk_then (map turned_way ways) (reverse d) plain n 1 j (j + n) q y.to p refl rest last)

turned_twice : (ways : List Way) (y : Way) → Has (map turned_way (map turned_way ways)) y → Has ways y
turned_twice ways y h =
    let a = Has-map_cases turned_way (map turned_way ways) y h in
    let b = Has-map_cases turned_way ways a.0 a.1 in
    subst (Has ways) (ap turned_way b.2 ∙ a.2) b.1

module _ (A : Automaton) (d : List ℕ) where
  reversed_accepts : Accepts A d plain → Accepts (reversed A) (reverse d) plain
  reversed_accepts h =
      let stop : ℕ → Stop = λ p. record { state = p; marks = 0 } in
      let walk = walk_reversed A.ways d (length d) 0 0 h.0 h.1.state (omega arith) h.4 in (
        h.1.state,
        stop h.0,
        Has-map (λ (x : Stop). x.state) A.stops h.1 h.3,
        Has-map stop A.starts h.0 h.2,
        subst (λ n. Walk (map turned_way A.ways) (reverse d) plain 0 n h.1.state h.0) (sym (length-reverse d)) walk,
        refl,
      )

  accepts_reversed : TakesNoMarks A → Accepts (reversed A) (reverse d) plain → Accepts A d plain
  accepts_reversed none h =
      let stop : ℕ → Stop = λ p. record { state = p; marks = 0 } in
      let x = Has-map_cases (λ (x : Stop). x.state) A.stops h.0 h.2 in
      let p = Has-map_cases stop A.starts h.1 h.3 in
      let len = length-reverse d in
      let back = walk_reversed (map turned_way A.ways) (reverse d) (length (reverse d)) 0 0 h.0 h.1.state (omega arith) h.4 in
      let there = walk_more (map turned_way (map turned_way A.ways)) A.ways (reverse (reverse d)) plain (turned_twice A.ways) (length (reverse d)) 0 h.1.state h.0 back in
      let same : h.1.state ≡ p.0 = sym (ap (λ (x : Stop). x.state) p.2) in
      let walk : Walk A.ways d plain 0 (length d) p.0 x.0.state =
      subst (λ q. Walk A.ways d plain 0 (length d) p.0 q) (sym x.2)
      (subst (λ q. Walk A.ways d plain 0 (length d) q h.0) same
      (subst (λ n. Walk A.ways d plain 0 n h.1.state h.0) len
      (subst (λ e. Walk A.ways e plain 0 (length (reverse d)) h.1.state h.0) (reverse-reverse d) there))) in
      (p.0, x.0, p.1, x.1, walk, none.1 x.0 x.1)

pub reversal_law : ReversalLaw
reversal_law A none d = (accepts_reversed A d none, reversed_accepts A d)
