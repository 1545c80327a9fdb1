-- Flags that are set at the places of some elements.
use Rattle.std.proofs.Common.{◌≡◌, ℕ, suc, ◌+◌, ◌-◌, ◌^◌, ◌<◌, ◌↔◌, Bool, true, false, IsTrue, List, [], ◌∷◌, length, get_or, take, Option, Some, None, inl, inr, refl, sym, ap, subst, arith, ◌∙◌}
use Rattle.std.proofs.Math.ListN.{set}
use Rattle.std.specs.Prelude.{slice_get, ◌==◌, if◌then◌else◌}
use Rattle.std.proofs.lemmas.Bool.{ne_eqb}
use Rattle.span_core.specs.declared.span.Span.{Span}
use Rattle.span_core.specs.Block.{block, closing_bit, marker, markers_from, opening_bit}
use Rattle.span_core.specs.Lists.{Has}
use Rattle.span_core.proofs.HasLaws.{Has-take_more_before, Has-take_more_cases, Has-take_more_here}
use Rattle.marked_automaton.specs.declared.way.Way.{Way}
use Rattle.marked_automaton.specs.declared.way.Stop.{Stop}
use Rattle.marked_automaton.specs.Accepting.{AcceptsFrom, Gathers, Takes}
use Rattle.marked_automaton.specs.Automaton.{Accepts, Automaton, HasByte, Walk}
use Rattle.marked_automaton.specs.Reach.{IsFlagged}
use Rattle.marked_automaton.proofs.Flags.{set_cases, set_here, set_there}
use Rattle.marked_automaton.proofs.Listed.{some_same}

module _ {X : Type 0} (P : X → Type 0) (place : X → ℕ) where
  module _ (xs : List X) (flags : List Bool) (i : ℕ) (x : X) (within : i < length xs) (at : get_or xs i x ≡ x) (so_far : Gathers P place (take i xs) flags) where
    pub gathers_set : P x → place x < length flags → Gathers P place (take (i + 1) xs) (set flags (place x) true)
    gathers_set holds inside p = (there, back)
      where
        there : IsFlagged (set flags (place x) true) p → (y : X) × Has (take (i + 1) xs) y × (place y ≡ p) × P y
        there h =
            elim (set_cases flags (place x) p h) as (λ _. (y : X) × Has (take (i + 1) xs) y × (place y ≡ p) × P y) [
              | inl a ↦ let r = (so_far p).0 a in (r.0, Has-take_more_before xs i r.0 within r.1, r.2, r.3)
              | inr e ↦ (x, Has-take_more_here xs i x x within at, sym e, holds)
            ]

        back : (y : X) × Has (take (i + 1) xs) y × (place y ≡ p) × P y → IsFlagged (set flags (place x) true) p
        back h =
            elim (Has-take_more_cases xs i x h.0 within h.1) as (λ _. IsFlagged (set flags (place x) true) p) [
              | inl a ↦ set_there flags (place x) p ((so_far p).1 (h.0, a, h.2, h.3))
              | inr e ↦
                  let same : place x ≡ p = ap place (sym at ∙ e) ∙ h.2 in
                  subst (IsFlagged (set flags (place x) true)) same (set_here flags (place x) inside)
            ]

    pub gathers_kept : (P x → ⊥) → Gathers P place (take (i + 1) xs) flags
    gathers_kept not p = (
      (λ h. let r = (so_far p).0 h in (r.0, Has-take_more_before xs i r.0 within r.1, r.2, r.3)),
      (λ h. elim (Has-take_more_cases xs i x h.0 within h.1) as (λ _. IsFlagged flags p) [
        | inl a ↦ (so_far p).1 (h.0, a, h.2, h.3)
        | inr e ↦ absurd (not (subst P (sym (sym at ∙ e)) h.3))
      ]),
    )

-- one position before
pub accepts_before : (ways : List Way) (stops : List Stop) (d : List ℕ) (w : ℕ → ℕ) (marks byte i j : ℕ) (good flags : List Bool) → marks ≡ w i → slice_get d i ≡ Some byte →
    i < length d → j ≡ suc i → ((p : ℕ) → IsFlagged good p ↔ AcceptsFrom ways stops d w j p) →
    Gathers (Takes marks byte good) (λ (y : Way). y.from) ways flags → (p : ℕ) → IsFlagged flags p ↔ AcceptsFrom ways stops d w i p
accepts_before ways stops d w marks byte i j good flags same at within next so_far g p = (there, back)
  where
    more : suc (length d - j) ≡ length d - i
    more = omega arith

    there : IsFlagged flags p → AcceptsFrom ways stops d w i p
    there h =
        let r = (g p).0 h in
        let t = r.3 in
        let rest = (so_far r.0.to).0 t.good in
        let walk = subst (λ k. Walk ways d w k (length d - j) r.0.to rest.0.state) next rest.2 in (
          rest.0,
          rest.1,
          subst (λ n. Walk ways d w i n p rest.0.state) more (r.0, r.1, r.2, t.marks ∙ same, (byte, at, t.byte), walk),
          rest.3,
        )

    back : AcceptsFrom ways stops d w i p → IsFlagged flags p
    back h =
        let walk : Walk ways d w i (suc (length d - j)) p h.0.state = subst (λ n. Walk ways d w i n p h.0.state) (sym more) h.2 in
        let y = walk.0 in
        let reads = walk.4 in
        let same_byte : reads.0 ≡ byte = some_same reads.0 byte (sym reads.1 ∙ at) in
        let rest = subst (λ k. Walk ways d w k (length d - j) y.to h.0.state) (sym next) walk.5 in
        (g p).1 (
          y,
          walk.1,
          walk.2,
          record {
            marks = walk.3 ∙ sym same;
            byte = subst (HasByte y.bytes) same_byte reads.2;
            good = (so_far y.to).1 (h.0, h.1, rest, h.3);
          },
        )

-- no marker stands past the spans
no_markers : (v k at : ℕ) (row : List (Option Span)) → ((j : ℕ) (s : Span) → slice_get row j ≡ Some (Some s) → (s.start < at) × (s.end < at)) → markers_from v k row at ≡ 0
no_markers v k at [] below = refl
no_markers v k at (None ∷ row) below = omega (arith, no_markers v (k + 1) at row (λ j s e. below (suc j) s e))
no_markers v k at (Some s ∷ row) below =
    let here = below 0 s refl in
    let start : (s.start == at) ≡ false = ne_eqb s.start at (λ e. omega (arith, here.0, e)) in
    let end : (s.end == at) ≡ false = ne_eqb s.end at (λ e. omega (arith, here.1, e)) in
    let opens : marker (opening_bit v k) s.start at ≡ 0 = ap (λ b. if b then 2 ^ opening_bit v k else 0) start in
    let closes : marker (closing_bit v k) s.end at ≡ 0 = ap (λ b. if b then 2 ^ closing_bit v k else 0) end in
    omega (arith, opens, closes, no_markers v (k + 1) at row (λ j s e. below (suc j) s e))

pub no_block : (at : ℕ) (row : List (Option Span)) → ((j : ℕ) (s : Span) → slice_get row j ≡ Some (Some s) → (s.start < at) × (s.end < at)) → block row at ≡ 0
no_block at row below = no_markers (length row) 0 at row below

-- from some start
pub accepts_is : (A : Automaton) (d : List ℕ) (w : ℕ → ℕ) (starts : List ℕ) (good flags : List Bool) (ways : List Way) (stops : List Stop) (r : Bool) → starts ≡ A.starts →
    flags ≡ good → ways ≡ A.ways → stops ≡ A.stops → ((p : ℕ) → IsFlagged good p ↔ AcceptsFrom ways stops d w 0 p) →
    IsTrue r ↔ ((p : ℕ) × Has starts p × IsFlagged flags p) → IsTrue r ↔ Accepts A d w
accepts_is A d w starts good flags ways stops r a b c e exactly answer = (there, back)
  where
    all : length d - 0 ≡ length d
    all = omega arith

    there : IsTrue r → Accepts A d w
    there h =
        let p = answer.0 h in
        let f = (exactly p.0).0 (subst (λ (x : List Bool). IsFlagged x p.0) b p.2) in
        let walk = subst (λ n. Walk ways d w 0 n p.0 f.0.state) all f.2 in
        (p.0, f.0, subst (λ (x : List ℕ). Has x p.0) a p.1, subst (λ (x : List Stop). Has x f.0) e f.1, subst (λ (x : List Way). Walk x d w 0 (length d) p.0 f.0.state) c walk, f.3)

    back : Accepts A d w → IsTrue r
    back h =
        let walk = subst (λ (x : List Way). Walk x d w 0 (length d) h.0 h.1.state) (sym c) h.4 in
        let f = (exactly h.0).1 (h.1, subst (λ (x : List Stop). Has x h.1) (sym e) h.3, subst (λ n. Walk ways d w 0 n h.0 h.1.state) (sym all) walk, h.5) in
        answer.1 (h.0, subst (λ (x : List ℕ). Has x h.0) (sym a) h.2, subst (λ (x : List Bool). IsFlagged x h.0) (sym b) f)
