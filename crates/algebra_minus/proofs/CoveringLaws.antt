-- States that cover others.
use Rattle.std.proofs.Common.{◌≡◌, ℕ, zero, suc, ◌+◌, ◌-◌, ◌<◌, ◌⊎◌, Bool, true, false, List, [], ◌∷◌, ◌++◌, length, take, inl, inr, refl, sym, ap, subst, ◌∙◌, arith, length-append}
use Rattle.std.specs.Prelude.{get_or, nat_eq, slice_get, Some}
use Rattle.std.specs.List.{flat_map}
use Rattle.std.specs.FinSet as set
use Rattle.std.proofs.lemmas.Bool.{eq-eqb, eqb-true}
use Rattle.std.proofs.lemmas.List.{append-nil, flat_map_more, take_more}
use Rattle.span_core.specs.Lists.{Has}
use Rattle.span_core.proofs.HasLaws.{Has-append_cases, Has-append_left, Has-take_more_cases, Has-take_more_here}
use Rattle.marked_automaton.specs.declared.way.Way.{Way}
use Rattle.marked_automaton.specs.Automaton.{ByteClass, HasByte, ways_from}
use Rattle.marked_automaton.proofs.Listed.{some_same}
use Rattle.marked_automaton.proofs.Passing.{filter_cases, flat_map_cases, has_filter, has_flat_map}
use Rattle.algebra.specs.Pairs.{HaveSameRows}
use Rattle.algebra.proofs.Bytes.{meet_right}
use Rattle.algebra.proofs.ReductUnions.{get_append_cases}
use Rattle.algebra_minus.specs.Pieces.{LeadAlike, SomeWayLeads, way_marks, ways_of, ways_with}
use Rattle.algebra_minus.specs.Rights.{AreCovering, AreFromMember, Covers, IsPassed, LeadWithin, LeadsAs}
use Rattle.algebra_minus.proofs.KnownLaws.{alike_same, get_at}
use Rattle.algebra_minus.proofs.PieceLaws.{in_or_out, no_byte}

-- bytes of which none is missing
pub has_all : (a b : ByteClass) → set.difference a b ≡ set.empty → (c : ℕ) → HasByte a c → HasByte b c
has_all a b none c h = elim (in_or_out a b c h) as (λ _. HasByte b c) [
  | inl m ↦ meet_right a b c m
  | inr d ↦ absurd (no_byte c (rw (← none) d))
]

-- one way more of a row
pub within_more : (row ways : List Way) (i : ℕ) (x : Way) → i < length row → x ≡ get_or row i x → LeadWithin (take i row) ways → ((y : Way) × Has ways y × LeadsAs y x) →
    LeadWithin (take (i + 1) row) ways
within_more row ways i x l is before now z h = elim (Has-take_more_cases row i x z l h) as (λ _. (y : Way) × Has ways y × LeadsAs y z) [
  | inl a ↦ before z a
  | inr e ↦ subst (λ v. (y : Way) × Has ways y × LeadsAs y v) (is ∙ e) now
]

-- a state from which each way leads as one from q does
pub covered_by : (ways : List Way) (q p : ℕ) → LeadWithin (ways_from ways p) (ways_from ways q) → Covers ways q p
covered_by ways q p within m c t w =
    let from = filter_cases (λ (y : Way). nat_eq y.from p) (ways_with m ways) w.0 w.1 in
    let with = filter_cases (λ (y : Way). nat_eq y.marks m) ways w.0 from.0 in
    let y = within w.0 (has_filter (λ (y : Way). nat_eq y.from p) ways w.0 with.0 from.1) in
    let there = filter_cases (λ (y : Way). nat_eq y.from q) ways y.0 y.1 in
    let same : Has (ways_with m ways) y.0 = has_filter (λ (y : Way). nat_eq y.marks m) ways y.0 there.0 (eq-eqb y.0.marks m (y.2.marks ∙ eqb-true w.0.marks m with.1)) in
    (y.0, has_filter (λ (y : Way). nat_eq y.from q) (ways_with m ways) y.0 same there.1, y.2.bytes c w.2, y.2.to ∙ w.3)

pub covered_rows : (ways next row : List Way) (q p : ℕ) → next ≡ ways_from ways p → row ≡ ways_from ways q → LeadWithin next row → Covers ways q p
covered_rows ways next row q p is at within = covered_by ways q p (subst (λ xs. LeadWithin xs (ways_from ways q)) is (subst (LeadWithin next) at within))

-- one state more is noted
pub covering_more : (ways : List Way) (noted : List Bool) (b : Bool) (state : ℕ) → length noted ≡ state → AreCovering ways noted →
    (b ≡ true → Covers ways state (state + 1)) → AreCovering ways (noted ++ b ∷ [])
covering_more ways noted b state long are now q e = elim (get_append_cases noted (b ∷ []) q true e) as (λ _. Covers ways q (q + 1)) [
  | inl a ↦ are q a.1
  | inr h ↦ last h.0 h.1 h.2
]
  where
    last : (j : ℕ) → q ≡ length noted + j → slice_get (b ∷ []) j ≡ Some true → Covers ways q (q + 1)
    last zero at is =
        let here : q ≡ state = omega (arith, at, long) in
        rw here (now (some_same b true is))
    last (suc j) at is = absurd (cc)

pub noted_more : (noted new : List Bool) (b : Bool) (state : ℕ) → new ≡ noted ++ b ∷ [] → length noted ≡ state → length new ≡ state + 1
noted_more noted new b state e long = omega (arith, ap length e, length-append noted (b ∷ []), long)

-- a member behind the one before it
pub one_before : (n : ℕ) → (n ≡ 0 → ⊥) → (n - 1) + 1 ≡ n
one_before zero some = absurd (some refl)
one_before (suc n) some = omega arith

pub passed_at : (noted : List Bool) (members : List ℕ) (place before : ℕ) → before + 1 ≡ place → place < length members → get_or members place 0 ≡ get_or members before 0 + 1 →
    get_or members before 0 < length noted → get_or noted (get_or members before 0) false ≡ true → IsPassed noted members place
passed_at noted members place before at l next within is =
    let q = get_or members before 0 in (
      q,
      subst (λ k. Has (take k members) q) at (Has-take_more_here members before 0 q (omega (arith, at, l)) refl),
      get_at noted q false within ∙ ap Some is,
      get_at members place 0 l ∙ ap Some next,
    )

-- ways by their blocks
module _ (ways rights : List Way) (same : HaveSameRows way_marks rights ways) (m : ℕ) where
  abbrev f : ℕ → List Way
  f = ways_of rights m

  covers_here : (q p c t : ℕ) → Covers ways q p → SomeWayLeads (f p) c t → SomeWayLeads (f q) c t
  covers_here q p c t covers = subst (λ (ws : List Way). SomeWayLeads (ways_from ws p) c t → SomeWayLeads (ways_from ws q) c t) (sym (same m)) (covers m c t)

  passed_alike : (xs : List ℕ) (q p : ℕ) → Has xs q → Covers ways q p → LeadAlike (flat_map f xs) (flat_map f (xs ++ p ∷ []))
  passed_alike xs q p has covers c t = (
    (λ w.
        let k = flat_map_cases f xs w.0 w.1 in
        (w.0, has_flat_map f (xs ++ p ∷ []) k.0 w.0 (Has-append_left xs (p ∷ []) k.0 k.1) k.2, w.2, w.3)),
    (λ w.
        let k = flat_map_cases f (xs ++ p ∷ []) w.0 w.1 in
        elim (Has-append_cases xs (p ∷ []) k.0 k.1) as (λ _. SomeWayLeads (flat_map f xs) c t) [
          | inl i ↦ (w.0, has_flat_map f xs k.0 w.0 i k.2, w.2, w.3)
          | inr j ↦ elim j as (λ _. SomeWayLeads (flat_map f xs) c t) [
            | inl e ↦
                let v = covers_here q p c t covers (w.0, subst (λ x. Has (f x) w.0) (sym e) k.2, w.2, w.3) in
                (v.0, has_flat_map f xs q v.0 has v.1, v.2, v.3)
            | inr n ↦ absurd n
          ]
        ]),
  )

  front : (members : List ℕ) (k p : ℕ) → k < length members → slice_get members k ≡ Some p → take (k + 1) members ≡ take k members ++ p ∷ []
  front members k p l at = take_more members k p l ∙ ap (λ x. take k members ++ x ∷ []) (some_same (get_or members k p) p (sym (get_at members k p l) ∙ at))

  -- with the ways that are taken from a member, all lead as with those from it
  pub member_alike : (noted : List Bool) (row : List Way) (members : List ℕ) (k : ℕ) (now : List Way) → AreCovering ways noted → row ≡ ways_with m rights → k < length members →
      AreFromMember row noted members k now → LeadAlike (flat_map f (take k members) ++ now) (flat_map f (take (k + 1) members))
  member_alike noted row members k now are is l (inl h) =
      rw (h.0, append-nil (flat_map f (take k members)), front members k (h.1.0 + 1) l h.1.3) (passed_alike (take k members) h.1.0 (h.1.0 + 1) h.1.1 (are h.1.0 h.1.2))
  member_alike noted row members k now are is l (inr h) =
      let all : flat_map f (take k members) ++ now ≡ flat_map f (take (k + 1) members) =
      ap (λ ws. flat_map f (take k members) ++ ws) (h.2 ∙ ap (λ ws. ways_from ws h.0) is) ∙ (flat_map_more f [] (take k members) h.0 ∙ ap (flat_map f) (sym (front members k h.0 l h.1))) in
      rw all (alike_same (flat_map f (take (k + 1) members)))
