-- The automaton of an atom has no way, end or idle state but of its own states.
use Rattle.std.proofs.Common.{◌≡◌, ℕ, suc, ◌+◌, ◌<◌, List, [], ◌∷◌, ◌++◌, Bool, true, false, inl, inr, refl, ap, arith}
use Rattle.std.specs.Prelude.{map, if◌then◌else◌}
use Rattle.span_core.specs.Lists.{Has}
use Rattle.marked_automaton.specs.declared.way.Way.{Way}
use Rattle.marked_automaton.specs.declared.way.Stop.{Stop}
use Rattle.marked_automaton.specs.Automaton.{IsWhole, idle_way}
use Rattle.place_automaton.specs.Places.{Places, placed}
use Rattle.place_automaton.specs.Atom.{way_from_first, way_after, stop_before, unless, place_stops, after_ways, automaton_of_places}
use Rattle.place_automaton.specs.Words.{WholeLaw, opening_of, closing_of}
use Rattle.span_core.proofs.HasLaws.{Has-append_cases, Has-map_cases}
use Rattle.place_automaton.proofs.Ranges.{LiesFrom, places_lie}

pub unless_cases : {X : Type 0} (b : Bool) (xs : List X) (x : X) → Has (unless b xs) x → (b ≡ false) × Has xs x
unless_cases true xs x h = absurd h
unless_cases false xs x h = (refl, h)

module _ (s t : Bool) (P : Places) (lies : LiesFrom 1 P) where
  abbrev S : ℕ
  S = 1 + P.count + (if t then 0 else 1)

  after_is : t ≡ false → suc P.count < S
  after_is e = let more : Bool → ℕ = λ b. if b then 0 else 1 in let f : more t ≡ more false = ap more e in omega (arith, f)

  place_stop : (x : Stop) → Has (place_stops P) x → x.state < S
  place_stop x h =
      elim (Has-append_cases P.last (map stop_before P.null) x h) [
        | inl a ↦ omega (arith, (lies.lasts x a).1)
        | inr b ↦ let r = Has-map_cases stop_before P.null x b in omega (arith, ap (λ (g : Stop). g.state) r.2)
      ]

  -- from and to
  abbrev Inside : Way → Type 0
  Inside y = (y.from < S) × (y.to < S)

  way_inside : (y : Way) → Has (automaton_of_places s t P).ways y → Inside y
  way_inside y h =
      let outs = unless t (after_ways (suc P.count) P) in
      elim (Has-append_cases P.follow (map way_from_first P.first ++ (unless s (idle_way 0 ∷ []) ++ outs)) y h) [
        | inl f ↦ (omega (arith, (lies.froms y f).1), omega (arith, (lies.tos y f).1))
        | inr b ↦ elim (Has-append_cases (map way_from_first P.first) (unless s (idle_way 0 ∷ []) ++ outs) y b) [
          | inl a ↦ let r = Has-map_cases way_from_first P.first y a in
              let from = ap (λ (g : Way). g.from) r.2 in let to = ap (λ (g : Way). g.to) r.2 in (omega (arith, from), omega (arith, to, (lies.firsts r.0 r.1).1))
          | inr c ↦ elim (Has-append_cases (unless s (idle_way 0 ∷ [])) outs y c) [
            | inl a ↦ elim (unless_cases s (idle_way 0 ∷ []) y a).1 [
              | inl e ↦ let from = ap (λ (g : Way). g.from) e in let to = ap (λ (g : Way). g.to) e in (omega (arith, from), omega (arith, to))
              | inr b ↦ absurd b
            ]
            | inr u ↦ let r = unless_cases t (after_ways (suc P.count) P) y u in
                let there = after_is r.0 in
                elim r.1 [
                  | inl e ↦ let from = ap (λ (g : Way). g.from) e in let to = ap (λ (g : Way). g.to) e in (omega (arith, from, there), omega (arith, to, there))
                  | inr m ↦ let q = Has-map_cases (way_after (suc P.count)) (place_stops P) y m in
                      let from = ap (λ (g : Way). g.from) q.2 in let to = ap (λ (g : Way). g.to) q.2 in (omega (arith, from, place_stop q.0 q.1), omega (arith, to, there))
                ]
          ]
        ]
      ]

  pub whole_of_places : IsWhole (automaton_of_places s t P)
  whole_of_places = record {
    starts = λ p h. elim h [ inl e ↦ omega (arith, e) | inr b ↦ absurd b ];
    froms = λ y h. (way_inside y h).0;
    tos = λ y h. (way_inside y h).1;
    stops = λ x h. elim (Has-append_cases (place_stops P) (unless t (record { state = suc P.count; marks = 0 } ∷ [])) x h) [
      | inl a ↦ place_stop x a
      | inr u ↦ let r = unless_cases t (record { state = suc P.count; marks = 0 } ∷ []) x u in
          elim r.1 [ inl e ↦ omega (arith, after_is r.0, ap (λ (g : Stop). g.state) e) | inr b ↦ absurd b ]
    ];
    idles = λ p h. elim (Has-append_cases (unless s (0 ∷ [])) (unless t (suc P.count ∷ [])) p h) [
      | inl a ↦ elim (unless_cases s (0 ∷ []) p a).1 [ inl e ↦ omega (arith, e) | inr b ↦ absurd b ]
      | inr u ↦ let r = unless_cases t (suc P.count ∷ []) p u in
          elim r.1 [ inl e ↦ omega (arith, after_is r.0, e) | inr b ↦ absurd b ]
    ];
  }

pub whole_law : WholeLaw
whole_law names a = whole_of_places a.from_start a.to_end (placed (opening_of names) (closing_of names) a.formula 1) (places_lie (opening_of names) (closing_of names) a.formula 1)
