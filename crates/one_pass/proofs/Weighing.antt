-- A table that tells the look-ups of a reading weighs no less than what has to be held of it.
use Rattle.std.proofs.Common.{◌≡◌, ℕ, ◌+◌, ◌≤◌, Bool, true, List, length, map, inl, inr, ap, subst, sym, arith, ◌∙◌}
use Rattle.std.specs.Prelude.{not}
use Rattle.std.specs.List.{filter, sum_by}
use Rattle.std.specs.Str.{bytes_eq}
use Rattle.span_core.specs.Lists.{Has}
use Rattle.span_core.proofs.HasLaws.{Has-map_cases}
use Rattle.marked_automaton.specs.Automaton.{Automaton}
use Rattle.marked_automaton.proofs.Passing.{filter_cases}
use Rattle.automaton_reading.specs.Reading.{LookUp, once, look_up_edges, look_up_same}
use Rattle.automaton_reading.proofs.Matching.{has_once, once_distinct}
use Rattle.automaton_reading.proofs.MeasureLaws.{bytes_itself, look_up_itself, same_bytes, same_look_up}
use Rattle.set_table.specs.Tabled.{IsTabled, Tabled, look_ups_weight, sets_weight}
use Rattle.one_pass.specs.Weights.{Tells, leads_back, least_weight}
use Rattle.one_pass.proofs.Sets.{Covers, sum_covers}

-- the look-ups that have to be held
abbrev going_on : Automaton → List LookUp → List LookUp
going_on A look_ups = filter (λ (r : LookUp). not (leads_back A r)) look_ups

module _ (t : Tabled) (tabled : IsTabled t) (look_ups : List LookUp) (tells : (r : LookUp) → Has look_ups r → Tells t r) where
  abbrev sets : List (List ℕ)
  sets = map (λ (r : LookUp). r.set) look_ups

  -- the sets of the look-ups are there
  sets_held : Covers t.sets sets
  sets_held set h =
      let r = Has-map_cases (λ (r : LookUp). r.set) look_ups set h in
      subst (Has t.sets) r.2 (tells r.0 r.1).set

  -- and the look-ups, but those that lead back
  look_ups_held : Covers t.look_ups (going_on t.graph look_ups)
  look_ups_held r h =
      let f = filter_cases (λ (r : LookUp). not (leads_back t.graph r)) look_ups r h in
      elim (tells r f.0).answer as (λ _. Has t.look_ups r) [
        | inl held ↦ held
        | inr back ↦ absurd (not_both (leads_back t.graph r) back f.1)
      ]
    where
      not_both : (v : Bool) → v ≡ true → not v ≡ true → ⊥
      not_both v is other = differ (sym (ap not is) ∙ other)
        where
          differ : not true ≡ true → ⊥
          differ e = cc

  sets_less : sum_by (λ set. 1 + length set) (once bytes_eq sets) ≤ sets_weight t.sets
  sets_less =
      sum_covers (λ (set : List ℕ). 1 + length set) t.sets (once bytes_eq sets) (once_distinct bytes_eq same_bytes bytes_itself sets)
      (λ set h. sets_held set (has_once bytes_eq same_bytes bytes_itself sets set h))

  look_ups_less : sum_by (λ r. 1 + look_up_edges t.graph r) (once look_up_same (going_on t.graph look_ups)) ≤ look_ups_weight t.graph t.look_ups
  look_ups_less =
      sum_covers (λ (r : LookUp). 1 + look_up_edges t.graph r) t.look_ups (once look_up_same (going_on t.graph look_ups))
      (once_distinct look_up_same same_look_up look_up_itself (going_on t.graph look_ups))
      (λ r h. look_ups_held r (has_once look_up_same same_look_up look_up_itself (going_on t.graph look_ups) r h))

  pub told_weighs : least_weight t.graph look_ups ≤ t.limit
  told_weighs = omega (arith, sets_less, look_ups_less, tabled.within)
