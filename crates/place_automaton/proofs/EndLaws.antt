-- When the ends of an atom are refused.
use Rattle.std.proofs.Common.{◌≡◌, ℕ, ◌+◌, ◌<◌, ◌≤◌, Bool, true, false, [], length, refl, ap, ◌∙◌, arith}
use Rattle.spanner_model.specs.Expression.{AtomTree}
use Rattle.marked_automaton.specs.declared.TheConstants.{MOST_WAYS}
use Rattle.place_automaton.specs.declared.TheConstants.{MOST_ENDS}
use Rattle.place_automaton.specs.declared.fault.AtomFault.TheVariants.{Ends}
use Rattle.place_automaton.specs.Capped.{capped}
use Rattle.place_automaton.specs.Counts.{PlaceCounts, counts_over, ways_of}
use Rattle.place_automaton.specs.Refusals.{IsAtomRefusal}
use Rattle.place_automaton.specs.Variables.{with_vars}
use Rattle.place_automaton.proofs.CountLaws.{all_ends}

module _ (a : AtomTree) where
  abbrev counted : PlaceCounts
  counted = counts_over (with_vars [] a.formula) a.formula

  -- where the ways are not too many
  pub ends_refused : (ways ends : ℕ) → ways ≡ capped (ways_of a.from_start a.to_end counted) → ways ≤ MOST_WAYS →
      ends ≡ capped (counted.last + length counted.null) → MOST_ENDS < ends → IsAtomRefusal a (Ends ends)
  ends_refused ways ends w few e many = (tied a.to_end refl, many, omega (arith, e, all_ends a))
    where
      -- an atom that is not tied to the end has a way for each of its ends
      tied : (t : Bool) → a.to_end ≡ t → a.to_end ≡ true
      tied true at = at
      tied false at =
          let all : ways ≡ capped (ways_of a.from_start false counted) = w ∙ ap (λ t. capped (ways_of a.from_start t counted)) at in
          let most_ways : MOST_WAYS ≡ 2000000 = refl in
          let most_ends : MOST_ENDS ≡ 8000000 = refl in
          absurd (omega (arith, all, few, e, many, most_ways, most_ends))
