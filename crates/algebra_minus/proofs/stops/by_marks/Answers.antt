use Rattle.std.proofs.Common.{◌≡◌, ℕ, length, refl, ap, arith, rules, ◌∙◌}
use Rattle.std.proofs.lemmas.Fn.{always_returns_same}
use Rattle.std.proofs.lemmas.List.{take_all}
use Rattle.std.proofs.lemmas.List.Sorted.{IsNonDecreasingBy-from_sort_by_key, length_permutation}
use Rattle.marked_automaton.specs.declared.way.Stop.{Stop}
use Rattle.algebra.proofs.Stable.{rows_stay}
use Rattle.algebra_minus.specs.Found.{stop_marks}
use Rattle.algebra_minus.proofs.stops.by_marks.Goals as goal

pub returns-clause-order : goal.returns-clause-order
returns-clause-order c = IsNonDecreasingBy-from_sort_by_key stop_marks _ c.in_ok-sort_by_key.ensures.sorted (λ a r q k. search rules)

abbrev with_marks : ℕ → Stop
with_marks m = record { state = 0; marks = m }

pub returns-clause-rows : goal.returns-clause-rows
returns-clause-rows c =
    let old = c.loop-stop.sorted.items in
    let new = c.sort_by_key.new.self.items in
    let is : old ≡ c.args.stops.now = c.loop-stop.invariant ∙ take_all c.loop-stop.stop-index c.args.stops.now (omega (arith, c.loop-stop-test.false)) in
    rw (← is)
    (rows_stay stop_marks with_marks (λ m. refl) old new
    (c.sort_by_key.ensures.stable stop_marks (always_returns_same _ (λ a r. r ≡ stop_marks a.0.now) _ (λ a r q k. search rules))))

pub returns-clause-long : goal.returns-clause-long
returns-clause-long c =
    let old = c.loop-stop.sorted.items in
    let new = c.sort_by_key.new.self.items in
    let is : old ≡ c.args.stops.now = c.loop-stop.invariant ∙ take_all c.loop-stop.stop-index c.args.stops.now (omega (arith, c.loop-stop-test.false)) in
    omega (arith, length_permutation old new c.sort_by_key.ensures.permutation, ap length is)
