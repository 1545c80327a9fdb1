use Rattle.std.proofs.Common.{◌≡◌, ℕ, refl, arith, rules, ◌∙◌}
use Rattle.std.specs.FinSet as set
use Rattle.std.proofs.lemmas.Fn.{always_returns_same}
use Rattle.std.proofs.lemmas.List.{take_all}
use Rattle.std.proofs.lemmas.List.Sorted.{IsNonDecreasingBy-from_sort_by_key}
use Rattle.marked_automaton.specs.declared.way.Way.{Way}
use Rattle.algebra.proofs.Stable.{rows_stay}
use Rattle.algebra_minus.specs.Pieces.{way_marks}
use Rattle.algebra_minus.proofs.rows.by_marks.Goals as goal

pub returns-clause-order : goal.returns-clause-order
returns-clause-order c = IsNonDecreasingBy-from_sort_by_key way_marks _ c.in_ok-sort_by_key.ensures.sorted (λ a r q k. search rules)

abbrev with_marks : ℕ → Way
with_marks m = record { from = 0; marks = m; bytes = set.empty; to = 0 }

pub returns-clause-rows : goal.returns-clause-rows
returns-clause-rows c =
    let old = c.loop-way.sorted.items in
    let new = c.sort_by_key.new.self.items in
    let is : old ≡ c.args.ways.now = c.loop-way.invariant ∙ take_all c.loop-way.way-index c.args.ways.now (omega (arith, c.loop-way-test.false)) in
    rw (← is)
    (rows_stay way_marks with_marks (λ m. refl) old new
    (c.sort_by_key.ensures.stable way_marks (always_returns_same _ (λ a r. r ≡ way_marks a.0.now) _ (λ a r q k. search rules))))
