use Rattle.std.proofs.Common.{◌≡◌, ℕ, List, map, refl, ap, arith, rules, ◌∙◌}
use Rattle.std.proofs.lemmas.Fn.{always_returns_same}
use Rattle.std.proofs.lemmas.List.{take_all}
use Rattle.std.proofs.lemmas.List.Sorted.{IsNonDecreasingBy-from_sort_by_key}
use Rattle.algebra.specs.declared.halves.HalfStop.{HalfStop}
use Rattle.algebra.specs.Pairs.{HaveSameRows, half_at}
use Rattle.algebra.specs.Renaming.{half_stop}
use Rattle.algebra.proofs.Stable.{rows_stay}
use Rattle.algebra.proofs.halves.half_stops.Goals as goal

pub returns-clause-order : goal.returns-clause-order
returns-clause-order c = IsNonDecreasingBy-from_sort_by_key half_at _ c.in_ok-sort_by_key.ensures.sorted (λ a r q k. search rules)

abbrev at_number : ℕ → HalfStop
at_number p = record { stop = record { state = p; marks = 0 }; shared = 0 }

pub returns-clause-rows : goal.returns-clause-rows
returns-clause-rows c =
    let old = c.loop-stop.halves.items in
    let new = c.sort_by_key.new.self.items in
    let all = map (half_stop c.args.own.now c.args.shared.now) c.args.stops.now in
    let is : old ≡ all = c.loop-stop.invariant ∙
    ap (λ zs. map (half_stop c.args.own.now c.args.shared.now) zs) (take_all c.loop-stop.stop-index c.args.stops.now (omega (arith, c.loop-stop-test.false))) in
    rw (← is)
    (rows_stay half_at at_number (λ p. refl) old new
    (c.sort_by_key.ensures.stable half_at (always_returns_same _ (λ a r. r ≡ half_at a.0.now) _ (λ a r q k. search rules))))
