-- Reading a reduct costs no more.
use Rattle.std.proofs.Common.{◌+◌, ◌≤◌, arith}
use Rattle.std.proofs.Math.Nat.{mul-le-mul}
use Rattle.marked_automaton.specs.Automaton.{size}
use Rattle.automaton_reading.proofs.MeasureLaws.{reduct_measures}
use Rattle.marked_automaton.proofs.Sizes.{reduct_is_no_larger}
use Rattle.spanner_engine.specs.Laws.{ReductCosts}

pub reduct_costs : ReductCosts
reduct_costs A B marked r d K =
    let m = reduct_measures A.graph B r d K in
    let sizes : size A.graph ≤ size B =
    (let s = reduct_is_no_larger A.graph B marked.whole marked.some_byte r in omega (arith, s.0, s.1, s.2)) in
    let one : 1 + size A.graph ≤ 1 + size B = omega (arith, sizes) in
    let rows = mul-le-mul m.1 one in
    record { sizes = sizes; edges = m.0; weights = m.2; steps = omega (arith, m.0, rows) }
