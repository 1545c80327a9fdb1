use Rattle.std.proofs.Common.{◌≡◌, ℕ, ◌+◌, length, subst, arith}
use Rattle.one_pass.specs.Passes.{IsOpen}
use Rattle.one_pass.proofs.OpenLaws.{open_first}
use Rattle.check_readings.proofs.pieces.lists_by.Goals as goal

pub advance-requires-clause-open : goal.advance-requires-clause-open
advance-requires-clause-open g c =
    let e = c.in_ok-graph.ensures in
    open_first c.start.ensures.tabled c.start.ensures.zero e.sources e.targets e.begun.0

pub advance-requires-2-clause-open : goal.advance-requires-2-clause-open
advance-requires-2-clause-open g c =
    let n = length c.args.pieces.0.now in
    let at : 0 + n ≡ n = omega arith in
    subst (λ (k : ℕ). IsOpen c.advance.new.table c.in_ok-graph-2.graph k) at c.in_ok-graph-2.ensures.open
