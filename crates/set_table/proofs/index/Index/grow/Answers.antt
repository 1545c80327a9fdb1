use Rattle.std.proofs.Common.{ℕ, ◌*◌, ◌≤◌, List, length, sym, ap, subst, arith, ◌∙◌}
use Rattle.set_table.specs.Answered.{with_places}
use Rattle.set_table.specs.Spread.{IsSpread, spread}
use Rattle.set_table.proofs.SpreadLaws.{are_within, grown_items, grown_spread, spread_grown, spread_length}
use Rattle.set_table.proofs.index.Index.grow.Goals as goal

pub invariant_of-self-2 : goal.invariant_of-self-2
invariant_of-self-2 c =
    let i = c.self.inside in
    let n = c.args.runs in
    let l : length (spread i.runs.items i.numbers.items) ≤ 16 * n = subst (λ (v : List ℕ). length v ≤ 16 * n) (sym c.self.view_is) c.requires in
    let few : length i.runs.items ≤ n = omega (arith, l, spread_length i.runs.items i.numbers.items (are_within i.runs.items i.numbers.items c.self.invariant)) in
    subst (λ (v : List ℕ). IsSpread v i.numbers.items)
    (sym (grown_items i.runs.items c.resize.new.self.items n _ i.runs.ok.0 few c.in_ok-resize.ensures.items)) (grown_spread i.runs.items i.numbers.items n c.self.invariant)

pub returns-clause-grown : goal.returns-clause-grown
returns-clause-grown c =
    let i = c.self.inside in
    let n = c.args.runs in
    let l : length (spread i.runs.items i.numbers.items) ≤ 16 * n = subst (λ (v : List ℕ). length v ≤ 16 * n) (sym c.self.view_is) c.requires in
    let few : length i.runs.items ≤ n = omega (arith, l, spread_length i.runs.items i.numbers.items (are_within i.runs.items i.numbers.items c.self.invariant)) in
    ap (λ (v : List ℕ). spread v i.numbers.items) (grown_items i.runs.items c.resize.new.self.items n _ i.runs.ok.0 few c.in_ok-resize.ensures.items)
    ∙ (spread_grown i.runs.items i.numbers.items n c.self.invariant few ∙ ap (with_places (16 * n)) c.self.view_is)
