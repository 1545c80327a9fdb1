use Rattle.std.proofs.Common.{ℕ, ◌*◌, List, take, ap, ◌∙◌}
use Rattle.set_table.specs.Spread.{spread}
use Rattle.set_table.proofs.SpreadLaws.{spread_cut}
use Rattle.set_table.proofs.index.Index.truncate.Goals as goal

pub returns : goal.returns
returns c =
    let i = c.self.inside in
    ap (λ (v : List ℕ). spread v i.numbers.items) c.truncate.ensures.items ∙ (spread_cut i.runs.items i.numbers.items c.args.runs c.self.invariant ∙ ap (take (16 * c.args.runs)) c.self.view_is)
