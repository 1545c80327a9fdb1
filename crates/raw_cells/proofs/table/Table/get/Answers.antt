use Rattle.std.proofs.Common.{◌%◌, sym, ap, ◌∙◌}
use Rattle.raw_cells.proofs.Told.{full_in, there}
use Rattle.raw_cells.proofs.table.Table.get.Goals as goal

pub get-requires-clause-origin : goal.get-requires-clause-origin
get-requires-clause-origin g c =
    let u = c.self.inside in let n = c.args.number in let d = c.index.result.now in
    c.origin_at-origin.ensures ∙ c.self.invariant.told (n % 32) d (there u.chunks.items c.args.self.now n c.self.view_is (full_in c.args.self.now n c.requires)) ∙ ap (λ b. b.0) (sym c.index.ensures)
