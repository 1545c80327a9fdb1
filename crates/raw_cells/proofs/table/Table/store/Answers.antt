use Rattle.std.proofs.Common.{◌<◌, ◌/◌, ◌%◌, length, get_or, sym, ap, subst, ◌∙◌}
use Rattle.raw_cells.specs.Spots.{Bare, Full, Link}
use Rattle.raw_cells.proofs.Told.{full_in, link_in, there, row_is, rows_with, told_set}
use Rattle.raw_cells.proofs.table.Table.store.Goals as goal

pub store-requires-clause-origin : goal.store-requires-clause-origin
store-requires-clause-origin g c =
    let u = c.self.inside in let v = c.args.self.now in let n = c.args.number in let d = c.index_mut.result.now in let at = c.index_mut.ensures.value in
    let lt = there u.chunks.items v n c.self.view_is (c.requires) in
    c.origin_at-origin.ensures ∙ c.self.invariant.told (n % 32) d lt ∙ ap (λ b. b.0) (sym at)

pub store-requires-clause-place : goal.store-requires-clause-place
store-requires-clause-place g c =
    let u = c.self.inside in let v = c.args.self.now in let n = c.args.number in let d = c.index_mut.result.now in let at = c.index_mut.ensures.value in
    let lt = there u.chunks.items v n c.self.view_is (c.requires) in
    subst (λ r. n / 32 < length r) (row_is u.chunks.items v n d c.self.view_is lt at) c.requires

pub invariant_of-self : goal.invariant_of-self
invariant_of-self g c =
    let u = c.self.inside in let v = c.args.self.now in let n = c.args.number in let d = c.index_mut.result.now in let at = c.index_mut.ensures.value in
    let lt = there u.chunks.items v n c.self.view_is (c.requires) in
    told_set _ _ u.chunks.items (n % 32) d c.store.new.self c.self.invariant lt at c.store.ensures.origin

pub returns : goal.returns
returns g c =
    let u = c.self.inside in let v = c.args.self.now in let n = c.args.number in let d = c.index_mut.result.now in let at = c.index_mut.ensures.value in
    let lt = there u.chunks.items v n c.self.view_is (c.requires) in
    rows_with u.chunks.items v n d c.store.new.self (Full c.args.value) c.self.view_is lt at c.store.ensures.cells
