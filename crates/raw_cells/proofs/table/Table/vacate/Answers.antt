use Rattle.std.proofs.Common.{◌<◌, ◌/◌, ◌%◌, length, get_or, sym, ap, subst, ◌∙◌}
use Rattle.raw_cells.specs.Spots.{Bare, Full, Link}
use Rattle.raw_cells.proofs.Told.{full_in, link_in, there, row_is, rows_with, told_set}
use Rattle.raw_cells.proofs.table.Table.vacate.Goals as goal

pub vacate-requires-clause-origin : goal.vacate-requires-clause-origin
vacate-requires-clause-origin g c =
    let u = c.self.inside in let v = c.args.self.now in let n = c.args.number in let d = c.index_mut.result.now in let at = c.index_mut.ensures.value in
    let lt = there u.chunks.items v n c.self.view_is (full_in v n c.requires) in
    c.origin_at-origin.ensures ∙ c.self.invariant.told (n % 32) d lt ∙ ap (λ b. b.0) (sym at)

pub vacate-requires-clause-full : goal.vacate-requires-clause-full
vacate-requires-clause-full g c =
    let u = c.self.inside in let v = c.args.self.now in let n = c.args.number in let d = c.index_mut.result.now in let at = c.index_mut.ensures.value in
    let lt = there u.chunks.items v n c.self.view_is (full_in v n c.requires) in
    (c.requires.0, ap (λ r. get_or r (n / 32) Bare) (sym (row_is u.chunks.items v n d c.self.view_is lt at)) ∙ c.requires.1)

pub invariant_of-self : goal.invariant_of-self
invariant_of-self g c =
    let u = c.self.inside in let v = c.args.self.now in let n = c.args.number in let d = c.index_mut.result.now in let at = c.index_mut.ensures.value in
    let lt = there u.chunks.items v n c.self.view_is (full_in v n c.requires) in
    told_set _ _ u.chunks.items (n % 32) d c.vacate.new.self c.self.invariant lt at c.vacate.ensures.origin

pub returns-clause-value : goal.returns-clause-value
returns-clause-value g c =
    let u = c.self.inside in let v = c.args.self.now in let n = c.args.number in let d = c.index_mut.result.now in let at = c.index_mut.ensures.value in
    let lt = there u.chunks.items v n c.self.view_is (full_in v n c.requires) in
    ap (λ r. get_or r (n / 32) Bare) (row_is u.chunks.items v n d c.self.view_is lt at) ∙ c.vacate.ensures.value

pub returns-clause-cells : goal.returns-clause-cells
returns-clause-cells g c =
    let u = c.self.inside in let v = c.args.self.now in let n = c.args.number in let d = c.index_mut.result.now in let at = c.index_mut.ensures.value in
    let lt = there u.chunks.items v n c.self.view_is (full_in v n c.requires) in
    rows_with u.chunks.items v n d c.vacate.new.self (Link c.args.next) c.self.view_is lt at c.vacate.ensures.cells
