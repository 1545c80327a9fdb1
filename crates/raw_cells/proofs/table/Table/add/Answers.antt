use Rattle.std.proofs.Common.{◌*◌, ◌<◌, ◌≡◌, length, sym, ap, subst, ◌∙◌, arith, [], ◌∷◌, ◌++◌}
use Rattle.raw_cells.proofs.Told.{rows_of, rows_long, rows_push, told_same, told_push}
use Rattle.raw_cells.proofs.table.Table.add.Goals as goal

pub invariant_of-self : goal.invariant_of-self
invariant_of-self g c = told_same _ _ _ _ c.self.invariant (sym c.reserve.ensures.items)

pub returns-in_default-clause-refused : goal.returns-in_default-clause-refused
returns-in_default-clause-refused g c = ap rows_of c.reserve.ensures.items ∙ c.self.view_is

pub invariant_of-self-in_err-chunk : goal.invariant_of-self-in_err-chunk
invariant_of-self-in_err-chunk g c = told_same _ _ _ _ c.self.invariant (sym c.reserve.ensures.items)

pub bounds-self-inside-len : goal.bounds-self-inside-len
bounds-self-inside-len g c =
    let few = c.requires.few in
    omega (arith, c.len.ensures, c.reserve.new.self.ok.0, ap length c.reserve.ensures.items, ap length c.self.view_is, rows_long c.self.inside.chunks.items, few)

pub offset_bounds-self-inside-len : goal.offset_bounds-self-inside-len
offset_bounds-self-inside-len g c =
    let few = c.requires.few in
    let lt : c.len.result < 32 = omega (arith, c.len.ensures, c.reserve.new.self.ok.0, ap length c.reserve.ensures.items, ap length c.self.view_is, rows_long c.self.inside.chunks.items, few) in
    record { fits = omega arith }

pub invariant_of-self-2 : goal.invariant_of-self-2
invariant_of-self-2 g c =
    let few = c.requires.few in let chunk = c.in_ok-chunk.chunk in let items = c.self.inside.chunks.items in
    let at : c.len.result ≡ length items = omega (arith, c.len.ensures, c.reserve.new.self.ok.0, ap length c.reserve.ensures.items) in
    let lt : c.len.result < 32 = omega (arith, at, ap length c.self.view_is, rows_long items, few) in
    told_same _ _ _ _ (told_push (λ o. o.first) _ c.base_of.result _ items chunk c.len.result c.self.invariant at lt (c.base_of.ensures ∙ c.origin.ensures))
    (ap (λ l. l ++ chunk ∷ []) (sym c.reserve.ensures.items) ∙ sym c.push_reserved.ensures.items)

pub returns-clause-added : goal.returns-clause-added
returns-clause-added g c =
    let chunk = c.in_ok-chunk.chunk in let items = c.self.inside.chunks.items in let made = c.in_ok-chunk.ensures in (
      chunk.1,
      ap rows_of (c.push_reserved.ensures.items ∙ ap (λ l. l ++ chunk ∷ []) c.reserve.ensures.items) ∙ rows_push items chunk ∙ ap (λ r. r ++ chunk.1 ∷ []) c.self.view_is,
      sym c.len-count.ensures,
      made.2,
      rw c.len-count.ensures made.0,
      rw c.len-count.ensures made.1,
    )
