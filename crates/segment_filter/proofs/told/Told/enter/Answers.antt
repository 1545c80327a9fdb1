use Rattle.std.proofs.Common.{refl, sym, subst, arith}
use Rattle.segment_filter.specs.Dense.{GoesTo}
use Rattle.segment_filter.proofs.DenseLaws.{told_entry}
use Rattle.segment_filter.proofs.told.Told.enter.Goals as goal

pub returns : goal.returns
returns c = λ t told goes.
    let has = c.args.self.now.entries.ok.0 in
    told_entry t _ c.args.set c.args.byte c.entry_of-entry.result _ (omega (arith, c.ranges.byte.fits)) refl (omega arith)
    (λ some. subst (GoesTo t c.args.set c.args.byte) (sym (c.entry_of-entry.ensures some)) goes) told
