use Rattle.std.proofs.Common.{arith}
use Rattle.std.proofs.lemmas.Option.{slice_get_read}
use Rattle.segment_filter.proofs.told.Told.entry.Goals as goal

pub returns : goal.returns
returns c = λ t told some.
    let has = c.args.self.now.entries.ok.0 in
    told c.args.set c.args.byte c.index.result.now (omega (arith, c.ranges.byte.fits)) (slice_get_read _ _ _ _ has (omega arith) c.index.ensures) some
