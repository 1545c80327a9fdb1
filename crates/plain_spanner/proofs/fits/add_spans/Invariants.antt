use Rattle.std.proofs.Common.{◌⊎◌, take}
use Rattle.plain_spanner.specs.Listed.{Tells, FromSome, HasFit, CapturedTo}
use Rattle.plain_spanner.proofs.fits.add_spans.Given as goal

abbrev pub invariant-loop-end : goal.invariant-loop-end
invariant-loop-end l = Tells (HasFit l.all.items) (λ f. HasFit l.initial.all.items f ⊎ FromSome (CapturedTo l.name l.place l.captures l.inner.0) (take l.end-index l.ends) f)
