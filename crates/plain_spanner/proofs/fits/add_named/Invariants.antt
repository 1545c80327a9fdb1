use Rattle.std.proofs.Common.{◌⊎◌, take}
use Rattle.plain_spanner.specs.Listed.{Tells, FromSome, HasFit, CapturedAt}
use Rattle.plain_spanner.proofs.fits.add_named.Given as goal

abbrev pub invariant-loop-branch : goal.invariant-loop-branch
invariant-loop-branch l = Tells (HasFit l.all.items) (λ f. HasFit l.initial.all.items f ⊎ FromSome (CapturedAt l.name l.place l.captures) (take l.branch-index l.inner) f)
