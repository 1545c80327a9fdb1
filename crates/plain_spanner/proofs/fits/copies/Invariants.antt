use Rattle.std.proofs.Common.{◌≡◌, take}
use Rattle.plain_spanner.proofs.fits.copies.Given as goal

abbrev pub invariant-loop-branch : goal.invariant-loop-branch
invariant-loop-branch l = l.all.items ≡ take l.branch-index l.branches
