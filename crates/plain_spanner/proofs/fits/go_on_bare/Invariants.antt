use Rattle.std.proofs.Common.{[], ◌⊎◌, take}
use Rattle.spanner_model.specs.View.{tree_of}
use Rattle.spanner_model.specs.Fit.{Fit}
use Rattle.plain_spanner.specs.Listed.{Tells, FromSome, HasFit}
use Rattle.plain_spanner.proofs.FitLists.{GoesFrom}
use Rattle.plain_spanner.proofs.fits.go_on_bare.Given as goal

abbrev pub invariant-loop-first : goal.invariant-loop-first
invariant-loop-first l = Tells (HasFit l.all.items) (λ f. HasFit [] f ⊎ FromSome (GoesFrom (Fit (tree_of l.formula) l.doc)) (take l.first-index l.firsts) f)
