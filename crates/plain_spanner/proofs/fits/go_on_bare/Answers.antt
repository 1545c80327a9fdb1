use Rattle.std.proofs.Common.{ℕ, List, [], ◌∷◌, ◌⊎◌}
use Rattle.span_core.specs.Lists.{Has}
use Rattle.spanner_model.specs.Captures.{Captures}
use Rattle.spanner_model.specs.View.{tree_of}
use Rattle.spanner_model.specs.Fit.{Fit}
use Rattle.spanner_model.proofs.FitLaws.{fit_no_vars}
use Rattle.span_core.proofs.HasLaws.{Has-get_or}
use Rattle.plain_spanner.specs.Listed.{Tells, FromSome, CapturesAndEnds, HasFit, LeadsOn}
use Rattle.plain_spanner.proofs.TellsLaws.{tells_or, tells_only, from_none, from_more, from_all}
use Rattle.plain_spanner.proofs.FitLists.{GoesFrom, branches_go_on, bare_branch, no_fits}
use Rattle.plain_spanner.proofs.fits.go_on_bare.Goals as goal

pub reached_from-requires-clause-within : goal.reached_from-requires-clause-within
reached_from-requires-clause-within c = λ k h.
    let b = c.first-item.result in
    let here : Has c.args.firsts.now b = rw c.first-item.is
    (Has-get_or c.args.firsts.now c.loop-first.first-index b c.loop-first-test.true) in
    c.requires.within (k, b.0) (b.1, here, rw (← c.ends-places.ensures) h)

pub loop-first-init : goal.loop-first-init
loop-first-init c =
    let R = GoesFrom (Fit (tree_of c.args.formula.now) c.args.doc.now) in
    rw c.new-all.ensures.items (from_none R (HasFit []))

pub loop-first-preserved : goal.loop-first-preserved
loop-first-preserved c =
    let P = Fit (tree_of c.args.formula.now) c.args.doc.now in
    let b = c.first-item.result in
    let later = c.in_ok-later.later.items in
    let bare = λ (i j : ℕ) (m : Captures) (h : Fit (tree_of c.args.formula.now) c.args.doc.now i j m). fit_no_vars (tree_of c.args.formula.now) c.args.doc.now i j m c.requires.bare h in
    let leads = rw c.ends-places.ensures at c.in_ok-later.ensures in
    let added = rw c.captures-2.ensures at c.in_ok-add_branch.ensures in
    from_more (GoesFrom P) (HasFit []) (HasFit c.loop-first.all.items) (HasFit c.add_branch.new.all.items) c.args.firsts.now c.loop-first.first-index
    b b c.loop-first-test.true c.first-item.is c.loop-first.invariant
    (tells_or (HasFit c.add_branch.new.all.items) (HasFit c.loop-first.all.items) (HasFit ((b.0, later) ∷ [])) (GoesFrom P b) added (bare_branch P bare b later leads))

pub returns : goal.returns
returns c =
    let P = Fit (tree_of c.args.formula.now) c.args.doc.now in
    branches_go_on P c.args.firsts.now (HasFit c.loop-first.all.items)
    (tells_only (HasFit c.loop-first.all.items) (HasFit []) (FromSome (GoesFrom P) c.args.firsts.now) no_fits
    (from_all (GoesFrom P) (HasFit []) (HasFit c.loop-first.all.items) c.args.firsts.now c.loop-first.first-index c.loop-first.auto.first-index-end c.loop-first-test.false c.loop-first.invariant))
