use Rattle.std.proofs.Common.{◌≡◌, [], ◌∷◌, ◌++◌, ap, ◌∙◌}
use Rattle.spanner_model.specs.Captures.{Captures}
use Rattle.plain_spanner.specs.Listed.{CapturesAndEnds, HasFit}
use Rattle.plain_spanner.proofs.TellsLaws.{tells_itself}
use Rattle.plain_spanner.proofs.FitLists.{fits_appended}
use Rattle.plain_spanner.proofs.fits.add_branch.Goals as goal

pub returns-in_ok-push : goal.returns-in_ok-push
returns-in_ok-push c =
    let old = c.args.all.now.items in
    let b : CapturesAndEnds = (c.args.captures.now, c.args.ends.items) in
    let is : c.push.new.self.items ≡ old ++ b ∷ [] = c.in_ok-push.ensures.items ∙
    ap (λ (m : Captures). let e : CapturesAndEnds = (m, c.args.ends.items) in old ++ e ∷ []) c.in_ok-captures.ensures.items in
    fits_appended old (b ∷ []) c.push.new.self.items (HasFit (b ∷ [])) is (tells_itself (HasFit (b ∷ [])))
