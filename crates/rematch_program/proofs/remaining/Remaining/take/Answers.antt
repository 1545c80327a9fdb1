use Rattle.std.proofs.Common.{◌≡◌, ◌≤◌, ◌++◌, List, length, Some, Option, ℕ, sym, ap, ◌∙◌, subst}
use Rattle.spanner_model.specs.Answers.{SpanRow}
use Rattle.rematch_program.specs.Pages.{Allows, first_rows}
use Rattle.rematch_program.proofs.RemainingLaws.{several_taken}
use Rattle.rematch_program.proofs.remaining.Remaining.take.Goals as goal

pub returns : goal.returns
returns c =
    let is : c.args.self.now ≡ Some c.in-Some.rows = sym c.self.view_is ∙ c.in-Some.is in
    let le : c.args.count ≤ c.in-Some.rows = subst (λ (o : Option ℕ). Allows o c.args.count) is c.requires in
    λ rows more long. ap (λ (o : Option ℕ). first_rows o (rows ++ more)) is ∙ several_taken c.in-Some.rows c.args.count le rows more long
