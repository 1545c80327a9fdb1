-- A query without tests runs alike whatever tests are known, and from its tree on as a query did before there were any.
use Rattle.std.specs.Prelude.{◌≡◌, ◌↔◌, ℕ, List, [], length, Bool, Option}
use Rattle.rm_outside.specs.declared.status.Status.{Status}
use Rattle.command_line.specs.RequestView.{RequestView}
use Rattle.spanner_model.specs.Captures.{VarName}
use Rattle.spanner_model.specs.Expression.{QueryTree}
use Rattle.spanner_model.specs.Answers.{SpanRow, AreAnswers}
use Rattle.query_parser.specs.Tested.{IsTestedText}
use Rattle.query_parser.specs.TestedLaws.{plain}
use Rattle.spanner_model.specs.Passing.{Known}
use Rattle.rematch_program.specs.Work.{Clock, Work}
use Rattle.rematch_program.specs.Explained.{explain_text}
use Rattle.rematch_program.specs.Pages.{IsPageOf}
use Rattle.rematch_program.specs.Run.{Text, Shelved, FromText}
use Rattle.rematch_program.specs.Steps.{KeepsWithin, stated_steps}
use Rattle.rematch_program.specs.Testing.{AreAllPassing, IsPassingPageOf, PageKeeps, explain_tested}

pub record WithoutTests : Type 0 where
  -- which tests are known does not matter
  pub alike : (k l : Known) (a : RequestView) (text : Text) (q : QueryTree) (s : Shelved) (w : Work) (end : Status) (note : Text) → IsTestedText text (plain q) →
      FromText s w end note k a text → FromText s w end note l a text
  -- each word is what it was
  pub page : (q : QueryTree) (d : List ℕ) (names : List VarName) (after : Option SpanRow) (limit : Option ℕ) (rows : List SpanRow) (more : Bool) →
      IsPassingPageOf [] q d names after limit rows more ↔ IsPageOf q d names after limit rows more
  pub all : (q : QueryTree) (d : List ℕ) (names : List VarName) (rows : List SpanRow) → AreAllPassing [] q d names rows ↔ AreAnswers q d names rows
  pub steps : (filter : Bool) (q : QueryTree) (names : List VarName) (d : List ℕ) (after : Option SpanRow) (page : List SpanRow) (c : Clock) →
      PageKeeps [] filter q names d after page c ↔ KeepsWithin filter q d (λ K. stated_steps filter q names d K after (length page)) c
  pub told : (q : QueryTree) (names : List VarName) → explain_tested (plain q) names ≡ explain_text q names
