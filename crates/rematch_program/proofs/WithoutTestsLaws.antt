-- A query without tests runs as before there were any.
use Rattle.std.proofs.Common.{◌≡◌, ◌↔◌, ℕ, List, [], Bool, Option, Some, None, refl}
use Rattle.rm_outside.specs.declared.status.Status.{Status}
use Rattle.command_line.specs.RequestView.{RequestView}
use Rattle.spanner_model.specs.Captures.{VarName}
use Rattle.spanner_model.specs.Expression.{QueryTree}
use Rattle.spanner_model.specs.Answers.{SpanRow}
use Rattle.query_parser.specs.declared.fault.QueryFault.{QueryFault}
use Rattle.query_parser.specs.Tested.{IsTestedText}
use Rattle.query_parser.specs.TestedLaws.{plain}
use Rattle.spanner_model.specs.Passing.{Known, checks_of}
use Rattle.query_parser.specs.Binding.{HasFaultUnder, of_text, unknown_test, IsOnlyTested}
use Rattle.rematch_program.specs.Work.{Work}
use Rattle.rematch_program.specs.Pages.{IsPageOf}
use Rattle.rematch_program.specs.Testing.{IsPassingPageOf}
use Rattle.rematch_program.specs.Run.{Text, Shelved, FromQuery, FromText, query_refused, out_of_memory, understood}
use Rattle.rematch_program.specs.WithoutTests.{WithoutTests}

no_fault : (k : Known) (text : Text) (q : QueryTree) (fault : QueryFault) → IsTestedText text (plain q) → HasFaultUnder k text fault → ⊥
no_fault k text q _ spelled (of_text has none) = none (plain q) spelled
no_fault k text q _ spelled (unknown_test {t = t} {at = at} read only first) =
    let same : plain q ≡ t = only (plain q) spelled in
    rw (← same) at first

runs_alike : (k l : Known) (a : RequestView) (text : Text) (q : QueryTree) (s : Shelved) (w : Work) (end : Status) (note : Text) → IsTestedText text (plain q) →
    FromText s w end note k a text → FromText s w end note l a text
runs_alike k l a text q s w end note spelled (query_refused fault only is did) = absurd (no_fault k text q fault spelled only.found)
runs_alike k l a text q s w end note spelled (out_of_memory is did) = out_of_memory is did
runs_alike k l a text q s w end note spelled (understood t only case) =
    let same : plain q ≡ t = only.only (plain q) spelled in
    let here : FromQuery s w end note a (plain q) (checks_of k (plain q).asked) = rw (← same) at case in
    let alone : IsOnlyTested l text (plain q) = record {
      spelled = spelled;
      only = rw (← same) at only.only;
      tests_known = λ x h. absurd h;
    } in
    understood (plain q) alone here

same_page : (q : QueryTree) (d : List ℕ) (names : List VarName) (after : Option SpanRow) (limit : Option ℕ) (rows : List SpanRow) (more : Bool) →
    IsPassingPageOf [] q d names after limit rows more ↔ IsPageOf q d names after limit rows more
same_page q d names after None rows more = (λ h. h, λ h. h)
same_page q d names after (Some n) rows more = (λ h. h, λ h. h)

pub without_tests : WithoutTests
without_tests = record {
  alike = runs_alike;
  page = same_page;
  all = λ q d names rows. (λ h. h, λ h. h);
  steps = λ filter q names d after page c. (λ h. h, λ h. h);
  told = λ q names. refl;
}
