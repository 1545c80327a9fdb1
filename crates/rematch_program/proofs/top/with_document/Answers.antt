use Rattle.std.proofs.Common.{◌≡◌, rules, ap, subst, List}
use Rattle.std.specs.Option.{option_copied}
use Rattle.command_line.specs.RequestView.{request_view}
use Rattle.spanner_model.specs.Captures.{VarName}
use Rattle.spanner_model.specs.ExprView.{query_of}
use Rattle.spanner_model.specs.Passing.{known}
use Rattle.spanner_engine.specs.Left.{Source, over}
use Rattle.spanner_engine.specs.Borrowed.{left_in}
use Rattle.rm_outside.specs.Change.{change}
use Rattle.note_texts.specs.Notes.{note_bytes}
use Rattle.rematch_program.specs.Run.{not_begun}
use Rattle.rematch_program.proofs.Answered.{page_answered, result_last, result_names}
use Rattle.rematch_program.proofs.RestLaws.{has_width}
use Rattle.spanner_engine.proofs.KnownTests.{known_kept}
use Rattle.rematch_program.proofs.top.with_document.Goals as goal

pub begun-requires-clause-width : goal.begun-requires-clause-width
begun-requires-clause-width g c = has_width c.args.asking.now.compiled.automaton.names (request_view c.args.asking.now.request.now).after (option_copied c.args.after) c.requires.after

pub new-rows-requires-clause-names : goal.new-rows-requires-clause-names
new-rows-requires-clause-names g c = result_names _ _ _ _ c.args.asking.now.query c.vars.ensures c.in-Ok.ensures.names

pub new-rows-requires-clause-last : goal.new-rows-requires-clause-last
new-rows-requires-clause-last g c = result_last _ _ c.args.document.now _ _ _ c.in-Ok.answers.rest c.args.asking.now.query c.vars.ensures c.in-Ok.ensures.left

pub new-rows-requires-clause-bound : goal.new-rows-requires-clause-bound
new-rows-requires-clause-bound g c =
    let asking = c.args.asking.now in
    known_kept (known asking.tests.now g.J.Judge.judges) asking.tested.now.asked asking.bound

pub returns-in-Ok : goal.returns-in-Ok
returns-in-Ok g c =
    let asking = c.args.asking.now in
    let s : Source = over asking.tested.now.asked asking.tests.now asking.compiled.automaton.names c.args.document.now in
    let out = change (g.O.Sink.told c.args.out.now) (g.O.Sink.told c.write_page.new.out) in
    let source = subst (λ (ns : List VarName). (left_in c.new-rows.result).source ≡ over asking.tested.now.asked asking.tests.now ns c.args.document.now) c.vars.ensures c.new-rows.ensures.source in
    record {
      case = page_answered g.J.Judge.judges s c.in-Ok.answers.rest (left_in c.new-rows.result) source (ap (λ a. a.rest) c.new-rows.ensures.answers)
          (request_view asking.request.now) (query_of asking.compiled.query) out
          c.write_page.result.status (note_bytes c.write_page.result.note) c.args.steps.now c.begun.new.steps c.write_page.new.steps (option_copied c.args.after)
          c.requires.plain c.in-Ok.ensures.fits c.in-Ok.ensures.held c.in-Ok.ensures.left c.in-Ok.ensures.steps c.write_page.ensures.case;
    }

pub returns-in-Err : goal.returns-in-Err
returns-in-Err g c = record { case = not_begun c.in-Err.ensures.outcome (search rules) }
