use Rattle.std.proofs.Common.{refl, subst}
use Rattle.command_line.specs.RequestView.{request_view}
use Rattle.spanner_model.specs.declared.query.Query.{Query}
use Rattle.spanner_model.specs.ExprView.{query_of}
use Rattle.spanner_model.specs.Passing.{checks_of, known}
use Rattle.trial_maker.specs.Trial.{trial_text}
use Rattle.std.proofs.Common.{None}
use Rattle.rm_outside.specs.Change.{change}
use Rattle.rematch_program.specs.Work.{clock, work}
use Rattle.note_texts.specs.Notes.{note_bytes}
use Rattle.rematch_program.specs.Run.{FromCursor, FromDocument, compiled, explained, page_asked, shelved, too_large, trial_asked}
use Rattle.rematch_program.proofs.Completeness.{plain_wants, trial_wants}
use Rattle.rematch_program.proofs.top.with_query.Goals as goal

pub returns-in-Explain : goal.returns-in-Explain
returns-in-Explain g c = record { case = explained c.in-Explain.is c.write_explanation.ensures.case refl refl }

pub returns-in-Ok : goal.returns-in-Ok
returns-in-Ok g c =
    let names = c.in-Ok.compiled.automaton.names in
    let checks = checks_of (known c.args.job.now.tests.now g.J.Judge.judges) c.args.tested.now.asked in
    let P : Query → Type 0 = λ q. FromCursor (request_view c.args.job.now.request.now) (query_of q) checks
    (work (change (g.O.Sink.told c.args.out.now) (g.O.Sink.told c.with_cursor.new.out)) (clock c.args.steps.now c.with_cursor.new.steps))
    c.with_cursor.result.status (note_bytes c.with_cursor.result.note)
    (shelved (g.S.Shelf.told c.args.shelf.now) (g.S.Shelf.told c.with_cursor.new.shelf)) names in
    record {
      case = compiled (plain_wants (request_view c.args.job.now.request.now).mode c.in-Plain.is) c.in-Ok.ensures.small
          (page_asked c.in-Plain.is names c.in-Ok.ensures.names (subst P c.in-Ok.ensures.query c.with_cursor.ensures.case));
    }

pub returns-in-Err : goal.returns-in-Err
returns-in-Err g c = record { case = too_large (plain_wants (request_view c.args.job.now.request.now).mode c.in-Plain.is) c.in-Err.ensures.outcome (refl, (refl, refl)) }

pub returns-in-Ok-compiled_query : goal.returns-in-Ok-compiled_query
returns-in-Ok-compiled_query g c =
    let names = c.in-Ok-compiled_query.compiled.automaton.names in
    let checks = checks_of (known c.args.job.now.tests.now g.J.Judge.judges) c.args.tested.now.asked in
    let P : Query → Type 0 = λ q. FromDocument (request_view c.args.job.now.request.now) (query_of q) checks
    (work (change (g.O.Sink.told c.args.out.now) (g.O.Sink.told c.with_lines.new.out)) (clock c.args.steps.now c.with_lines.new.steps))
    c.with_lines.result.status (note_bytes c.with_lines.result.note) names None (trial_text c.in-Trial.lines) in
    record {
      case = compiled (trial_wants (request_view c.args.job.now.request.now).mode c.in-Trial.lines c.in-Trial.is) c.in-Ok-compiled_query.ensures.small
          (trial_asked c.in-Trial.lines c.in-Trial.is names c.in-Ok-compiled_query.ensures.names refl (subst P c.in-Ok-compiled_query.ensures.query c.with_lines.ensures.case));
    }

pub returns-in-Err-compiled_query : goal.returns-in-Err-compiled_query
returns-in-Err-compiled_query g c =
    record { case = too_large (trial_wants (request_view c.args.job.now.request.now).mode c.in-Trial.lines c.in-Trial.is) c.in-Err-compiled_query.ensures.outcome (refl, (refl, refl)) }
