use Rattle.std.proofs.Common.{ap, ◌∙◌, length}
use Rattle.command_line.specs.RequestView.{request_view}
use Rattle.spanner_engine.specs.Left.{Source}
use Rattle.spanner_engine.specs.Borrowed.{left_in}
use Rattle.note_texts.proofs.ResultLaws.{on_err}
use Rattle.rematch_program.specs.Taking.{coming, page_rows}
use Rattle.rematch_program.proofs.Gathers.{part_nothing, passes_part, passes_whole}
use Rattle.rematch_program.proofs.Writing.{begun_over, begun_text, note_fits, note_told}
use Rattle.rematch_program.proofs.page.put_page.Goals as goal

pub put_rows-requires : goal.put_rows-requires
put_rows-requires g c =
    record { over = begun_over (request_view c.args.request.now) _ c.in_ok-page.ensures c.vars.ensures c.document.ensures.document }

pub page_note-requires-clause-fit : goal.page_note-requires-clause-fit
page_note-requires-clause-fit g c =
    note_fits (left_in c.args.rows.now).source c.vars-2.result.now (length c.document-2.result.now) (c.vars-2.ensures ∙ ap (λ (u : Source). u.names) c.put_rows.ensures.source)
    (ap length (c.document-2.ensures.document ∙ ap (λ (u : Source). u.document) c.put_rows.ensures.source)) c.in-Ok.end.last
    (begun_over (request_view c.args.request.now) _ c.in_ok-page.ensures c.vars.ensures c.document.ensures.document) c.in-Ok.ensures.fits

pub returns-in-Ok-flush-clause-note : goal.returns-in-Ok-flush-clause-note
returns-in-Ok-flush-clause-note g c =
    let a = request_view c.args.request.now in
    let judges = g.J.Judge.judges in
    c.in_ok-note.ensures
    ∙ note_told (left_in c.args.rows.now).source c.vars-2.result.now (length c.document-2.result.now) (c.vars-2.ensures ∙ ap (λ (u : Source). u.names) c.put_rows.ensures.source)
    (ap length (c.document-2.ensures.document ∙ ap (λ (u : Source). u.document) c.put_rows.ensures.source)) c.in-Ok.end.last
    a.after (page_rows judges (left_in c.args.rows.now) a.limit) (coming judges (left_in c.args.rows.now)) c.in-Ok.end.more c.in-Ok.ensures.end

pub returns-in-Err-clause-part : goal.returns-in-Err-clause-part
returns-in-Err-clause-part g c =
    rw (← begun_text g.J.Judge.judges (left_in c.args.rows.now) (request_view c.args.request.now) c.in_ok-page.ensures c.vars.ensures c.document.ensures.document) c.in-Err.ensures.part

pub returns-in_err-note-clause-part : goal.returns-in_err-note-clause-part
returns-in_err-note-clause-part g c =
    on_err c.from_residual-in_err-note.result _
    (rw (← begun_text g.J.Judge.judges (left_in c.args.rows.now) (request_view c.args.request.now) c.in_ok-page.ensures c.vars.ensures c.document.ensures.document)
    (passes_part (g.O.Sink.told c.put_rows.new.out) c.in-Ok.ensures.ok
    (part_nothing (g.O.Sink.told c.put_rows.new.out).bytes _)))

pub returns-clause-part : goal.returns-clause-part
returns-clause-part g c =
    rw (← begun_text g.J.Judge.judges (left_in c.args.rows.now) (request_view c.args.request.now) c.in_ok-page.ensures c.vars.ensures c.document.ensures.document)
    (passes_part (g.O.Sink.told c.flush.new.out) c.in-Ok.ensures.ok c.in-Err-flush.ensures.part)

pub returns-in-Ok-flush-clause-whole : goal.returns-in-Ok-flush-clause-whole
returns-in-Ok-flush-clause-whole g c =
    rw (← begun_text g.J.Judge.judges (left_in c.args.rows.now) (request_view c.args.request.now) c.in_ok-page.ensures c.vars.ensures c.document.ensures.document)
    (passes_whole (g.O.Sink.told c.flush.new.out) c.in-Ok.ensures.ok c.in-Ok-flush.ensures.ok)
