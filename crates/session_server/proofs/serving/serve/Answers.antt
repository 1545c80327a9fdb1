use Rattle.note_texts.specs.Notes.{note_bytes}
use Rattle.session_server.proofs.Lines.{serves_all}
use Rattle.session_server.proofs.serving.serve.Goals as goal

pub returns-clause-all : goal.returns-clause-all
returns-clause-all g c = serves_all _ _ _ _ _ _ (record {
  end = c.serve_lines-outcome.result.status;
  note = note_bytes c.serve_lines-outcome.result.note;
  done = c.serve_lines-outcome.ensures.serves;
  report = c.report.ensures;
})
