use Rattle.std.proofs.Common.{List, subst, ◌∙◌}
use Rattle.std.specs.Prelude.{codes}
use Rattle.rm_outside.specs.Change.{change}
use Rattle.rematch_program.specs.Work.{StandsStill, clock, work}
use Rattle.note_texts.specs.Notes.{line, note_bytes}
use Rattle.rematch_program.specs.Run.{FromPage, told_names}
use Rattle.rematch_program.proofs.explanation.write_explanation.Goals as goal

pub returns-in-Ok : goal.returns-in-Ok
returns-in-Ok g c =
    let (names, are, text) = c.in-Ok.ensures in
    let P : List _ → Type 0 = λ t. FromPage
    (work (change (g.O.Sink.told c.args.out.now) (g.O.Sink.told c.put_text.new.out)) (clock 0 0))
    c.put_text.result.status (note_bytes c.put_text.result.note) t (line (codes "end")) StandsStill in
    record { case = told_names names are (subst P (c.deref.ensures.value ∙ text) c.put_text.ensures.case) }
