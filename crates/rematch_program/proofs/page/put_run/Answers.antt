use Rattle.std.proofs.Common.{◌≤◌, ◌++◌, List, length, take, ◌∙◌, subst, arith}
use Rattle.std.proofs.lemmas.List.{length-take-le}
use Rattle.rm_outside.specs.Change.{change, AddsPart}
use Rattle.spanner_model.specs.Answers.{SpanRow}
use Rattle.spanner_engine.specs.Borrowed.{left_in}
use Rattle.rematch_program.specs.Work.{Passes}
use Rattle.rematch_program.specs.Written.{lines_of}
use Rattle.rematch_program.proofs.Gathers.{part_of, so_far_of}
use Rattle.rematch_program.proofs.Runs.{run_lines, shown_ends, shown_fits, shown_rows, shown_within}
use Rattle.rematch_program.proofs.page.put_run.Goals as goal

pub put_ends-requires-clause-fits : goal.put_ends-requires-clause-fits
put_ends-requires-clause-fits g c =
    let run = c.advance_ends-run in
    shown_fits c.requires.over (left_in c.args.rows.now).row run.result.place (take run.result.count run.new.ends) run.ensures.ends run.ensures.fits (c.spans.ensures ∙ run.ensures.row) c.requires.row

pub put_ends-requires-clause-ends : goal.put_ends-requires-clause-ends
put_ends-requires-clause-ends g c =
    let run = c.advance_ends-run in
    shown_ends c.requires.over (left_in c.args.rows.now).row run.result.place (take run.result.count run.new.ends) run.ensures.ends run.ensures.fits (c.spans.ensures ∙ run.ensures.row)

pub put_ends-requires-clause-each : goal.put_ends-requires-clause-each
put_ends-requires-clause-each g c =
    let run = c.advance_ends-run in
    shown_within c.requires.over (left_in c.args.rows.now).row run.result.place (take run.result.count run.new.ends) run.ensures.ends run.ensures.fits (c.spans.ensures ∙ run.ensures.row)

pub returns-in-Ok-clause-row : goal.returns-in-Ok-clause-row
returns-in-Ok-clause-row g c =
    let run = c.advance_ends-run in
    shown_fits c.requires.over (left_in c.args.rows.now).row run.result.place (take run.result.count run.new.ends) run.ensures.ends run.ensures.fits run.ensures.row c.requires.row

pub returns-in-Err-clause-row : goal.returns-in-Err-clause-row
returns-in-Err-clause-row g c =
    let run = c.advance_ends-run in
    shown_fits c.requires.over (left_in c.args.rows.now).row run.result.place (take run.result.count run.new.ends) run.ensures.ends run.ensures.fits run.ensures.row c.requires.row

pub returns-in-Ok-clause-ok : goal.returns-in-Ok-clause-ok
returns-in-Ok-clause-ok g c =
    let run = c.advance_ends-run in
    let page = c.args.page.now in
    let place = run.result.place in
    let ends = take run.result.count run.new.ends in
    let few : run.result.count ≤ length run.new.ends = omega arith in
    let long = length-take-le run.result.count run.new.ends few in
    let lines = run_lines g.J.Judge.judges page (left_in c.args.rows.now) (left_in run.new.self) c.args.remaining.now c.take.new.self place ends run.ensures.source run.ensures.next
    (λ rows more e. c.take.ensures rows more (e ∙ long)) in
    let shown = shown_rows c.requires.over (left_in c.args.rows.now).row place ends run.ensures.ends run.ensures.fits (c.spans.ensures ∙ run.ensures.row) in
    so_far_of _ lines
    (subst (λ (rows : List SpanRow). Passes page.waiting (lines_of page rows) c.put_ends.new.self.waiting (change (g.O.Sink.told c.args.out.now) (g.O.Sink.told c.put_ends.new.out))) shown
    c.in-Ok.ensures.ok)

pub returns-in-Err-clause-part : goal.returns-in-Err-clause-part
returns-in-Err-clause-part g c =
    let run = c.advance_ends-run in
    let page = c.args.page.now in
    let place = run.result.place in
    let ends = take run.result.count run.new.ends in
    let few : run.result.count ≤ length run.new.ends = omega arith in
    let long = length-take-le run.result.count run.new.ends few in
    let lines = run_lines g.J.Judge.judges page (left_in c.args.rows.now) (left_in run.new.self) c.args.remaining.now c.take.new.self place ends run.ensures.source run.ensures.next
    (λ rows more e. c.take.ensures rows more (e ∙ long)) in
    let shown = shown_rows c.requires.over (left_in c.args.rows.now).row place ends run.ensures.ends run.ensures.fits (c.spans.ensures ∙ run.ensures.row) in
    let told = g.O.Sink.told c.args.out.now in
    let new = g.O.Sink.told c.put_ends.new.out in
    part_of told new page.waiting _ _ _ lines
    (subst (λ (rows : List SpanRow). AddsPart (change told new) (page.waiting ++ lines_of page rows)) shown c.in-Err.ensures.part)
