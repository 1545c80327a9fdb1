use Rattle.std.proofs.Common.{rules, ◌∙◌, length, ap}
use Rattle.marked_automaton.specs.Automaton.{Marked}
use Rattle.spanner_engine.proofs.RowLaws.{compiled_rows}
use Rattle.growing_document.specs.Grown.{AreBytes, Grown}
use Rattle.session_server.proofs.Grows.{bytes_held, start_answers, start_append, start_held, start_new, start_rows}
use Rattle.session_server.proofs.session.read_by.Goals as goal

pub new-requires-clause-rows : goal.new-requires-clause-rows
new-requires-clause-rows g c = compiled_rows c.requires.compiled.0 c.args.automaton c.requires.compiled.1

pub returns-in-Err-clause-halted : goal.returns-in-Err-clause-halted
returns-in-Err-clause-halted g c = λ q made. start_new q _ c.args.document.items _ _ made c.halt_of.ensures c.in-Err.ensures.fault

pub returns-in-Err-append_vec-clause-halted : goal.returns-in-Err-append_vec-clause-halted
returns-in-Err-append_vec-clause-halted g c = λ q made.
    start_append q _ _ made _ c.in-Ok.ensures.begun _ _ c.halt_of-in-Err-append_vec.ensures c.in-Err-append_vec.ensures.fault

pub returns-in-Ok-rows-clause-growing : goal.returns-in-Ok-rows-clause-growing
returns-in-Ok-rows-clause-growing g c = λ q made. start_held q _ _ made _ c.in-Ok.ensures.begun _ c.in_default.ensures.appended _ c.rows.ensures.asked

pub returns-in-Ok-rows-clause-all : goal.returns-in-Ok-rows-clause-all
returns-in-Ok-rows-clause-all g c =
    let bytes : AreBytes c.args.document.items = search (rules, bytes_held) in λ q made.
    start_answers q _ _ made _ c.in-Ok.ensures.begun _ c.in_default.ensures.appended _ _ bytes c.in-Ok-rows.ensures.rows (c.over.ensures.rest ∙ c.in-Ok-rows.ensures.first)

pub returns-in-Ok-rows-clause-wide : goal.returns-in-Ok-rows-clause-wide
returns-in-Ok-rows-clause-wide g c =
    c.over.ensures.variables ∙ c.in-Ok-rows.ensures.variables
    ∙ ap (λ (A : Marked). length A.names) (c.in_default.ensures.appended.automaton ∙ ap (λ (x : Grown). x.automaton) c.in-Ok.ensures.begun)

pub returns-in-Err-rows-clause-halted : goal.returns-in-Err-rows-clause-halted
returns-in-Err-rows-clause-halted g c = λ q made.
    start_rows q _ _ made _ c.in-Ok.ensures.begun _ c.in_default.ensures.appended _ _ c.halt_of-in-Err-rows.ensures c.in-Err-rows.ensures.fault
