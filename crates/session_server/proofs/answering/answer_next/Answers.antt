use Rattle.std.proofs.Common.{codes}
use Rattle.spanner_model.specs.Passing.{known}
use Rattle.session_server.specs.Requests.{next_request}
use Rattle.session_server.specs.Replies.{heavy_next, next_of_none, error_of}
use Rattle.session_server.specs.Open.{HasNone}
use Rattle.session_server.proofs.Opens.{loses_same, none_open, replies_same}
use Rattle.note_texts.proofs.ResultLaws.{on_err}
use Rattle.session_server.proofs.NextRows.{found_at, heavy_closed, loses_closed, loses_set, replies_given, stands_at}
use Rattle.session_server.proofs.answering.answer_next.Goals as goal

pub returns-in_default-clause-reply : goal.returns-in_default-clause-reply
returns-in_default-clause-reply g c =
    let k = known c.args.tests.now g.J.Judge.judges in
    let cs = c.args.sessions.now.items in
    let here : HasNone cs c.args.id = rw (← c.deref.ensures.value) c.in_default.ensures.none in
    replies_same k c.error_of.result cs (next_request c.args.id c.args.most) (error_of c.args.id (codes "not open"))
    (λ all o. next_of_none (none_open k cs all c.args.id o here)) c.error_of.ensures

pub returns-in_default-clause-memory : goal.returns-in_default-clause-memory
returns-in_default-clause-memory g c = on_err c.error_of.result _ (loses_same (known c.args.tests.now g.J.Judge.judges) c.args.sessions.now.items c.args.id)

pub page-requires : goal.page-requires
page-requires g c =
    let found = found_at c.deref.ensures.value c.in-Some.ensures.some c.index_mut.ensures.value in
    record { stands = stands_at found (known c.args.tests.now g.J.Judge.judges) c.requires.stands.0 c.requires.stands.1 }

pub returns-in-Ok-clause-reply : goal.returns-in-Ok-clause-reply
returns-in-Ok-clause-reply g c =
    replies_given c.given.result (found_at c.deref.ensures.value c.in-Some.ensures.some c.index_mut.ensures.value) c.in-Ok.ensures.given c.deref-in-Ok.ensures.value c.given.ensures

pub returns-in-Ok-clause-memory : goal.returns-in-Ok-clause-memory
returns-in-Ok-clause-memory g c = on_err c.given.result _
    (loses_set (found_at c.deref.ensures.value c.in-Some.ensures.some c.index_mut.ensures.value) (known c.args.tests.now g.J.Judge.judges) c.page.new.self)

pub returns-in-Err-Heavy-clause-reply : goal.returns-in-Err-Heavy-clause-reply
returns-in-Err-Heavy-clause-reply g c =
    heavy_closed (known c.args.tests.now g.J.Judge.judges) c.close_heavy.result c.page.new.self (next_request c.args.id c.args.most)
    (found_at c.deref.ensures.value c.in-Some.ensures.some c.index_mut.ensures.value) c.close_heavy.ensures.closed
    (λ all s finds here. let h = rw c.in-Err-Heavy.field-0-is at (c.in-Err-Heavy.ensures.halted s here) in heavy_next s finds h.0 h.1) c.close_heavy.ensures.text

pub returns-in-Err-Heavy-clause-memory : goal.returns-in-Err-Heavy-clause-memory
returns-in-Err-Heavy-clause-memory g c = on_err c.close_heavy.result _
    (loses_closed (known c.args.tests.now g.J.Judge.judges) c.page.new.self (found_at c.deref.ensures.value c.in-Some.ensures.some c.index_mut.ensures.value) c.close_heavy.ensures.closed)

pub returns-in-Err-OutOfMemory-clause-memory : goal.returns-in-Err-OutOfMemory-clause-memory
returns-in-Err-OutOfMemory-clause-memory g c =
    loses_set (found_at c.deref.ensures.value c.in-Some.ensures.some c.index_mut.ensures.value) (known c.args.tests.now g.J.Judge.judges) c.page.new.self
