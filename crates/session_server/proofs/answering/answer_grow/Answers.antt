use Rattle.std.proofs.Common.{List, IfOk, codes, sym, subst}
use Rattle.session_server.specs.declared.answering.Opened.{Opened}
use Rattle.session_server.specs.Requests.{grow_request}
use Rattle.session_server.specs.Replies.{error_of, grow_of_none}
use Rattle.session_server.specs.Open.{HasNone, RepliesTo}
use Rattle.session_server.proofs.Opens.{loses_same, none_open, replies_same}
use Rattle.note_texts.proofs.ResultLaws.{on_err}
use Rattle.session_server.proofs.NextRows.{found_at, heavy_closed, loses_closed, loses_set, replies_grown, set_same, too_heavy, too_long}
use Rattle.session_server.proofs.answering.answer_grow.Goals as goal

pub returns-in_default-clause-reply : goal.returns-in_default-clause-reply
returns-in_default-clause-reply g c =
    let cs = c.args.sessions.now.items in
    let here : HasNone cs c.args.id = rw (← c.deref.ensures.value) c.in_default.ensures.none in
    λ k. replies_same k c.error_of.result cs (grow_request c.args.id c.args.text.now) (error_of c.args.id (codes "not open")) (λ all o. grow_of_none (none_open k cs all c.args.id o here))
    c.error_of.ensures

pub returns-in_default-clause-memory : goal.returns-in_default-clause-memory
returns-in_default-clause-memory g c =
    λ k. on_err c.error_of.result _ (loses_same k c.args.sessions.now.items c.args.id)

pub returns-in_default-length_with-clause-reply : goal.returns-in_default-length_with-clause-reply
returns-in_default-length_with-clause-reply g c =
    let cs = c.args.sessions.now.items in
    let found = found_at c.deref.ensures.value c.in-Some.ensures.some c.index_mut.ensures.value in
    let r = c.error_of-in_default-length_with.result in
    λ k. subst (λ (xs : List Opened). IfOk r (RepliesTo k cs xs (grow_request c.args.id c.args.text.now))) (sym (set_same cs c.in-Some.k c.index_mut.result.now found.there))
    (replies_same k r cs (grow_request c.args.id c.args.text.now) (error_of c.args.id (codes "long"))
    (too_long found c.as_bytes-text.ensures.value c.in_default-length_with.ensures.none) c.error_of-in_default-length_with.ensures)

pub returns-in_default-length_with-clause-memory : goal.returns-in_default-length_with-clause-memory
returns-in_default-length_with-clause-memory g c = λ k. on_err c.error_of-in_default-length_with.result _
    (loses_set (found_at c.deref.ensures.value c.in-Some.ensures.some c.index_mut.ensures.value) k c.index_mut.result.now.session)

pub returns-in-Ok-clause-reply : goal.returns-in-Ok-clause-reply
returns-in-Ok-clause-reply g c =
    let long = c.in-Some-length_with.ensures.some in λ k.
    replies_grown c.grown.result (found_at c.deref.ensures.value c.in-Some.ensures.some c.index_mut.ensures.value) c.as_bytes-text.ensures.value long.0 long.1 (c.in-Ok.ensures.grown k)
    c.grown.ensures

pub returns-in-Ok-clause-memory : goal.returns-in-Ok-clause-memory
returns-in-Ok-clause-memory g c = λ k.
    on_err c.grown.result _ (loses_set (found_at c.deref.ensures.value c.in-Some.ensures.some c.index_mut.ensures.value) k c.grow.new.self)

pub returns-in-Err-Heavy-clause-reply : goal.returns-in-Err-Heavy-clause-reply
returns-in-Err-Heavy-clause-reply g c = λ k.
    heavy_closed k c.close_heavy.result c.grow.new.self (grow_request c.args.id c.args.text.now) (found_at c.deref.ensures.value c.in-Some.ensures.some c.index_mut.ensures.value)
    c.close_heavy.ensures.closed
    (λ all s finds here. too_heavy c.index_mut.result.now.session s c.as_bytes-text.ensures.value c.in-Some-length_with.ensures.some.0 c.in-Some-length_with.ensures.some.1
    (rw c.in-Err-Heavy.field-0-is at (c.in-Err-Heavy.ensures.halted k s here)) finds here)
    c.close_heavy.ensures.text

pub returns-in-Err-Heavy-clause-memory : goal.returns-in-Err-Heavy-clause-memory
returns-in-Err-Heavy-clause-memory g c = λ k. on_err c.close_heavy.result _
    (loses_closed k c.grow.new.self (found_at c.deref.ensures.value c.in-Some.ensures.some c.index_mut.ensures.value) c.close_heavy.ensures.closed)

pub returns-in-Err-OutOfMemory-clause-memory : goal.returns-in-Err-OutOfMemory-clause-memory
returns-in-Err-OutOfMemory-clause-memory g c = λ k.
    loses_set (found_at c.deref.ensures.value c.in-Some.ensures.some c.index_mut.ensures.value) k c.grow.new.self
