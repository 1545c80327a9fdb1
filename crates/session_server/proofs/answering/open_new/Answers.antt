use Rattle.std.proofs.Common.{ℕ, ap}
use Rattle.std.specs.Prelude.{Vec, string_bytes}
use Rattle.std.specs.declared.alloc.Global.{Global}
use Rattle.spanner_model.specs.Passing.{known}
use Rattle.session_server.specs.Asked.{opening_of}
use Rattle.session_server.specs.Replies.{IsRefused, error_of}
use Rattle.session_server.proofs.Opens.{is_refused, loses_put, loses_same, replies_put, replies_same, why_refused}
use Rattle.note_texts.proofs.ResultLaws.{on_err}
use Rattle.session_server.proofs.answering.open_new.Goals as goal

pub returns-in-Err-Note-clause-reply : goal.returns-in-Err-Note-clause-reply
returns-in-Err-Note-clause-reply g c =
    let k = known c.args.tests.now g.J.Judge.judges in
    let cs = c.args.sessions.now.items in
    let asked = c.args.asked in
    let q = c.as_bytes.result.now in
    let d = c.into_bytes.result.items in
    let note = c.deref.result.now in
    let why = why_refused k q d c.in-Err-Note.field-0 c.in-Err-Note.note c.in-Err-Note.field-0-is c.in-Err-Note.ensures.refused in
    let here : IsRefused k q d note = rw c.deref.ensures.value why in
    replies_same k c.refused.result cs (opening_of asked) (error_of asked.id note)
    (λ all o. is_refused cs c.requires.none c.requires.room c.as_bytes.ensures.value (ap (λ (v : Vec ℕ Global). v.items) c.into_bytes.ensures.value) here o) c.refused.ensures

pub returns-in-Err-Note-clause-memory : goal.returns-in-Err-Note-clause-memory
returns-in-Err-Note-clause-memory g c =
    on_err c.refused.result _ (loses_same (known c.args.tests.now g.J.Judge.judges) c.args.sessions.now.items c.args.asked.id)

pub returns-clause-memory : goal.returns-clause-memory
returns-clause-memory g c =
    loses_same (known c.args.tests.now g.J.Judge.judges) c.args.sessions.now.items c.args.asked.id

pub returns-in-Ok-clause-reply : goal.returns-in-Ok-clause-reply
returns-in-Ok-clause-reply g c =
    let asked = c.args.asked in
    let q = c.as_bytes.result.now in
    let d = c.into_bytes.result.items in
    replies_put (known c.args.tests.now g.J.Judge.judges) c.put_opened.result c.args.sessions.now.items c.put_opened.new.sessions.items asked.id (string_bytes asked.query)
    (string_bytes asked.document) q d c.in-Ok.session c.requires.none c.requires.room c.as_bytes.ensures.value (ap (λ (v : Vec ℕ Global). v.items) c.into_bytes.ensures.value)
    c.put_opened.ensures.put c.in-Ok.ensures.opened c.put_opened.ensures.reply

pub returns-in-Ok-clause-memory : goal.returns-in-Ok-clause-memory
returns-in-Ok-clause-memory g c =
    loses_put (known c.args.tests.now g.J.Judge.judges) c.put_opened.result c.args.sessions.now.items c.put_opened.new.sessions.items c.args.asked.id c.put_opened.ensures.same
