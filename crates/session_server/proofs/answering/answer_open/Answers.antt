use Rattle.std.proofs.Common.{rules, arith, ◌≤◌, codes, length}
use Rattle.spanner_model.specs.Passing.{known}
use Rattle.session_server.specs.declared.TheConstants.{MOST_SESSIONS}
use Rattle.session_server.specs.Asked.{opening_of}
use Rattle.session_server.specs.Replies.{error_of}
use Rattle.session_server.specs.Open.{HasNone, IsFirstPlaceOf}
use Rattle.session_server.proofs.Opens.{is_full, is_taken, loses_same, not_some, replies_same, some_where}
use Rattle.note_texts.proofs.ResultLaws.{on_err}
use Rattle.session_server.proofs.answering.answer_open.Goals as goal

pub returns-then-is_some-clause-reply : goal.returns-then-is_some-clause-reply
returns-then-is_some-clause-reply g c =
    let cs = c.args.sessions.now.items in
    let asked = c.args.asked in
    let (p, there) = some_where c.deref.result.now asked.id c.place_of.result (search rules) c.place_of.ensures.some in
    let at : IsFirstPlaceOf cs asked.id p = rw (← c.deref.ensures.value) there in
    replies_same (known c.args.tests.now g.J.Judge.judges) c.error_of.result cs (opening_of asked) (error_of asked.id (codes "taken")) (λ all o. is_taken at o) c.error_of.ensures

pub returns-then-is_some-clause-memory : goal.returns-then-is_some-clause-memory
returns-then-is_some-clause-memory g c =
    on_err c.error_of.result _ (loses_same (known c.args.tests.now g.J.Judge.judges) c.args.sessions.now.items c.args.asked.id)

pub returns-then-len-ge-MOST_SESSIONS-clause-reply : goal.returns-then-len-ge-MOST_SESSIONS-clause-reply
returns-then-len-ge-MOST_SESSIONS-clause-reply g c =
    let cs = c.args.sessions.now.items in
    let asked = c.args.asked in
    let free = not_some c.place_of.result (HasNone c.deref.result.now asked.id) (search rules) c.place_of.ensures.none in
    let none : HasNone cs asked.id = rw (← c.deref.ensures.value) free in
    let many : MOST_SESSIONS ≤ length cs = omega (arith, c.if-len-ge-MOST_SESSIONS.true, c.len.ensures) in
    replies_same (known c.args.tests.now g.J.Judge.judges) c.error_of-then-len-ge-MOST_SESSIONS.result cs (opening_of asked) (error_of asked.id (codes "full"))
    (λ all o. is_full cs none many o) c.error_of-then-len-ge-MOST_SESSIONS.ensures

pub returns-then-len-ge-MOST_SESSIONS-clause-memory : goal.returns-then-len-ge-MOST_SESSIONS-clause-memory
returns-then-len-ge-MOST_SESSIONS-clause-memory g c =
    on_err c.error_of-then-len-ge-MOST_SESSIONS.result _ (loses_same (known c.args.tests.now g.J.Judge.judges) c.args.sessions.now.items c.args.asked.id)

pub returns-then-len-gt-MOST_DOCUMENT-clause-memory : goal.returns-then-len-gt-MOST_DOCUMENT-clause-memory
returns-then-len-gt-MOST_DOCUMENT-clause-memory g c =
    loses_same (known c.args.tests.now g.J.Judge.judges) c.args.sessions.now.items c.args.asked.id

pub open_new-requires-clause-none : goal.open_new-requires-clause-none
open_new-requires-clause-none g c =
    let cs = c.args.sessions.now.items in
    let id = c.args.asked.id in
    let free = not_some c.place_of.result (HasNone c.deref.result.now id) (search rules) c.place_of.ensures.none in
    rw (← c.deref.ensures.value) free
