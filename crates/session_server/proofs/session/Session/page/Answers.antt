use Rattle.spanner_model.specs.Passing.{known}
use Rattle.session_server.specs.Replies.{asking}
use Rattle.session_server.proofs.Grows.{page_given}
use Rattle.session_server.proofs.session.Session.page.Goals as goal

pub next_rows-requires : goal.next_rows-requires
next_rows-requires g c =
    let s = c.requires.stands.0 in
    let (all, o) = c.in_default.ensures.ready s c.requires.stands.1 in
    record { stands = (asking s, all, o) }

pub returns-in-Ok-clause-given : goal.returns-in-Ok-clause-given
returns-in-Ok-clause-given g c = λ s stands.
    let (all, o) = c.in_default.ensures.ready s stands in
    page_given (known c.args.tests.now g.J.Judge.judges) c.args.self.now c.refresh.new.self c.next_rows.new.self c.args.most c.in-Ok.page.rows.items c.in-Ok.page.more s all
    c.refresh.ensures.vars o (c.in-Ok.ensures.given (asking s) all o)
