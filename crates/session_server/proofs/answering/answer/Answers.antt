use Rattle.spanner_model.specs.Passing.{known}
use Rattle.session_server.specs.Asked.{request_of}
use Rattle.session_server.proofs.Opens.{is_no_object, is_no_value, is_request, line_of_memory, line_of_none, line_of_request}
use Rattle.session_server.proofs.answering.answer.Goals as goal

pub returns-in-None : goal.returns-in-None
returns-in-None g c =
    let none = rw c.in-None.is at c.in_ok-value.ensures.none in
    let k = known c.args.tests.now g.J.Judge.judges in
    record { reply = line_of_none k c.args.sessions.now.items c.args.line.now c.no_request.result (is_no_value c.args.line.now none) c.no_request.ensures }

pub returns-in-None-request_in : goal.returns-in-None-request_in
returns-in-None-request_in g c =
    let none = is_no_object c.args.line.now (rw c.in-Some.is at c.in_ok-value.ensures.some) c.in-None-request_in.ensures.none in
    record {
      reply = line_of_none (known c.args.tests.now g.J.Judge.judges) c.args.sessions.now.items c.args.line.now c.no_request-in-None-request_in.result none
          c.no_request-in-None-request_in.ensures;
    }

pub returns-in-Ok : goal.returns-in-Ok
returns-in-Ok g c = record {
  reply = line_of_request (known c.args.tests.now g.J.Judge.judges) c.args.sessions.now.items c.answer_request.new.sessions.items c.in-Ok.reply
      (is_request c.args.line.now (request_of c.in-Some-request_in.request) (rw c.in-Some.is at c.in_ok-value.ensures.some) c.in-Some-request_in.ensures.some) c.in-Ok.ensures.reply;
}

pub returns-in-Err : goal.returns-in-Err
returns-in-Err g c =
    let is = is_request c.args.line.now (request_of c.in-Some-request_in.request) (rw c.in-Some.is at c.in_ok-value.ensures.some) c.in-Some-request_in.ensures.some in
    record {
      reply = line_of_memory (known c.args.tests.now g.J.Judge.judges) c.args.sessions.now.items c.answer_request.new.sessions.items c.close.new.sessions.items c.error_of.result is
          c.id-id.ensures c.in-Err.ensures.memory c.close.ensures c.error_of.ensures;
    }
