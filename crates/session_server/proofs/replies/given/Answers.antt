use Rattle.std.proofs.Common.{◌∙◌}
use Rattle.session_server.proofs.GivenText.{given_text}
use Rattle.session_server.proofs.replies.given.Goals as goal

pub returns : goal.returns
returns c = λ items is.
    given_text c.args.id c.args.more c.as_bytes.result.now c.args.rows.now _ _ _ _ _ _ items c.new-line.ensures.items c.in_ok-push_bytes.ensures.ok c.in_ok-push_number.ensures.ok
    (c.as_bytes.ensures.value ∙ c.between.ensures) c.in_ok-push_bytes-2.ensures.ok c.in_ok-push_bytes-3.ensures.ok c.in_ok-push_bytes-4.ensures.ok is
