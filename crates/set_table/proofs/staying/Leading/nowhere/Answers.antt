use Rattle.std.proofs.Common.{get_or, sym, ap, ◌∙◌}
use Rattle.std.specs.FinSet as bytes
use Rattle.set_table.proofs.StayingLaws.{gathered_none}
use Rattle.set_table.proofs.staying.Leading.nowhere.Goals as goal

pub returns : goal.returns
returns c = λ states long.
    gathered_none states _ (c.in_ok-put_empty.ensures.count ∙ sym long) (λ k. c.in_ok-put_empty.ensures.same k ∙ ap (λ xs. get_or xs k bytes.empty) c.new-to_members.ensures.items) c.empty.ensures
