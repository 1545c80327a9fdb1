use Rattle.std.proofs.Common.{◌∙◌}
use Rattle.byte_runs.proofs.ChainLaws.{all_left_by}
use Rattle.byte_runs.proofs.chain.Chain.next_place.Goals as goal

pub returns-clause-left : goal.returns-clause-left
returns-clause-left c =
    all_left_by c.args.self.now c.as_slice.result.now c.as_slice-2.result.now c.args.bytes.now c.settled.result c.first_kept-place.result
    (c.as_slice.ensures.value ∙ c.self.view_is) (c.as_slice-2.ensures.value ∙ c.self.view_is)
    c.settled.ensures.within c.first_kept-place.ensures.within c.first_kept-place.ensures.none c.settled.ensures.settled
