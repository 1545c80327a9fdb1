use Rattle.std.proofs.Common.{subst}
use Rattle.byte_runs.specs.Inner.{EndsNowhere, Inner}
use Rattle.byte_runs.proofs.InnerLaws.{nowhere_before}
use Rattle.byte_runs.proofs.inner.InnerText.next_place.Goals as goal

pub returns-clause-nowhere : goal.returns-clause-nowhere
returns-clause-nowhere c =
    subst (λ (t : Inner). EndsNowhere t.text c.args.bytes.now c.last_behind.result) c.self.view_is
    (nowhere_before c.self.inside.text c.args.bytes.now c.first_end-end.result c.last_behind.result c.last_behind.ensures.within c.first_end-end.ensures.nowhere)
