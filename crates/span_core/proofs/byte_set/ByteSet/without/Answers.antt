use Rattle.std.proofs.Common.{◌∙◌}
use Rattle.std.specs.FinSet as set
use Rattle.span_core.proofs.ByteSetLaws.{without_is}
use Rattle.span_core.proofs.byte_set.ByteSet.without.Goals as goal

pub returns : goal.returns
returns c = without_is c.self.inside.words c.other.inside.words c.other.invariant ∙ (λ i. set.difference (c.self.view_is i) (c.other.view_is i))
