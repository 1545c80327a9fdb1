use Rattle.std.proofs.Common.{Some, ap, ◌∙◌}
use Rattle.rematch_c.specs.declared.held.Held.{Held}
use Rattle.rematch_c.proofs.CallLaws.{shared, shared_other, shared_want}
use Rattle.rematch_c.proofs.held.share.Goals as goal

pub returns-in_default : goal.returns-in_default
returns-in_default c = shared_other c.args.held.now c.args.other.now.handle.home c.in_default.not-Query c.requires.empty

pub returns-in_default-another : goal.returns-in_default-another
returns-in_default-another c = shared_want c.args.held.now c.in-Query.query c.args.other.now.handle.home c.in-Query.is c.requires.empty

pub returns-in-Ok-new : goal.returns-in-Ok-new
returns-in-Ok-new c =
    shared c.args.held.now c.in-Query.query c.in-Ok.query c.put.new.self.handle.home c.in-Query.is c.in-Ok.ensures (c.put.ensures ∙ ap (λ (h : Held). Some h) c.in-Ok-new.ensures.ok)

pub returns : goal.returns
returns c = shared_want c.args.held.now c.in-Query.query c.args.other.now.handle.home c.in-Query.is c.requires.empty
