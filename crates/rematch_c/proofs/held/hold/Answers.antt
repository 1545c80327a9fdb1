use Rattle.std.proofs.Common.{Some, ap, ◌∙◌}
use Rattle.rematch_c.specs.declared.held.Held.{Held}
use Rattle.rematch_c.proofs.CallLaws.{holds, holds_none}
use Rattle.rematch_c.proofs.held.hold.Goals as goal

pub returns-in-Ok : goal.returns-in-Ok
returns-in-Ok c = holds c.args.held c.put.new.self.handle.home c.args.note.now (c.put.ensures ∙ ap (λ (h : Held). Some h) c.in-Ok.ensures.ok)

pub returns : goal.returns
returns c =
    holds_none c.args.held c.args.slot.now.handle.home c.args.note.now c.out_of_memory.new.note c.out_of_memory.result c.requires.empty c.out_of_memory.ensures.status c.out_of_memory.ensures.note
