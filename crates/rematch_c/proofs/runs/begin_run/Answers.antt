use Rattle.std.proofs.Common.{Some, ap, ◌∙◌}
use Rattle.rematch_c.specs.declared.held.Held.{Held}
use Rattle.rematch_c.proofs.RunLaws.{begun, begun_want}
use Rattle.rematch_c.proofs.runs.begin_run.Goals as goal

pub returns-in-Ok : goal.returns-in-Ok
returns-in-Ok c =
    begun c.new.result c.put.new.self.handle.home (c.put.ensures ∙ ap (λ (h : Held). Some h) c.in-Ok.ensures.ok) c.new.ensures.words c.new.ensures.documents

pub returns : goal.returns
returns c = begun_want c.args.run.now.handle.home c.requires.empty
