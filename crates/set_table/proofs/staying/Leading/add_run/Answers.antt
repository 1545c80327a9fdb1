use Rattle.std.proofs.Common.{sym, ◌∙◌}
use Rattle.set_table.proofs.StayingLaws.{gathered_skipped}
use Rattle.set_table.proofs.staying.Leading.add_run.Goals as goal

pub returns-then-is_empty-clause-gathered : goal.returns-then-is_empty-clause-gathered
returns-then-is_empty-clause-gathered c = λ before g.
    gathered_skipped c.args.members.now before c.args.run.now c.args.bytes.now c.args.self.now c.requires.bounds (sym c.without.ensures ∙ c.is_empty.ensures.0 c.if-is_empty.true) g
