use Rattle.rematch_program.proofs.Gathers.{moved_front}
use Rattle.rematch_program.proofs.gather.put_before.Goals as goal

pub returns-clause-moved : goal.returns-clause-moved
returns-clause-moved g c = moved_front c.args.at c.args.end c.args.bytes.now.items c.copy_within.new.self.items c.requires.order c.requires.inside c.copy_within.ensures.items
