use Rattle.way_exits.proofs.AheadLaws.{put_kept, put_there}
use Rattle.way_exits.proofs.states.put.Goals as goal

pub returns-in-Ok-clause-kept : goal.returns-in-Ok-clause-kept
returns-in-Ok-clause-kept c x h = put_kept c.args.states.now.items c.push.new.self.items c.args.state x c.in-Ok.ensures.items h

pub returns-in-Ok-clause-there : goal.returns-in-Ok-clause-there
returns-in-Ok-clause-there c is = put_there c.args.states.now.items c.push.new.self.items c.args.state c.in-Ok.ensures.items
