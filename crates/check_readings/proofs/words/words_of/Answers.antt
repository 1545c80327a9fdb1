use Rattle.std.proofs.Common.{subst}
use Rattle.check_readings.specs.Waiting.{AreThere}
use Rattle.check_readings.proofs.WaitingLaws.{last_there}
use Rattle.check_readings.proofs.words.words_of.Goals as goal

pub visit-requires-clause-there : goal.visit-requires-clause-there
visit-requires-clause-there g c =
    let store = c.args.lists.now.store in (last_there store c.pop.new.self.items c.in-Some.waiting (subst (AreThere store) c.in-Some.ensures.items c.loop.invariant)).0

pub visit-requires-clause-all : goal.visit-requires-clause-all
visit-requires-clause-all g c =
    let store = c.args.lists.now.store in (last_there store c.pop.new.self.items c.in-Some.waiting (subst (AreThere store) c.in-Some.ensures.items c.loop.invariant)).1
