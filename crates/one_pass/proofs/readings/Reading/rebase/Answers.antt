use Rattle.one_pass.proofs.Rebasing.{rebased_goes_on, rebased_here}
use Rattle.one_pass.proofs.readings.Reading.rebase.Goals as goal

pub invariant_of-self : goal.invariant_of-self
invariant_of-self c =
    let e = c.rebase.ensures in
    rebased_goes_on c.self.inside.pass c.rebase.new.self c.self.invariant e.graph e.known e.waits c.rebase.result e.value e.at e.same

pub returns-clause-rebased : goal.returns-clause-rebased
returns-clause-rebased c is =
    let e = c.rebase.ensures in
    rebased_here c.self.inside.pass c.rebase.new.self c.self.invariant e.graph c.self.view_is (e.value.0 is) (e.at is)
