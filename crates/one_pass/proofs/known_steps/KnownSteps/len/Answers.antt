use Rattle.std.proofs.Common.{arith}
use Rattle.one_pass.proofs.KnownStepLaws.{steps_length}
use Rattle.one_pass.proofs.known_steps.KnownSteps.len.Goals as goal

pub returns : goal.returns
returns c =
    let has = c.self.inside.numbers.ok.0 in
    let long = steps_length c.self.inside.programs c.self.inside.numbers.items c.self.invariant in
    rw (← c.self.view_is) (omega arith)
