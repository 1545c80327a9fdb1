use Rattle.one_pass.proofs.KnownStepLaws.{steps_programs}
use Rattle.one_pass.proofs.known_steps.KnownSteps.programs.Goals as goal

pub returns : goal.returns
returns c = rw (← c.self.view_is) (steps_programs c.self.inside.programs c.self.inside.numbers.items c.self.invariant)
