use Rattle.std.proofs.Common.{arith, ◌∙◌}
use Rattle.std.proofs.lemmas.Grind.{get_or_default_zero}
use Rattle.one_pass.proofs.KnownStepLaws.{steps_length, steps_next}
use Rattle.one_pass.proofs.known_steps.KnownSteps.next.Goals as goal

pub index-requires : goal.index-requires
index-requires c =
    let has = c.self.inside.numbers.ok.0 in
    let long = steps_length c.self.inside.programs c.self.inside.numbers.items c.self.invariant in
    let within = rw (← c.self.view_is) at c.requires in
    omega arith

pub returns : goal.returns
returns c =
    let long = steps_length c.self.inside.programs c.self.inside.numbers.items c.self.invariant in
    let within = rw (← c.self.view_is) at c.requires in
    rw (← c.self.view_is)
    (c.index.ensures
    ∙ (get_or_default_zero c.self.inside.numbers.items c.args.k c.index.result.now (omega arith) ∙ steps_next c.self.inside.programs c.self.inside.numbers.items c.args.k c.self.invariant))
