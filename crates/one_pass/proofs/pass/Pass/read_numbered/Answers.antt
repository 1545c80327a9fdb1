use Rattle.std.proofs.Common.{Some, refl}
use Rattle.one_pass.specs.Numbered.{moved_to}
use Rattle.one_pass.proofs.NumberedLaws.{searched, with_quiet}
use Rattle.one_pass.proofs.pass.Pass.read_numbered.Goals as goal

pub run_programs-requires-clause-within : goal.run_programs-requires-clause-within
run_programs-requires-clause-within g c = rw c.programs.ensures c.look_ahead-outlook.ensures.ahead.within

pub run_programs-requires-clause-begun : goal.run_programs-requires-clause-begun
run_programs-requires-clause-begun g c = c.requires.goes_on.ready.fresh.0

pub run_programs-requires-clause-may : goal.run_programs-requires-clause-may
run_programs-requires-clause-may g c = rw c.programs.ensures (c.look_ahead-outlook.ensures.ahead.may c.args.steps.now)

pub returns-in-Ok-clause-read : goal.returns-in-Ok-clause-read
returns-in-Ok-clause-read g c =
    let p = c.args.self.now in
    let outlook = c.look_ahead-outlook.result in
    let run = rw c.programs.ensures at c.in-Ok.ensures.run in
    let led = c.look_ahead-outlook.ensures.ahead.led c.run_programs.new.self c.args.steps.now c.run_programs.new.steps run in
    let search = with_quiet p.search outlook.quiet in
    record { advanced = searched (Some outlook.layer) (moved_to c.run_programs.new.self outlook.bytes p) search refl led.advanced; stands = led.stands; within = c.look_ahead-outlook.ensures.within }
