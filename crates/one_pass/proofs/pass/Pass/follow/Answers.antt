use Rattle.std.proofs.Common.{◌+◌, refl, ap, ◌∙◌}
use Rattle.std.proofs.lemmas.List.{take_more_set}
use Rattle.std.proofs.lemmas.Option.{slice_get_within}
use Rattle.output_graph.specs.declared.planned.Planned.{Planned}
use Rattle.one_pass.specs.KnownSteps.{KnownStep}
use Rattle.one_pass.proofs.KnownStepLaws.{step_there}
use Rattle.one_pass.proofs.NumberedLaws.{ahead_glides, ahead_runs}
use Rattle.one_pass.proofs.pass.Pass.follow.Goals as goal

pub entry-requires : goal.entry-requires
entry-requires c = c.requires.ahead.there

pub next-next-requires : goal.next-next-requires
next-next-requires c =
    let is = c.in-Run.ensures c.args.table.now c.requires.goes_on.known in
    slice_get_within c.args.self.now.known.steps c.in-Run.step is.0 is.1

pub returns-in-Glide-clause-ahead : goal.returns-in-Glide-clause-ahead
returns-in-Glide-clause-ahead c =
    let is = c.in-Glide.ensures c.args.table.now c.requires.goes_on.known in
    rw (c.led.ensures.layer, c.led.ensures.bytes, c.led.ensures.count) (ahead_glides c.requires.ahead c.requires.left c.in-Glide.next is)

pub returns-else-outlook-planned-clause-ahead : goal.returns-else-outlook-planned-clause-ahead
returns-else-outlook-planned-clause-ahead c =
    let is = c.in-Run.ensures c.args.table.now c.requires.goes_on.known in
    let p = c.args.self.now in
    let x : Planned = record { at = p.at + c.args.outlook.bytes; program = c.in-Run.step } in
    let next = c.next-next.ensures ∙ ap (λ (s : KnownStep). s.next) (step_there p.known.steps c.in-Run.step is.0 is.1) in
    rw (c.led-in-Run.ensures.layer, c.led-in-Run.ensures.bytes, c.led-in-Run.ensures.count, next, take_more_set c.args.planned.now c.args.outlook.count x c.if-outlook-planned.false)
    (ahead_runs c.requires.ahead c.requires.left x refl is.0 is.1 is.2)
