use Rattle.std.proofs.Common.{◌≡◌, length, sym, subst}
use Rattle.one_pass.specs.declared.entries.Entry.TheVariants.{Run}
use Rattle.one_pass.specs.Known.{IsEntry, IsKnown, layer_at}
use Rattle.one_pass.specs.KnownSteps.{known_step_of}
use Rattle.one_pass.proofs.KnownLaws.{entry_last, known_step}
use Rattle.one_pass.proofs.known.Known.add_step.Goals as goal

pub enter-requires-clause-known : goal.enter-requires-clause-known
enter-requires-clause-known c =
    let s = c.args.self.now in
    subst (λ xs. IsKnown c.args.table.now s.layers s.entries xs) (sym c.in-Ok.ensures.added)
    (known_step c.args.table.now s.layers s.entries s.steps (known_step_of c.args.program.now c.args.next) c.requires.known)

pub enter-requires-clause-entry : goal.enter-requires-clause-entry
enter-requires-clause-entry c =
    let s = c.args.self.now in
    let place : c.len-place.result ≡ length s.steps = c.len-place.ensures in
    subst (λ xs. IsEntry c.args.table.now s.layers xs c.args.byte (layer_at s.layers c.args.layer) (Run c.len-place.result)) (sym c.in-Ok.ensures.added)
    (entry_last c.args.table.now s.layers s.steps (known_step_of c.args.program.now c.args.next) c.args.byte (layer_at s.layers c.args.layer)
    c.len-place.result place c.requires.step.look_ups c.requires.step.next)
