use Rattle.std.proofs.Common.{Some, sym, subst, ap, ◌∙◌}
use Rattle.one_pass.specs.Known.{AreLookUps}
use Rattle.one_pass.proofs.KnownLaws.{layer_kept}
use Rattle.one_pass.proofs.known.Known.learn_step.Goals as goal

pub returns-in_default-number : goal.returns-in_default-number
returns-in_default-number c = c.number.ensures.keeps c.args.table.now c.requires.known

pub add_step-requires-clause-known : goal.add_step-requires-clause-known
add_step-requires-clause-known c = c.number.ensures.keeps c.args.table.now c.requires.known

pub add_step-requires-clause-within : goal.add_step-requires-clause-within
add_step-requires-clause-within c = (layer_kept _ _ c.args.layer c.number.ensures.layers c.requires.within).0

pub add_step-requires-clause-step : goal.add_step-requires-clause-step
add_step-requires-clause-step c =
    let kept = layer_kept _ _ c.args.layer c.number.ensures.layers c.requires.within in
    record {
      look_ups = subst (λ sets. AreLookUps c.args.table.now c.args.byte sets c.args.program.now.groups) (sym kept.1) c.requires.look_ups;
      next = c.in-Some.ensures.number ∙ ap Some (c.in-Ok.ensures ∙ c.targets.ensures);
    }
