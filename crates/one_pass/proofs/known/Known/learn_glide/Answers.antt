use Rattle.std.proofs.Common.{Some, sym, subst, ap, ◌∙◌}
use Rattle.output_graph.specs.Named.{handing}
use Rattle.one_pass.specs.Known.{AreLookUps}
use Rattle.one_pass.proofs.KnownLaws.{layer_kept, layer_there}
use Rattle.one_pass.proofs.known.Known.learn_glide.Goals as goal

pub enter_glide-requires-clause-glide : goal.enter_glide-requires-clause-glide
enter_glide-requires-clause-glide c =
    let s = c.args.self.now in
    record {
      to = c.args.to.items;
      there = layer_there s.layers c.args.layer c.requires.within ∙ ap Some (sym (c.are_same.ensures c.if-are_same.true ∙ c.at.ensures) ∙ c.deref.ensures.value);
      look_ups = c.requires.look_ups;
      distinct = c.requires.distinct;
    }

pub returns-in_default : goal.returns-in_default
returns-in_default c = c.number.ensures.keeps c.args.table.now c.requires.known

pub enter_glide-requires-2-clause-known : goal.enter_glide-requires-2-clause-known
enter_glide-requires-2-clause-known c = c.number.ensures.keeps c.args.table.now c.requires.known

pub enter_glide-requires-2-clause-within : goal.enter_glide-requires-2-clause-within
enter_glide-requires-2-clause-within c = (layer_kept _ _ c.args.layer c.number.ensures.layers c.requires.within).0

pub enter_glide-requires-2-clause-glide : goal.enter_glide-requires-2-clause-glide
enter_glide-requires-2-clause-glide c =
    let kept = layer_kept _ _ c.args.layer c.number.ensures.layers c.requires.within in
    record {
      to = c.args.to.items;
      there = c.in-Some.ensures.number;
      look_ups = subst (λ sets. AreLookUps c.args.table.now c.args.byte sets (handing c.args.to.items)) (sym kept.1) c.requires.look_ups;
      distinct = c.requires.distinct;
    }
