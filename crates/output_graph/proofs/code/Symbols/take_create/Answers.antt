use Rattle.std.proofs.Common.{suc, ◌+◌, List, drop, ap, ◌∙◌, subst, add-one}
use Rattle.output_graph.specs.declared.program.Action.TheVariants.{Make}
use Rattle.output_graph.specs.declared.program.Register.{Register}
use Rattle.output_graph.specs.Codes.{DoesAll, IsMaking}
use Rattle.output_graph.proofs.CodeLaws.{action_next}
use Rattle.output_graph.proofs.code.Symbols.take_create.Goals as goal

pub returns : goal.returns
returns c = λ on_it code held does.
    let old = c.args.self.now in
    let actions = c.args.actions.now in (
      c.in-Some.link,
      drop (suc old.done) actions,
      action_next actions old.done (Make c.in-Some.link) c.in-Some.ensures.0,
      subst (λ (xs : List Register). IsMaking xs c.args.making c.in-Some.link) c.as_slice.ensures.value (c.is_making.ensures c.if-not-is_making.false),
      subst (λ (xs : List Register). DoesAll xs (suc old.made) code (drop (suc old.done) actions) held) (c.put.ensures.registers c.if-not-put.false)
          (subst (λ n. DoesAll c.put.new.self.registers.items n code (drop (suc old.done) actions) held) (c.in-Ok.ensures ∙ add-one old.made)
          (subst (λ n. DoesAll c.put.new.self.registers.items c.in-Ok.more code (drop n actions) held) (ap (λ n. n + 1) c.put.ensures.done ∙ add-one old.done) does)),
    )
