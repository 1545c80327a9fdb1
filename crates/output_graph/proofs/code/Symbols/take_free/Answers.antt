use Rattle.std.proofs.Common.{suc, List, drop, sym, ap, ◌∙◌, subst, slice_get, add-one}
use Rattle.output_graph.specs.declared.program.Action.TheVariants.{Release}
use Rattle.output_graph.specs.declared.program.Register.{Register}
use Rattle.output_graph.specs.Codes.{DoesAll}
use Rattle.output_graph.proofs.CodeLaws.{action_next}
use Rattle.output_graph.proofs.code.Symbols.take_free.Goals as goal

pub returns : goal.returns
returns c = λ on_it code held does. (
  c.in-Some.source,
  drop (suc c.args.self.now.done) c.args.actions.now,
  action_next c.args.actions.now c.args.self.now.done (Release c.in-Some.source) c.in-Some.ensures.0,
  ap (λ (xs : List Register). slice_get xs c.args.register) (sym c.as_slice.ensures.value) ∙ c.has_at.ensures c.if-not-has_at.false,
  subst (λ n. DoesAll c.args.self.now.registers.items c.args.self.now.made code (drop n c.args.actions.now) held) (add-one c.args.self.now.done) does,
)
