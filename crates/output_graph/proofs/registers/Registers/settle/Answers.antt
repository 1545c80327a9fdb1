use Rattle.std.proofs.Common.{◌≡◌, ℕ, List, length, inl, inr, sym, ap, ◌∙◌, arith}
use Rattle.output_graph.specs.Forward.{Layer}
use Rattle.output_graph.specs.Graph.{sets_of}
use Rattle.output_graph.specs.Named.{named}
use Rattle.output_graph.proofs.CodeLaws.{named_take, sets_take}
use Rattle.output_graph.proofs.HeldLaws.{take_length}
use Rattle.output_graph.proofs.NamedLaws.{named_again, named_length, named_sets}
use Rattle.output_graph.proofs.registers.Registers.settle.Goals as goal

pub write_names-requires : goal.write_names-requires
write_names-requires c = sym (ap length c.truncate.ensures.items ∙ take_length c.args.self.now.sources.items (length c.args.sets.now) c.requires)

pub returns-then-before-sets-clause-cells : goal.returns-then-before-sets-clause-cells
returns-then-before-sets-clause-cells c =
    let sets : List ℕ = c.args.sets.now in
    let left : Layer = c.truncate.new.self.items in
    let long : length sets ≡ length left = sym (ap length c.truncate.ensures.items ∙ take_length c.args.self.now.sources.items (length sets) c.requires) in
    ap (named sets) c.write_names.ensures.names ∙ (named_again sets sets left long ∙ (ap (named sets) c.truncate.ensures.items ∙ named_take sets c.args.self.now.sources.items))

pub returns-then-before-sets-clause-every : goal.returns-then-before-sets-clause-every
returns-then-before-sets-clause-every c =
    let sets : List ℕ = c.args.sets.now in
    let left : Layer = c.truncate.new.self.items in
    let long : length sets ≡ length left = sym (ap length c.truncate.ensures.items ∙ take_length c.args.self.now.sources.items (length sets) c.requires) in
    long ∙ sym (ap length c.write_names.ensures.names ∙ named_length sets left long)

pub returns-then-before-sets-clause-names : goal.returns-then-before-sets-clause-names
returns-then-before-sets-clause-names c =
    let sets : List ℕ = c.args.sets.now in
    let left : Layer = c.truncate.new.self.items in
    let long : length sets ≡ length left = sym (ap length c.truncate.ensures.items ∙ take_length c.args.self.now.sources.items (length sets) c.requires) in
    inl (ap (λ (l : Layer). sets_of l) c.write_names.ensures.names ∙ named_sets sets left long)

pub returns-else-before-sets-clause-cells : goal.returns-else-before-sets-clause-cells
returns-else-before-sets-clause-cells c = ap (named c.args.sets.now) c.truncate.ensures.items ∙ named_take c.args.sets.now c.args.self.now.sources.items

pub returns-else-before-sets-clause-every : goal.returns-else-before-sets-clause-every
returns-else-before-sets-clause-every c = sym (ap length c.truncate.ensures.items ∙ take_length c.args.self.now.sources.items (length c.args.sets.now) c.requires)

pub returns-else-before-sets-clause-names : goal.returns-else-before-sets-clause-names
returns-else-before-sets-clause-names c =
    inr (omega (arith, c.if-before-sets.false), ap (λ (l : Layer). sets_of l) c.truncate.ensures.items ∙ sets_take (length c.args.sets.now) c.args.self.now.sources.items)
