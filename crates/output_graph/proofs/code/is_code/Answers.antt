use Rattle.std.proofs.Common.{◌+◌, ◌++◌, List, drop, sym, ap, ◌∙◌, subst, arith}
use Rattle.output_graph.specs.declared.program.Action.{Action}
use Rattle.output_graph.specs.declared.program.Register.{Register}
use Rattle.output_graph.specs.Codes.{IsTaken}
use Rattle.output_graph.proofs.CodeLaws.{does_end, does_head}
use Rattle.output_graph.proofs.code.is_code.Goals as goal

pub loop-instruction-preserved : goal.loop-instruction-preserved
loop-instruction-preserved c =
    let i = c.loop-instruction.instruction-index in
    let code = c.args.code.now in
    let a = c.instruction-item.result in
    let taken : IsTaken c.args.plan.now.actions.items a c.loop-instruction.symbols c.take.new.self =
    subst (λ (xs : List Action). IsTaken xs a c.loop-instruction.symbols c.take.new.self) c.as_slice.ensures.value (c.take.ensures c.if-not-take.false) in
    let symbols = c.loop-instruction.symbols in
    let held = c.args.plan.now.held.items in
    λ does. c.loop-instruction.invariant
    (does_head symbols.registers.items symbols.made (drop symbols.done c.args.plan.now.actions.items) held code i a c.loop-instruction-test.true
    c.instruction-item.is (taken (drop (i + 1) code) held does))

pub returns : goal.returns
returns c = λ on_it.
    let held = c.begins_with.ensures on_it in
    let symbols = c.loop-instruction.symbols in
    let has = c.args.plan.now.actions.ok.0 in
    c.loop-instruction.invariant
    (does_end symbols.registers.items symbols.made c.args.plan.now.held.items c.args.code.now c.loop-instruction.instruction-index
    c.args.plan.now.actions.items symbols.done (omega (arith, c.loop-instruction-test.false)) (omega (arith, c.len.ensures, c.if-symbols-len.false))
    (held.0, sym c.as_slice-2.ensures.value ∙ (held.1 ∙ ap (λ (xs : List Register). xs ++ held.0) c.as_slice-3.ensures.value)))
