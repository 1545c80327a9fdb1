use Rattle.std.proofs.Common.{drop}
use Rattle.output_graph.specs.Codes.{DoesAll}
use Rattle.output_graph.proofs.code.is_code.Given as goal

-- what the rest of the code does from here, all of it does from the first
abbrev pub invariant-loop-instruction : goal.invariant-loop-instruction
invariant-loop-instruction l =
    DoesAll l.symbols.registers.items l.symbols.made (drop l.instruction-index l.code) (drop l.symbols.done l.plan.actions.items) l.plan.held.items →
    DoesAll l.fn.first.registers.items l.fn.first.made l.code (drop l.fn.first.done l.plan.actions.items) l.plan.held.items
