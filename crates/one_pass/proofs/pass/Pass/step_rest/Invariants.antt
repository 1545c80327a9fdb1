use Rattle.automaton_reading.specs.Reading.{rest_taken}
use Rattle.one_pass.proofs.Sources.{IsSteppedTo}
use Rattle.one_pass.proofs.pass.Pass.step_rest.Given as goal

-- the first k sources have been stepped
abbrev pub invariant-loop-k : goal.invariant-loop-k
invariant-loop-k g l = IsSteppedTo rest_taken l.fn.table l.fn.self l.fn.steps l.k l.table l.self l.steps
