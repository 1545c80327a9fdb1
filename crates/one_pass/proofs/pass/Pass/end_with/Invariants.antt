use Rattle.one_pass.proofs.Sources.{IsEndedTo}
use Rattle.one_pass.proofs.pass.Pass.end_with.Given as goal

-- the first k sources have been ended
abbrev pub invariant-loop-k : goal.invariant-loop-k
invariant-loop-k g l = IsEndedTo l.fn.table l.fn.self l.fn.steps l.k l.table l.graph l.steps
