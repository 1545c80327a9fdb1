use Rattle.one_pass.specs.Flags.{IsKeeping, KeepsWithin}
use Rattle.one_pass.proofs.settling.keep_sources.Given as goal

-- the first k sources have been kept or given up
abbrev pub invariant-loop-k : goal.invariant-loop-k
invariant-loop-k g l = IsKeeping l.fn.graph l.settled l.at l.k l.graph × KeepsWithin l.fn.graph l.settled l.k l.graph l.fn.steps l.steps
