use Rattle.one_pass.proofs.Parting.{IsReadUpTo}
use Rattle.one_pass.proofs.pass.Pass.read_parts.Given as goal

-- the intervals so far have been read
abbrev pub invariant-loop-part : goal.invariant-loop-part
invariant-loop-part g l = IsReadUpTo l.fn.table l.fn.self l.fn.steps l.parts l.doc l.part-index l.next l.table l.self l.steps
