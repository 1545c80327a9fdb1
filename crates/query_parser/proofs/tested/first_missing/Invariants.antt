use Rattle.std.proofs.Common.{take}
use Rattle.query_parser.proofs.TestedCode.{AreAmong}
use Rattle.query_parser.proofs.tested.first_missing.Given as goal

abbrev pub invariant-loop-k : goal.invariant-loop-k
invariant-loop-k l = AreAmong l.vars (take l.k l.asked)
