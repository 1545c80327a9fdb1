use Rattle.std.proofs.Common.{[], take}
use Rattle.span_core.specs.Lists.{Has}
use Rattle.spanner_model.specs.Captures.{VarName}
use Rattle.spanner_model.specs.Gathered.{Adds}
use Rattle.functional_check.specs.Numbered.{members}
use Rattle.query_parser.proofs.check.projected.Given as goal

abbrev pub invariant-loop-k : goal.invariant-loop-k
invariant-loop-k l = record {
  vars : Adds [] (Has (take l.k l.keep)) (members l.names l.vars);
  known : (x : VarName) → Has (take l.k l.keep) x → Has (members l.names l.bound.vars) x;
}
