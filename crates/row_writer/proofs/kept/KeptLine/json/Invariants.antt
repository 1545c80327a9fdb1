use Rattle.std.proofs.Common.{◌≡◌, ◌++◌, drop}
use Rattle.row_writer.specs.Kept.{heads_of, json_heads, more_members}
use Rattle.row_writer.proofs.kept.KeptLine.json.Given as goal

abbrev pub invariant-loop-k : goal.invariant-loop-k
invariant-loop-k l = heads_of l.fields.items ++ more_members (drop l.k l.vars) ≡ json_heads l.vars
