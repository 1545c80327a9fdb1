use Rattle.std.proofs.Common.{◌≡◌, ◌++◌, drop}
use Rattle.row_writer.specs.Kept.{heads_of, more_names, spans_heads}
use Rattle.row_writer.proofs.kept.KeptLine.spans.Given as goal

abbrev pub invariant-loop-k : goal.invariant-loop-k
invariant-loop-k l = heads_of l.fields.items ++ more_names (drop l.k l.vars) ≡ spans_heads l.vars
