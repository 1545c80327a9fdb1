use Rattle.std.proofs.Common.{rules, arith}
use Rattle.row_writer.proofs.Keeping.{length_heads}
use Rattle.row_writer.proofs.kept.KeptLine.over.Goals as goal

pub invariant_of-result : goal.invariant_of-result
invariant_of-result c = record { lengths = omega (arith, c.in_ok-resize.ensures.len, c.len.ensures, length_heads c.args.fields.items); opened = search rules }
