use Rattle.std.proofs.Common.{◌≡◌, ◌-◌}
use Rattle.query_printer.specs.PrintedFormula.{run_end}
use Rattle.query_printer.proofs.formulas.run_end.Given as goal

abbrev pub invariant-loop-end : goal.invariant-loop-end
invariant-loop-end l = run_end l.set (255 - l.byte) l.byte ≡ run_end l.set (255 - l.end) l.end

abbrev pub decreases-loop-end : goal.decreases-loop-end
decreases-loop-end l = 255 - l.end
