use Rattle.std.proofs.Common.{sym, arith}
use Rattle.query_printer.proofs.PrintedSteps.{members_none}
use Rattle.query_printer.proofs.formulas.members.Goals as goal

pub loop-number-init : goal.loop-number-init
loop-number-init c = record { few = omega arith; counted = sym (members_none c.args.set.now) }
