use Rattle.std.proofs.Common.{take}
use Rattle.algebra_minus.specs.Rights.{LeadWithin}
use Rattle.algebra_minus.proofs.covering.lead_within.Given as goal

abbrev pub invariant-loop-way : goal.invariant-loop-way
invariant-loop-way l = LeadWithin (take l.way-index l.row) l.ways
