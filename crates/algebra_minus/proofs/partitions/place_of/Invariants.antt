use Rattle.std.proofs.Common.{◌≡◌, take}
use Rattle.span_core.specs.Lists.{Has}
use Rattle.algebra_minus.specs.declared.partitions.Part.{Part}
use Rattle.algebra_minus.proofs.partitions.place_of.Given as goal

abbrev pub invariant-loop-part : goal.invariant-loop-part
invariant-loop-part l = (l.k ≡ l.part-index) × ((part : Part) → Has (take l.part-index l.partition) part → part.to ≡ l.to → ⊥)
