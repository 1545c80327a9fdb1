-- Laws of faults.
use Rattle.std.specs.Prelude.{◌≡◌}
use Rattle.spanner_model.specs.Tree.{Tree}
use Rattle.spanner_model.specs.Sequential.{IsSequential}
use Rattle.functional_check.specs.declared.checking.CheckFault.{CheckFault}
use Rattle.functional_check.specs.Faults.{IsFault}

-- a sequential formula has no fault
abbrev pub SequentialHaveNoFault : Type 0
SequentialHaveNoFault = (f : Tree) (e : CheckFault) → IsSequential f → ¬ IsFault f e

-- a formula has one fault at most
abbrev pub FaultsAreOne : Type 0
FaultsAreOne = (f : Tree) (e g : CheckFault) → IsFault f e → IsFault f g → e ≡ g
