-- What a check of a formula answers, where sets are told by the numbers of their names among these names.
use Rattle.std.specs.Prelude.{◌≡◌, ℕ, ◌⊎◌, ◌↔◌, List, Option, Some, Result, MatchResult}
use Rattle.spanner_model.specs.Tree.{Tree}
use Rattle.spanner_model.specs.Captures.{VarName}
use Rattle.span_core.specs.Lists.{Has}
use Rattle.spanner_model.specs.Sequential.{HasVar, IsSequential}
use Rattle.functional_check.specs.declared.checking.CheckFault.{CheckFault}
use Rattle.functional_check.specs.declared.checking.CheckFault.TheVariants.{BoundTwice, UnderRepeat}
use Rattle.functional_check.specs.declared.name_bits.NameBits.{NameBits}
use Rattle.functional_check.specs.Faults.{IsLeast, IsFault}
use Rattle.functional_check.specs.Numbered.{members}

-- the variables of a sequential formula, or its fault
abbrev pub Checked : List VarName → Tree → Result NameBits CheckFault → Type 0
Checked names f result = MatchResult result (λ vars. IsSequential f × ((x : VarName) → Has (members names vars) x ↔ HasVar f x)) (IsFault f)

-- the same of a repetition, of this greatest number, of a sequential formula with these variables
abbrev pub IsRepeatOf : List VarName → NameBits → Option ℕ → Result NameBits CheckFault → Type 0
IsRepeatOf names vars most result =
    MatchResult result
    (λ left. (left ≡ vars) × (((x : VarName) → ¬ Has (members names vars) x) ⊎ (most ≡ Some 1)))
    (λ e. ¬ (most ≡ Some 1) × ((x : VarName) × IsLeast (Has (members names vars)) x × (e ≡ UnderRepeat x)))

-- the same of a capture
abbrev pub IsCaptureOf : List VarName → VarName → NameBits → Result NameBits CheckFault → Type 0
IsCaptureOf names name vars result =
    MatchResult result
    (λ all. ¬ Has (members names vars) name × ((x : VarName) → Has (members names all) x ↔ (Has (members names vars) x ⊎ (name ≡ x))))
    (λ e. Has (members names vars) name × (e ≡ BoundTwice name))
