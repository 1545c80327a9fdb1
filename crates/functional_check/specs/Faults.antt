-- The fault of a formula that is not sequential.
use Rattle.std.specs.Prelude.{◌≡◌, ◌⊎◌, Option, Some}
use Rattle.std.specs.Option.{MatchOption}
use Rattle.std.specs.declared.cmp.Ordering.TheVariants.{Less}
use Rattle.span_core.specs.NameSets.{name_cmp}
use Rattle.spanner_model.specs.Tree.{Tree, empty, one, cat_end, cat, alt_end, alt, rep, cap}
use Rattle.spanner_model.specs.Captures.{VarName}
use Rattle.spanner_model.specs.Sequential.{HasVar, IsSequential}
use Rattle.functional_check.specs.declared.checking.CheckFault.{CheckFault}
use Rattle.functional_check.specs.declared.checking.CheckFault.TheVariants.{BoundTwice, UnderRepeat}

-- x is the least name of P
abbrev pub IsLeast : (VarName → Type 0) → VarName → Type 0
IsLeast P x = P x × ((y : VarName) → P y → ¬ (name_cmp y x ≡ Less))

-- the least name of P, or None where P has no name
abbrev pub IsLeastOf : (VarName → Type 0) → Option VarName → Type 0
IsLeastOf P least = MatchOption least ((x : VarName) → ¬ P x) (IsLeast P)

-- x stands in two parts of a concatenation
abbrev pub InTwoParts : Tree → VarName → Type 0
InTwoParts (cat f rest) x = (HasVar f x × HasVar rest x) ⊎ InTwoParts rest x
InTwoParts _ x = ⊥

-- the fault of the formula itself, where there is none inside it
abbrev pub OwnFault : Tree → CheckFault → Type 0
OwnFault (cat f rest) (BoundTwice x) = IsLeast (InTwoParts (cat f rest)) x
OwnFault (rep f least most) (UnderRepeat x) = ¬ (most ≡ Some 1) × IsLeast (HasVar f) x
OwnFault (cap y f) (BoundTwice x) = (x ≡ y) × HasVar f y
OwnFault _ _ = ⊥

-- the parts of the formula are sequential
abbrev pub HasSequentialParts : Tree → Type 0
HasSequentialParts empty = Unit {0}
HasSequentialParts (one bytes) = Unit {0}
HasSequentialParts cat_end = Unit {0}
HasSequentialParts (cat f rest) = IsSequential f × HasSequentialParts rest
HasSequentialParts alt_end = Unit {0}
HasSequentialParts (alt f rest) = IsSequential f × HasSequentialParts rest
HasSequentialParts (rep f least most) = IsSequential f
HasSequentialParts (cap x f) = IsSequential f

-- a fault inside the formula, or where its parts are sequential its own
abbrev pub IsFaultOver : Type 0 → Tree → CheckFault → Type 0
IsFaultOver Inside f e = Inside ⊎ (HasSequentialParts f × OwnFault f e)

-- the first fault inside the formula: that of its first part that is not sequential
abbrev pub InnerFault : Tree → CheckFault → Type 0
InnerFault empty e = ⊥
InnerFault (one bytes) e = ⊥
InnerFault cat_end e = ⊥
InnerFault (cat f rest) e = IsFaultOver (InnerFault f e) f e ⊎ (IsSequential f × InnerFault rest e)
InnerFault alt_end e = ⊥
InnerFault (alt f rest) e = IsFaultOver (InnerFault f e) f e ⊎ (IsSequential f × InnerFault rest e)
InnerFault (rep f least most) e = IsFaultOver (InnerFault f e) f e
InnerFault (cap x f) e = IsFaultOver (InnerFault f e) f e

-- the fault of the formula: the first one, parts from left to right, and then the formula itself
abbrev pub IsFault : Tree → CheckFault → Type 0
IsFault f e = IsFaultOver (InnerFault f e) f e
