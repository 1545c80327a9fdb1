-- The variables of a formula, the rule that no fit captures one twice, and which of them each fit captures (Maturana et al. 2018).
use Rattle.std.specs.Prelude.{◌≡◌, ◌⊎◌, Some}
use Rattle.spanner_model.specs.Tree.{Tree, empty, one, cat_end, cat, alt_end, alt, rep, cap}
use Rattle.spanner_model.specs.Captures.{VarName}

-- x is a variable of the formula
abbrev pub HasVar : Tree → VarName → Type 0
HasVar empty x = ⊥
HasVar (one set) x = ⊥
HasVar cat_end x = ⊥
HasVar (cat f rest) x = HasVar f x ⊎ HasVar rest x
HasVar alt_end x = ⊥
HasVar (alt f rest) x = HasVar f x ⊎ HasVar rest x
HasVar (rep f least most) x = HasVar f x
HasVar (cap y f) x = (y ≡ x) ⊎ HasVar f x

abbrev pub HasNoVar : Tree → Type 0
HasNoVar f = (x : VarName) → HasVar f x → ⊥

-- no variable is in both
abbrev pub HaveApartVars : Tree → Tree → Type 0
HaveApartVars f g = (x : VarName) → HasVar f x → HasVar g x → ⊥

-- parts have no variable in common, nothing under a repetition has a variable unless that is of once at
-- most, and no capture stands inside another of its name
abbrev pub IsSequential : Tree → Type 0
IsSequential empty = Unit {0}
IsSequential (one set) = Unit {0}
IsSequential cat_end = Unit {0}
IsSequential (cat f rest) = IsSequential f × IsSequential rest × HaveApartVars f rest
IsSequential alt_end = Unit {0}
IsSequential (alt f rest) = IsSequential f × IsSequential rest
IsSequential (rep f least most) = IsSequential f × (HasNoVar f ⊎ (most ≡ Some 1))
IsSequential (cap x f) = IsSequential f × (HasVar f x → ⊥)

-- x is a sure variable of the formula: each fit captures it
--   Of no arms every name is sure, since nothing fits.
abbrev pub IsSure : Tree → VarName → Type 0
IsSure empty x = ⊥
IsSure (one set) x = ⊥
IsSure cat_end x = ⊥
IsSure (cat f rest) x = IsSure f x ⊎ IsSure rest x
IsSure alt_end x = Unit {0}
IsSure (alt f rest) x = IsSure f x × IsSure rest x
IsSure (rep f least most) x = (least ≡ 1) × (most ≡ Some 1) × IsSure f x
IsSure (cap y f) x = (y ≡ x) ⊎ IsSure f x
