-- Sets of names with more names.
use Rattle.std.specs.Prelude.{ℕ, ◌<◌, ◌⊎◌, ◌↔◌, Bool, List, slice_get, MatchBool}
use Rattle.std.specs.Option.{IsSomeAnd}
use Rattle.span_core.specs.declared.TheConstants.{MOST_VARIABLES}
use Rattle.span_core.specs.Lists.{Has, AtMost}
use Rattle.spanner_model.specs.Captures.{VarName}
use Rattle.spanner_model.specs.WellBuilt.{IsWellBuilt}
use Rattle.spanner_model.specs.Expression.{ExprTree, atom, named, union_end, union, join_end, join, project, minus}

-- the old names and those of P, and no others
abbrev pub Adds : List VarName → (VarName → Type 0) → List VarName → Type 0
Adds old P new = (x : VarName) → Has new x ↔ (Has old x ⊎ P x)

-- the old names, and perhaps some of P
abbrev pub AddsSome : List VarName → (VarName → Type 0) → List VarName → Type 0
AddsSome old P new = (x : VarName) → (Has old x → Has new x) × (Has new x → Has old x ⊎ P x)

-- the old names and those of P are not too many for a set
abbrev pub HaveRoom : List VarName → (VarName → Type 0) → Type 0
HaveRoom old P = AtMost MOST_VARIABLES (λ x. Has old x ⊎ P x)

-- what a call that adds the names of P leaves, and that it answers false only where they are too many
abbrev pub Gathered : List VarName → (VarName → Type 0) → Bool → List VarName → Type 0
Gathered old P all new = MatchBool all (Adds old P new) (AddsSome old P new × ¬ HaveRoom old P)

-- the variables of the let k, where these are the variables of all lets in order
abbrev pub vars_in : List (List VarName) → ℕ → VarName → Type 0
vars_in known k x = IsSomeAnd (slice_get known k) (λ names. Has names x)

-- its formulas are well built, and of lets it names the first n alone
abbrev pub IsUnderLets : ℕ → ExprTree → Type 0
IsUnderLets n (atom a) = IsWellBuilt a.formula
IsUnderLets n (named k) = k < n
IsUnderLets n union_end = Unit {0}
IsUnderLets n (union e rest) = IsUnderLets n e × IsUnderLets n rest
IsUnderLets n join_end = Unit {0}
IsUnderLets n (join e rest) = IsUnderLets n e × IsUnderLets n rest
IsUnderLets n (project names e) = IsUnderLets n e
IsUnderLets n (minus e g) = IsUnderLets n e × IsUnderLets n g
